use Rattle.std.proofs.Common.{◌≡◌, map, take}
use Rattle.gapcode.proofs.lists.Lists.build.Given as goal

abbrev pub invariant-loop-list : goal.invariant-loop-list
invariant-loop-list l = l.builder ≡ map (λ list. list.items) (take l.list-index l.lists)
