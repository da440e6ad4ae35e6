use Rattle.std.proofs.Common.{◌≡◌, [], ◌∷◌, map, take}
use Rattle.std.specs.Simd.Lanes.{chunk}
use Rattle.registers.specs.Raised.{raised_over}
use Rattle.registers.proofs.eight.raise_register_by.Given as goal

abbrev pub invariant-loop-other : goal.invariant-loop-other
invariant-loop-other l = l.most ∷ [] ≡ raised_over (chunk l.i 1 l.row) (map (λ other. chunk l.i 1 other.now) (take l.other-index l.others))
