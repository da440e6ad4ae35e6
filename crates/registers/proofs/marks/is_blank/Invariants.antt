use Rattle.std.proofs.Common.{◌≡◌, ◌+◌, false}
use Rattle.registers.specs.Marks.{AreBlank}
use Rattle.registers.proofs.marks.is_blank.Given as goal

abbrev pub invariant-loop-k : goal.invariant-loop-k
invariant-loop-k l = l.any ≡ false → AreBlank l.marks l.from (l.from + l.k)
