use Rattle.std.proofs.Common.{◌≡◌, map, take}
use Rattle.std.specs.Simd.Lanes.{chunk}
use Rattle.registers.specs.Raised.{raised_over}
use Rattle.registers.proofs.eight.raise_half_by.Given as goal

abbrev pub invariant-loop-other : goal.invariant-loop-other
invariant-loop-other l = l.after ≡ raised_over l.before (map (λ other. chunk l.i 16 other.now) (take l.other-index l.others))
