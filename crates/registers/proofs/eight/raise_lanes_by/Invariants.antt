use Rattle.std.proofs.Common.{◌≡◌, map, take}
use Rattle.std.specs.Simd.Lanes.{chunk}
use Rattle.registers.specs.Raised.{raised_over}
use Rattle.registers.proofs.eight.raise_lanes_by.Given as goal

abbrev pub invariant-loop-other : goal.invariant-loop-other
invariant-loop-other l = l.new ≡ raised_over l.old (map (λ other. chunk l.i 32 other.now) (take l.other-index l.others))
