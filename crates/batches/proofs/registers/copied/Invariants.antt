use Rattle.std.proofs.Common.{◌≡◌, ◌++◌, drop}
use Rattle.batches.specs.Kept.{flat_at}
use Rattle.batches.proofs.registers.copied.Given as goal

abbrev pub invariant-loop-place : goal.invariant-loop-place
invariant-loop-place l = l.own.items ++ flat_at l.width l.table (drop l.place-index l.places) ≡ flat_at l.width l.table l.places
