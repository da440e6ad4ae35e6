use Rattle.std.proofs.Common.{◌≡◌, ℕ, ◌<◌, ◌≤◌, false, slice_index_or}
use Rattle.replica.proofs.saved.are_sources.Given as goal

abbrev pub invariant-loop-q : goal.invariant-loop-q
invariant-loop-q l = record { none : (k : ℕ) → l.parts ≤ k → k < l.q → slice_index_or l.heard k false ≡ false }
