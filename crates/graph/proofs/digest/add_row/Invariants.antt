use Rattle.std.proofs.Common.{◌≡◌, ◌++◌, ℕ, List}
use Rattle.sha2.specs.Hashers.{Holds256}
use Rattle.graph.specs.Planning.{target_bytes}
use Rattle.graph.proofs.digest.add_row.Given as goal

abbrev pub invariant-loop-source : goal.invariant-loop-source
invariant-loop-source l = record {
  left : l.fn.sources ≡ l.yielded ++ l.source-iterator;
  holds : (m : List ℕ) → Holds256 l.initial.hasher m → Holds256 l.hasher (m ++ target_bytes l.yielded l.target);
}
