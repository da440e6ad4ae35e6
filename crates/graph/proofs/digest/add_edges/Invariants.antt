use Rattle.std.proofs.Common.{◌++◌, ℕ, List}
use Rattle.sha2.specs.Hashers.{Holds256}
use Rattle.graph.proofs.DigestLemmas.{bytes_below}
use Rattle.graph.proofs.digest.add_edges.Given as goal

abbrev pub invariant-loop-target : goal.invariant-loop-target
invariant-loop-target l = (m : List ℕ) → Holds256 l.initial.hasher m → Holds256 l.hasher (m ++ bytes_below l.graph.graph l.target)
