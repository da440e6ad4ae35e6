use Rattle.std.proofs.Common.{◌++◌, ℕ, List}
use Rattle.sha2.specs.Hashers.{Holds256}
use Rattle.graph.proofs.DigestLemmas.{members_below}
use Rattle.graph.proofs.digest.add_members.Given as goal

abbrev pub invariant-loop-v : goal.invariant-loop-v
invariant-loop-v l = (m : List ℕ) → Holds256 l.initial.hasher m → Holds256 l.hasher (m ++ members_below l.graph.graph l.v)
