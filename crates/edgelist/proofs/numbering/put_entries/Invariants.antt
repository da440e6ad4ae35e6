use Rattle.std.proofs.Common.{ℕ, List}
use Rattle.edgelist.specs.Guessing.{AreGuesses}
use Rattle.edgelist.proofs.numbering.put_entries.Given as goal

abbrev pub invariant-loop-entry : goal.invariant-loop-entry
invariant-loop-entry l = (labels : List (List ℕ)) → AreGuesses labels l.smaller → AreGuesses labels l.initial.entries → AreGuesses labels l.entries
