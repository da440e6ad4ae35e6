use Rattle.stored.proofs.ReadBlockLemmas.{TellsFirst}
use Rattle.stored.proofs.read.read_blocks.Given as goal

-- what is no more left was read
abbrev pub invariant-loop-left : goal.invariant-loop-left
invariant-loop-left g l = TellsFirst g.R.Read.remaining g.R.CountedRead.failed_calls g.R.CountedRead.sure_calls l.vertices l.left l.initial.reader l.reader l.initial.hasher l.hasher l.builder

abbrev pub decreases-loop-left : goal.decreases-loop-left
decreases-loop-left g l = l.left
