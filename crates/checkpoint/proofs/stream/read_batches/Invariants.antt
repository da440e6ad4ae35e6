use Rattle.std.proofs.Common.{◌+◌}
use Rattle.checkpoint.specs.Reading.{greatest_batch}
use Rattle.checkpoint.proofs.ReaderLemmas.{Walks}
use Rattle.checkpoint.proofs.stream.read_batches.Given as goal

-- as many batches were read as rounds are done
abbrev pub invariant-loop : goal.invariant-loop
invariant-loop g l =
    Walks g.R.Read.remaining g.R.CountedRead.failed_calls g.R.CountedRead.sure_calls l.plan l.count l.counter (8 + greatest_batch l.plan) l.initial.reader l.reader l.initial.text l.text
