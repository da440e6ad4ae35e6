use Rattle.std.proofs.Common.{◌+◌, arith}
use Rattle.std.proofs.lemmas.Result.{err_from_is_err_and}
use Rattle.checkpoint.specs.Reading.{greatest_batch}
use Rattle.checkpoint.proofs.ReaderLemmas.{walks_none, walks_next, walks_fails, walks_done}
use Rattle.checkpoint.proofs.stream.read_batches.Goals as goal

pub loop-init : goal.loop-init
loop-init g c = walks_none g.R.Read.remaining g.R.CountedRead.failed_calls g.R.CountedRead.sure_calls c.args.plan.now c.args.count (8 + greatest_batch c.args.plan.now) c.args.reader.now c.args.text.now

pub returns-in_err-read_batch-clause-fails : goal.returns-in_err-read_batch-clause-fails
returns-in_err-read_batch-clause-fails g c =
    let p = err_from_is_err_and c.from_residual.result c.from_residual.ensures.1 in
    rw (p.1, p.2) (walks_fails (omega arith) c.loop.invariant c.in_err-read_batch.ensures.fails)

pub loop-preserved : goal.loop-preserved
loop-preserved g c = walks_next (omega arith) c.loop.invariant c.in_ok-read_batch.ensures.done

pub returns-clause-done : goal.returns-clause-done
returns-clause-done g c = walks_done (omega arith) c.loop.invariant
