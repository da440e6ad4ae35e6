use Rattle.std.proofs.Common.{length, refl, arith}
use Rattle.ball_model.proofs.StreamLemmas.{after_fewer}
use Rattle.checkpoint.specs.Reading.{needs}
use Rattle.checkpoint.proofs.ReaderLemmas.{ended_fails, ended_good, full_good, needs-err, unread_fails}
use Rattle.checkpoint.proofs.stream.read_full.Goals as goal

pub returns-in-Full-clause-done : goal.returns-in-Full-clause-done
returns-in-Full-clause-done g c = record { consumed = c.in-Full.ensures.full refl; counted = c.in-Full.ensures.counted full_good; calls = after_fewer _ (length c.fill.new.buf) _ _ c.in-Full.ensures.sure (omega arith) }

pub returns-in-Ended-clause-fails : goal.returns-in-Ended-clause-fails
returns-in-Ended-clause-fails g c =
    let n = length c.args.buffer.now in
    ended_fails g.R.Read.remaining g.R.CountedRead.failed_calls g.R.CountedRead.sure_calls _ _ (needs n) n n c.in-Ended.count c.fill.new.buf (needs-err n)
    (c.in-Ended.ensures.ended c.in-Ended.count refl) (omega arith) (omega arith) c.in-Ended.ensures.few (c.in-Ended.ensures.counted (ended_good c.in-Ended.count))

pub returns-in-Failed-clause-fails : goal.returns-in-Failed-clause-fails
returns-in-Failed-clause-fails g c =
    let n = length c.args.buffer.now in
    unread_fails (needs n) n c.in-Failed.ensures.few (c.in-Failed.ensures.failed refl) (λ is. c.in-Failed.ensures.only is refl)
