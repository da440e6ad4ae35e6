use Rattle.std.proofs.Common.{length, refl, arith}
use Rattle.stored.specs.Reading.{needs}
use Rattle.stored.proofs.ReadLemmas.{after_sure, ended_fails, needs-err, sure_all, unread_fails}
use Rattle.stored.proofs.read.read_full.Goals as goal

pub returns-in-Full-clause-done : goal.returns-in-Full-clause-done
returns-in-Full-clause-done g c = record { consumed = c.in-Full.ensures.full refl; counted = c.in-Full.ensures.counted (λ same. absurd (cc)); calls = after_sure (length c.args.buffer.now) _ _ c.in-Full.ensures.sure }

pub returns-in-Ended-clause-fails : goal.returns-in-Ended-clause-fails
returns-in-Ended-clause-fails g c =
    let n = length c.args.buffer.now in
    ended_fails (needs n) n c.in-Ended.count c.fill.new.buf (needs-err n) (c.in-Ended.ensures.ended c.in-Ended.count refl) (omega arith) (c.in-Ended.ensures.counted (λ same. absurd (cc)))

pub returns-in-Failed-clause-fails : goal.returns-in-Failed-clause-fails
returns-in-Failed-clause-fails g c =
    let n = length c.args.buffer.now in
    unread_fails (needs n) (c.in-Failed.ensures.failed refl) (λ sure. c.in-Failed.ensures.only (sure_all n _ sure) refl)
