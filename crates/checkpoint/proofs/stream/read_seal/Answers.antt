use Rattle.std.specs.Io.KnownBytes.{Consumes}
use Rattle.std.proofs.Common.{ℕ, List, length, refl, subst, ◌∙◌, arith}
use Rattle.ball_model.proofs.StreamLemmas.{after_fewer}
use Rattle.checkpoint.specs.Reading.{seal_form, TakesBytes}
use Rattle.checkpoint.proofs.ReaderLemmas.{ended_fails, ended_good, full_good, few_more, seal-short, seal_differs, seal_trails, seal_unread, sure_fewer, takes_ended, same_bytes, digest_other, digest_same, flip_false, unread_fails}
use Rattle.checkpoint.proofs.stream.read_seal.Goals as goal

pub returns-in-Ended-clause-fails : goal.returns-in-Ended-clause-fails
returns-in-Ended-clause-fails g c = λ content is.
    ended_fails g.R.Read.remaining g.R.CountedRead.failed_calls g.R.CountedRead.sure_calls _ _ (seal_form content) 32 33 c.in-Ended.count c.fill.new.buf (seal-short content)
    (c.in-Ended.ensures.ended c.in-Ended.count refl) (omega arith) (omega arith) (few_more _ 32 _ _ c.in-Ended.ensures.few (omega arith)) (c.in-Ended.ensures.counted (ended_good c.in-Ended.count))

pub returns-in-Failed-clause-fails : goal.returns-in-Failed-clause-fails
returns-in-Failed-clause-fails g c = λ content is.
    unread_fails (seal_form content) 33 (few_more _ 33 _ _ c.in-Failed.ensures.few (omega arith)) (c.in-Failed.ensures.failed refl)
    (λ sure. c.in-Failed.ensures.only (sure_fewer _ 33 _ sure (omega arith)) refl)

pub returns-then-ne-clause-fails : goal.returns-then-ne-clause-fails
returns-then-ne-clause-fails g c = λ content is.
    let p : TakesBytes g.R.Read.remaining g.R.CountedRead.failed_calls g.R.CountedRead.sure_calls c.args.reader.now c.fill.new.reader c.fill.new.buf =
    record { consumed = c.in-Full.ensures.full refl; counted = c.in-Full.ensures.counted full_good; calls = after_fewer _ (length c.fill.new.buf) _ _ c.in-Full.ensures.sure (omega arith) } in
    seal_differs content p (omega arith) (digest_other c.fill.new.buf c.args.right.now content (c.if-ne.ensures) is)

pub returns-in-Full-fill-clause-fails : goal.returns-in-Full-fill-clause-fails
returns-in-Full-fill-clause-fails g c = λ content is.
    let p : TakesBytes g.R.Read.remaining g.R.CountedRead.failed_calls g.R.CountedRead.sure_calls c.args.reader.now c.fill.new.reader c.fill.new.buf =
    record { consumed = c.in-Full.ensures.full refl; counted = c.in-Full.ensures.counted full_good; calls = after_fewer _ (length c.fill.new.buf) _ _ c.in-Full.ensures.sure (omega arith) } in
    let q : TakesBytes g.R.Read.remaining g.R.CountedRead.failed_calls g.R.CountedRead.sure_calls c.fill.new.reader c.fill-2.new.reader c.fill-2.new.buf =
    record { consumed = c.in-Full-fill.ensures.full refl; counted = c.in-Full-fill.ensures.counted full_good; calls = after_fewer _ (length c.fill-2.new.buf) _ _ c.in-Full-fill.ensures.sure (omega arith) } in
    seal_trails content p (omega arith) (digest_same c.fill.new.buf c.args.right.now content (c.if-ne.ensures) is) q (omega arith)

pub returns-in-Ended-fill-clause-done : goal.returns-in-Ended-fill-clause-done
returns-in-Ended-fill-clause-done g c =
    let p : TakesBytes g.R.Read.remaining g.R.CountedRead.failed_calls g.R.CountedRead.sure_calls c.args.reader.now c.fill.new.reader c.fill.new.buf =
    record { consumed = c.in-Full.ensures.full refl; counted = c.in-Full.ensures.counted full_good; calls = after_fewer _ (length c.fill.new.buf) _ _ c.in-Full.ensures.sure (omega arith) } in
    let same = same_bytes c.fill.new.buf c.args.right.now (flip_false _ c.if-ne.ensures) in
    subst (λ (l : List ℕ). Consumes (g.R.Read.remaining c.args.reader.now) (g.R.Read.remaining c.fill-2.new.reader) l) same
    (takes_ended c.fill-2.new.reader c.in-Ended-fill.count c.fill-2.new.buf p (c.in-Ended-fill.ensures.ended c.in-Ended-fill.count refl) (omega arith))

pub returns-in-Ended-fill-clause-counted : goal.returns-in-Ended-fill-clause-counted
returns-in-Ended-fill-clause-counted g c = c.in-Ended-fill.ensures.counted (ended_good c.in-Ended-fill.count) ∙ c.in-Full.ensures.counted full_good

pub returns-in-Ended-fill-clause-end : goal.returns-in-Ended-fill-clause-end
returns-in-Ended-fill-clause-end g c = (c.in-Ended-fill.ensures.ended c.in-Ended-fill.count refl).last

pub returns-in-Failed-fill-clause-fails : goal.returns-in-Failed-fill-clause-fails
returns-in-Failed-fill-clause-fails g c = λ content is.
    let p : TakesBytes g.R.Read.remaining g.R.CountedRead.failed_calls g.R.CountedRead.sure_calls c.args.reader.now c.fill.new.reader c.fill.new.buf =
    record { consumed = c.in-Full.ensures.full refl; counted = c.in-Full.ensures.counted full_good; calls = after_fewer _ (length c.fill.new.buf) _ _ c.in-Full.ensures.sure (omega arith) } in
    seal_unread content p (omega arith) (few_more _ 1 _ _ c.in-Failed-fill.ensures.few (omega arith)) (c.in-Failed-fill.ensures.failed refl) (λ sure. c.in-Failed-fill.ensures.only sure refl)
