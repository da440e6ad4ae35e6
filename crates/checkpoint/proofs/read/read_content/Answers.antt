use Rattle.std.proofs.Common.{◌+◌, refl, sym, arith}
use Rattle.std.proofs.lemmas.Result.{err_from_is_err_and}
use Rattle.checkpoint.specs.Reading.{content_form, told_body, most_checkpoint_body}
use Rattle.checkpoint.proofs.ReaderLemmas.{after-most, content_grown, fails_as, fails_second, told-body, within-content, within-head}
use Rattle.checkpoint.proofs.read.read_content.Goals as goal

pub returns-in_err-header-clause-fails : goal.returns-in_err-header-clause-fails
returns-in_err-header-clause-fails g c =
    let part = c.args.part.now in
    let r = err_from_is_err_and c.from_residual.result c.from_residual.ensures.1 in
    rw (r.1, r.2) (fails_as (content_form part) (54 + most_checkpoint_body part part.plan.limit) (λ _. refl) (omega arith) c.in_err-header.ensures.fails)

pub returns-in_err-read_body-clause-fails : goal.returns-in_err-read_body-clause-fails
returns-in_err-read_body-clause-fails g c =
    let part = c.args.part.now in
    let h = c.in_ok-header.header in
    let p = c.in_ok-header.ensures.done in
    let r = err_from_is_err_and c.from_residual-in_err-read_body.result c.from_residual-in_err-read_body.ensures.1 in
    rw (r.1, r.2) (fails_second (told_body part) (54 + most_checkpoint_body part part.plan.limit) p.grows (omega arith)
    (fails_as (told_body part p.grows.piece) (most_checkpoint_body part part.plan.limit) (λ bytes. told-body part p.grows.piece bytes h (sym p.head) c.in_ok-header.ensures.checked) (after-most part h part.plan.limit c.in_ok-header.ensures.in_time) c.in_err-read_body.ensures.fails))

pub returns-clause-done : goal.returns-clause-done
returns-clause-done g c = content_grown c.args.part.now c.in_ok-header.header c.in_ok-header.ensures.done c.in_ok-header.ensures.checked c.in_ok-header.ensures.in_time c.in_ok-read_body.ensures.done

pub returns-in_err-header-clause-within : goal.returns-in_err-header-clause-within
returns-in_err-header-clause-within g c =
    let r = err_from_is_err_and c.from_residual.result c.from_residual.ensures.1 in
    rw r.1 (within-head c.args.part.now _ _ c.in_err-header.ensures.fails.few)

pub returns-in_err-read_body-clause-within : goal.returns-in_err-read_body-clause-within
returns-in_err-read_body-clause-within g c =
    let p = c.in_ok-header.ensures.done in
    let r = err_from_is_err_and c.from_residual-in_err-read_body.result c.from_residual-in_err-read_body.ensures.1 in
    rw r.1 (within-content c.args.part.now c.in_ok-header.header _ _ _ p.grows.piece p.long (sym p.head) p.grows.takes.consumed c.in_err-read_body.ensures.fails.few)

pub returns-clause-front : goal.returns-clause-front
returns-clause-front g c = λ bytes known. c.in_ok-header.ensures.front bytes known

pub returns-clause-checked : goal.returns-clause-checked
returns-clause-checked g c = c.in_ok-header.ensures.checked

pub returns-clause-small : goal.returns-clause-small
returns-clause-small g c = c.in_ok-header.ensures.small
