use Rattle.std.proofs.Common.{◌∙◌, ap, arith}
use Rattle.std.proofs.lemmas.Result.{err_from_is_err_and}
use Rattle.stored.specs.Reading.{check_stored_head, stored_head_at, told}
use Rattle.stored.proofs.ReadLemmas.{checked_done, checked_fails, fails_first, fails_full, tells_full}
use Rattle.stored.proofs.read.read_header.Goals as goal

pub returns-in_err-read_head-clause-fails : goal.returns-in_err-read_head-clause-fails
returns-in_err-read_head-clause-fails g c =
    let p = err_from_is_err_and c.from_residual.result c.from_residual.ensures.1 in
    rw (p.1, p.2) (fails_first (λ bytes. told (check_stored_head (stored_head_at bytes))) (fails_full 25 _ (omega arith) c.in_err-read_head.ensures.fails))

pub returns-clause-done : goal.returns-clause-done
returns-clause-done g c = checked_done (λ bytes. check_stored_head (stored_head_at bytes)) c.read_head.new.buffer c.checked.result (c.checked.ensures.value ∙ ap check_stored_head c.header_at.ensures) (tells_full 25 _ (omega arith) c.in_ok-read_head.ensures.done)

pub returns-clause-few : goal.returns-clause-few
returns-clause-few g c = c.checked.ensures.few

pub returns-clause-fails : goal.returns-clause-fails
returns-clause-fails g c = checked_fails (λ bytes. check_stored_head (stored_head_at bytes)) c.read_head.new.buffer c.checked.result (c.checked.ensures.value ∙ ap check_stored_head c.header_at.ensures) c.checked.ensures.kind (tells_full 25 _ (omega arith) c.in_ok-read_head.ensures.done)
