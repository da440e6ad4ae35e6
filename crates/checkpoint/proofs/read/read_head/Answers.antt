use Rattle.std.proofs.Common.{◌∙◌, ap, sym, arith}
use Rattle.std.proofs.lemmas.Result.{err_from_is_err_and}
use Rattle.checkpoint.specs.Reading.{check_checkpoint_head, told_body}
use Rattle.checkpoint.proofs.ReaderLemmas.{fails_first, fails_full, has_head, head_fails, piece_grows}
use Rattle.checkpoint.proofs.read.read_head.Goals as goal

pub returns-in_err-read_full-clause-fails : goal.returns-in_err-read_full-clause-fails
returns-in_err-read_full-clause-fails g c =
    let p = err_from_is_err_and c.from_residual.result c.from_residual.ensures.1 in
    rw (p.1, p.2) (fails_first (told_body c.args.part.now) 54 (omega arith) (fails_full 54 _ (omega arith) c.in_err-read_full.ensures.fails))

pub returns-in_err-check_header-clause-fails : goal.returns-in_err-check_header-clause-fails
returns-in_err-check_header-clause-fails g c =
    let part = c.args.part.now in
    let p = err_from_is_err_and c.from_residual-in_err-check_header.result c.from_residual-in_err-check_header.ensures.1 in
    rw (p.1, p.2) (head_fails part c.in_err-check_header.field-0.0 c.in_ok-read_full.ensures.done (omega arith) (c.in_err-check_header.ensures.value ∙ ap (check_checkpoint_head part) c.read_header-header.ensures)
    c.in_err-check_header.ensures.of_bytes c.in_err-check_header.ensures.memory)

pub returns-clause-done : goal.returns-clause-done
returns-clause-done g c = record {
  grows = piece_grows 54 c.in_ok-read_full.ensures.done (omega arith) c.put.ensures;
  long = omega arith;
  head = c.read_header-header.ensures;
}

pub returns-clause-front : goal.returns-clause-front
returns-clause-front g c = λ bytes known.
    let part = c.args.part.now in
    has_head part c.in_ok-read_full.ensures.done (omega arith) (sym (c.check_header.ensures.value ∙ ap (check_checkpoint_head part) c.read_header-header.ensures) ∙ c.in_ok-check_header.was) bytes known

pub returns-clause-checked : goal.returns-clause-checked
returns-clause-checked g c = sym c.check_header.ensures.value ∙ c.in_ok-check_header.was

pub returns-clause-in_time : goal.returns-clause-in_time
returns-clause-in_time g c = c.in_ok-check_header.ensures.in_time

pub returns-clause-small : goal.returns-clause-small
returns-clause-small g c = c.in_ok-check_header.ensures.small
