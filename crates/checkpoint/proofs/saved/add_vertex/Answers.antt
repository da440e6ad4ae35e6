use Rattle.std.proofs.Common.{◌++◌, List, ℕ, length, ap, arith, ◌∙◌}
use Rattle.std.proofs.lemmas.List.{length-append}
use Rattle.std.proofs.lemmas.Result.{err_from_is_err_and}
use Rattle.ball_model.specs.Table.{Table}
use Rattle.checkpoint.proofs.RightLemmas.{never, next_is, row_here}
use Rattle.checkpoint.proofs.SavedLemmas.{added_is}
use Rattle.checkpoint.proofs.saved.add_vertex.Goals as goal

pub returns-clause-added : goal.returns-clause-added
returns-clause-added c =
    added_is c.args.vertices.now (record { rows = c.raise.new.self; marks = c.push_reserved.new.self; tallies = c.push_reserved-2.new.self }) c.args.i
    c.args.bytes.now c.in_ok-mark.after.now c.in_ok-row.row.now c.in_ok-row.rest.now c.in_ok-mark.mark c.in_ok-mark.tally
    c.in_ok-mark.ensures.spelled c.in_ok-row.ensures.split (c.in_ok-row.ensures.length ∙ c.width.ensures.value) c.requires.zeros
    c.push_reserved.ensures.items c.push_reserved-2.ensures.items (ap (λ (t : Table). t.rows) c.raise.ensures.raised)

pub returns-in_err-mark-clause-right : goal.returns-in_err-mark-clause-right
returns-in_err-mark-clause-right c = λ mark tally row rest small wide is.
    let p = err_from_is_err_and c.from_residual.result c.from_residual.ensures.1 in
    rw (p.1, p.2) (c.in_err-mark.ensures.right mark tally (row ++ rest) small is)

pub returns-in_err-row-clause-right : goal.returns-in_err-row-clause-right
returns-in_err-row-clause-right c = λ mark tally row rest small wide is.
    let a = c.in_ok-mark.ensures.right mark tally (row ++ rest) small is in
    absurd (never (c.in_err-row.ensures.only (omega (arith, ap (λ (l : List ℕ). length l) a.2, length-append row rest, wide, c.width.ensures.value))))

pub returns-clause-right : goal.returns-clause-right
returns-clause-right c = λ mark tally row rest small wide is.
    let a = c.in_ok-mark.ensures.right mark tally (row ++ rest) small is in
    let here = row_here c.args.vertices.now.rows.width c.in_ok-mark.after.now c.in_ok-row.row.now c.in_ok-row.rest.now row rest (c.in_ok-row.ensures.length ∙ c.width.ensures.value) wide c.in_ok-row.ensures.split a.2 in (
      next_is c.args.vertices.now (record { rows = c.raise.new.self; marks = c.push_reserved.new.self; tallies = c.push_reserved-2.new.self }) c.args.i c.in_ok-mark.mark c.in_ok-mark.tally c.in_ok-row.row.now mark tally row
          a.0 a.1 here.0 wide c.requires.zeros c.push_reserved.ensures.items c.push_reserved-2.ensures.items (ap (λ (t : Table). t.rows) c.raise.ensures.raised),
      here.1,
    )
