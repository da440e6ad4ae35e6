use Rattle.std.proofs.Common.{◌≡◌, refl, sym, ◌∙◌}
use Rattle.replica.specs.Tables.{rows_before}
use Rattle.replica.proofs.stepping.table_before.Goals as goal

pub returns-in-Some : goal.returns-in-Some
unfolding rows_before
returns-in-Some c =
    let was : rows_before c.args.rows.now c.args.before.now ≡ c.in-Some.before.table = rw c.in-Some.is refl in
    c.table.ensures ∙ sym was

pub returns-in-None : goal.returns-in-None
unfolding rows_before
returns-in-None c =
    let was : rows_before c.args.rows.now c.args.before.now ≡ c.args.rows.now = rw c.in-None.is refl in
    c.get.ensures ∙ sym was
