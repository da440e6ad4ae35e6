use Rattle.std.proofs.Common.{◌≡◌, [], slice_index_or, refl, sym, ap, ◌∙◌}
use Rattle.replica.proofs.Names.{Table}
use Rattle.replica.specs.Tables.{rows_before}
use Rattle.replica.proofs.level.row_before.Goals as goal

pub row-requires : goal.row-requires
unfolding rows_before
row-requires c = rw c.table.ensures (rw c.in-Some.is at c.requires)

pub row-requires-in-None : goal.row-requires-in-None
unfolding rows_before
row-requires-in-None c = rw c.get.ensures (rw c.in-None.is at c.requires)

pub returns-in-Some : goal.returns-in-Some
unfolding rows_before
returns-in-Some c =
    let was : rows_before c.args.rows.now c.args.before.now ≡ c.in-Some.before.table = rw c.in-Some.is refl in
    c.row.ensures.value ∙ ap (λ (table : Table). slice_index_or table.rows c.args.i []) (c.table.ensures ∙ sym was)

pub returns-in-None : goal.returns-in-None
unfolding rows_before
returns-in-None c =
    let was : rows_before c.args.rows.now c.args.before.now ≡ c.args.rows.now = rw c.in-None.is refl in
    c.row-in-None.ensures.value ∙ ap (λ (table : Table). slice_index_or table.rows c.args.i []) (c.get.ensures ∙ sym was)
