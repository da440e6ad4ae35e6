use Rattle.std.proofs.Common.{◌≡◌, ◌++◌, ◌∙◌, ◌^◌, ◌+◌, ℕ, length, map, refl, ap, sym}
use Rattle.std.specs.List.{flat_map}
use Rattle.std.specs.Int.{w128, to_be_bytes}
use Rattle.std.proofs.lemmas.Result.{err_from_is_err_and}
use Rattle.ball_model.specs.Job.{PartValue}
use Rattle.figures.specs.Values.{value_of}
use Rattle.checkpoint.proofs.HeldLemmas.{table_is_read}
use Rattle.checkpoint.proofs.LawLemmas.{sum_fits}
use Rattle.checkpoint.proofs.RightLemmas.{table_here}
use Rattle.checkpoint.proofs.saved.read_table.Goals as goal

pub returns-clause-spelled : goal.returns-clause-spelled
returns-clause-spelled c =
    let v = c.add_vertices.new.vertices in
    table_is_read v.marks.items (map value_of v.tallies.items) v.rows.rows c.in_ok-sums.sums.items c.args.bytes.now c.in_ok-after.after.now c.in_ok-sums.rest.now c.in_ok-after.ensures.told.text c.in_ok-sums.ensures.spelled

pub returns-in_err-vertices-clause-right : goal.returns-in_err-vertices-clause-right
returns-in_err-vertices-clause-right c = λ v rest k part step is.
    let p = err_from_is_err_and c.from_residual.result c.from_residual.ensures.1 in
    rw (p.1, p.2) refl

pub returns-in_err-after-clause-right : goal.returns-in_err-after-clause-right
returns-in_err-after-clause-right c = λ v rest k part step is.
    let size : length v.part.preds ≡ length c.in_ok-vertices.vertices.rows.rows = ap (λ (p : PartValue). length p.preds) part ∙ sym c.in_ok-vertices.ensures.count in
    let width : 2 ^ v.part.plan.log2m ≡ c.in_ok-vertices.vertices.rows.width = ap (λ (p : PartValue). 2 ^ p.plan.log2m) part ∙ sym c.in_ok-vertices.ensures.width in
    let p = err_from_is_err_and c.from_residual-in_err-after.result c.from_residual-in_err-after.ensures.1 in
    rw (p.1, p.2) (c.in_err-after.ensures.right v (flat_map (to_be_bytes w128) v.sums ++ rest) k size width (table_here v c.args.bytes.now rest is))

pub returns-in_err-sums-clause-right : goal.returns-in_err-sums-clause-right
returns-in_err-sums-clause-right c = λ v rest k part step is.
    let size : length v.part.preds ≡ length c.in_ok-vertices.vertices.rows.rows = ap (λ (p : PartValue). length p.preds) part ∙ sym c.in_ok-vertices.ensures.count in
    let width : 2 ^ v.part.plan.log2m ≡ c.in_ok-vertices.vertices.rows.width = ap (λ (p : PartValue). 2 ^ p.plan.log2m) part ∙ sym c.in_ok-vertices.ensures.width in
    let a = c.in_ok-after.ensures.right v (flat_map (to_be_bytes w128) v.sums ++ rest) k size width (table_here v c.args.bytes.now rest is) in
    let p = err_from_is_err_and c.from_residual-in_err-sums.result c.from_residual-in_err-sums.ensures.1 in
    rw (p.1, p.2) (c.in_err-sums.ensures.right v.sums rest (sum_fits v k.state) (k.state.sums.count ∙ ap (λ (n : ℕ). n + 1) step) a.1)

pub returns-clause-right : goal.returns-clause-right
returns-clause-right c = λ v rest k part step is.
    let size : length v.part.preds ≡ length c.in_ok-vertices.vertices.rows.rows = ap (λ (p : PartValue). length p.preds) part ∙ sym c.in_ok-vertices.ensures.count in
    let width : 2 ^ v.part.plan.log2m ≡ c.in_ok-vertices.vertices.rows.width = ap (λ (p : PartValue). 2 ^ p.plan.log2m) part ∙ sym c.in_ok-vertices.ensures.width in
    let a = c.in_ok-after.ensures.right v (flat_map (to_be_bytes w128) v.sums ++ rest) k size width (table_here v c.args.bytes.now rest is) in
    let b = c.in_ok-sums.ensures.right v.sums rest (sum_fits v k.state) (k.state.sums.count ∙ ap (λ (n : ℕ). n + 1) step) a.1 in
    (a.0, b.0, b.1)
