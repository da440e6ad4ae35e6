use Rattle.std.proofs.Common.{◌≡◌, ◌++◌, ◌^◌, ℕ, List, length, arith, ap, subst, sym, ◌∙◌}
use Rattle.std.specs.Int.{w16, to_be_bytes}
use Rattle.std.specs.Arc.{arc_value}
use Rattle.std.specs.List.{All, flat_map}
use Rattle.std.proofs.lemmas.Result.{err_from_is_err_and}
use Rattle.ball_model.specs.Checkpoint.{early_bytes, kept_batches}
use Rattle.ball_model.specs.Job.{PartValue}
use Rattle.ball_model.specs.Table.{Table}
use Rattle.checkpoint.specs.Told.{IsOfPlan}
use Rattle.checkpoint.proofs.HeldLemmas.{held_is_read}
use Rattle.checkpoint.proofs.LawLemmas.{early_are}
use Rattle.checkpoint.proofs.LengthLemmas.{accumulated_wide}
use Rattle.checkpoint.proofs.RightLemmas.{batches_fit, heard_is_read, held_here, held_least, never}
use Rattle.checkpoint.proofs.saved.read_held.Goals as goal

pub returns-clause-spelled : goal.returns-clause-spelled
returns-clause-spelled c =
    rw (ap (λ (t : Table). t.rows) c.accumulated.view_is) (held_is_read arc_value c.in_ok-read_early.field-0.items c.args.bytes.now c.in_ok-fields.fields.now c.in_ok-fields.after.now c.in_ok-rest.rest.now
    c.put_rows.new.rows.rows c.of_bits.result c.in_ok-heard_change.heard_change c.u64_at.result
    c.in_ok-fields.ensures.split c.in_ok-fields.ensures.length (λ i. omega (arith, c.type_inv.bytes i)) c.u64_at.ensures c.of_bits.ensures.back c.in_ok-heard_change.ensures.spelled
    c.in_ok-rest.ensures.spelled c.in_ok-read_early.ensures.spelled)

pub returns-in_err-fields-clause-right : goal.returns-in_err-fields-clause-right
returns-in_err-fields-clause-right c = λ v s part is. absurd (never (c.in_err-fields.ensures.only (omega (arith, ap (λ (l : List ℕ). length l) is, held_least v s))))

pub returns-in_err-heard_change-clause-right : goal.returns-in_err-heard_change-clause-right
returns-in_err-heard_change-clause-right c = λ v s part is.
    let held = held_here v c.args.bytes.now c.in_ok-fields.fields.now c.in_ok-fields.after.now s c.in_ok-fields.ensures.split c.in_ok-fields.ensures.length is in
    let p = err_from_is_err_and c.from_residual-in_err-heard_change.result c.from_residual-in_err-heard_change.ensures.1 in
    rw (p.1, p.2) (c.in_err-heard_change.ensures.right v.heard_change held.change)

pub returns-in_err-rest-clause-right : goal.returns-in_err-rest-clause-right
returns-in_err-rest-clause-right c = λ v s part is.
    let held = held_here v c.args.bytes.now c.in_ok-fields.fields.now c.in_ok-fields.after.now s c.in_ok-fields.ensures.split c.in_ok-fields.ensures.length is in
    let size : length v.accumulated ≡ length c.in_ok-accumulated.accumulated.rows = s.accumulated.count ∙ s.count ∙ ap (λ (p : PartValue). length p.preds) part ∙ sym c.in_ok-accumulated.ensures.count in
    let width : 2 ^ v.part.plan.log2m ≡ c.in_ok-accumulated.accumulated.width = ap (λ (p : PartValue). 2 ^ p.plan.log2m) part ∙ sym c.in_ok-accumulated.ensures.width in
    let early : List ℕ = to_be_bytes w16 (length (kept_batches v.early)) ++ flat_map early_bytes (kept_batches v.early) in
    let p = err_from_is_err_and c.from_residual-in_err-rest.result c.from_residual-in_err-rest.ensures.1 in
    rw (p.1, p.2) (c.in_err-rest.ensures.right v.accumulated early size (λ i lt. accumulated_wide v s i lt ∙ width) held.rest)

pub returns-in_err-read_early-clause-right : goal.returns-in_err-read_early-clause-right
returns-in_err-read_early-clause-right c = λ v s part is.
    let held = held_here v c.args.bytes.now c.in_ok-fields.fields.now c.in_ok-fields.after.now s c.in_ok-fields.ensures.split c.in_ok-fields.ensures.length is in
    let size : length v.accumulated ≡ length c.in_ok-accumulated.accumulated.rows = s.accumulated.count ∙ s.count ∙ ap (λ (p : PartValue). length p.preds) part ∙ sym c.in_ok-accumulated.ensures.count in
    let width : 2 ^ v.part.plan.log2m ≡ c.in_ok-accumulated.accumulated.width = ap (λ (p : PartValue). 2 ^ p.plan.log2m) part ∙ sym c.in_ok-accumulated.ensures.width in
    let early : List ℕ = to_be_bytes w16 (length (kept_batches v.early)) ++ flat_map early_bytes (kept_batches v.early) in
    let rows = c.in_ok-rest.ensures.right v.accumulated early size (λ i lt. accumulated_wide v s i lt ∙ width) held.rest in
    let of_plan : All (IsOfPlan c.args.part.now.plan) (kept_batches v.early) = subst (λ (q : PartValue). All (IsOfPlan q.plan) (kept_batches v.early)) part (early_are v s) in
    let p = err_from_is_err_and c.from_residual-in_err-read_early.result c.from_residual-in_err-read_early.ensures.1 in
    rw (p.1, p.2) (c.in_err-read_early.ensures.right (kept_batches v.early) of_plan (batches_fit v s) rows.1)

pub returns-clause-right : goal.returns-clause-right
returns-clause-right c = λ v s part is.
    let held = held_here v c.args.bytes.now c.in_ok-fields.fields.now c.in_ok-fields.after.now s c.in_ok-fields.ensures.split c.in_ok-fields.ensures.length is in
    let size : length v.accumulated ≡ length c.in_ok-accumulated.accumulated.rows = s.accumulated.count ∙ s.count ∙ ap (λ (p : PartValue). length p.preds) part ∙ sym c.in_ok-accumulated.ensures.count in
    let width : 2 ^ v.part.plan.log2m ≡ c.in_ok-accumulated.accumulated.width = ap (λ (p : PartValue). 2 ^ p.plan.log2m) part ∙ sym c.in_ok-accumulated.ensures.width in
    let early : List ℕ = to_be_bytes w16 (length (kept_batches v.early)) ++ flat_map early_bytes (kept_batches v.early) in
    let rows = c.in_ok-rest.ensures.right v.accumulated early size (λ i lt. accumulated_wide v s i lt ∙ width) held.rest in
    let of_plan : All (IsOfPlan c.args.part.now.plan) (kept_batches v.early) = subst (λ (q : PartValue). All (IsOfPlan q.plan) (kept_batches v.early)) part (early_are v s) in
    record {
      heard = heard_is_read v c.in_ok-fields.fields.now c.in_ok-fields.after.now c.u64_at.result c.of_bits.result s held c.u64_at.ensures c.of_bits.ensures.value c.of_bits.ensures.back;
      change = c.in_ok-heard_change.ensures.right v.heard_change held.change;
      accumulated = ap (λ (t : Table). t.rows) c.accumulated.view_is ∙ rows.0;
      early = c.in_ok-read_early.ensures.right (kept_batches v.early) of_plan (batches_fit v s) rows.1;
    }
