use Rattle.std.proofs.Common.{◌≡◌, ◌∙◌, ap, ◌+◌, ◌-◌, ◌*◌, ◌^◌, ◌≤◌, ℕ, List, Result, length, drop, sym, arith}
use Rattle.std.proofs.lemmas.Result.{err_from_is_err_and}
use Rattle.std.proofs.lemmas.List.{length-drop}
use Rattle.batches.specs.declared.error.BatchError.{BatchError}
use Rattle.ball_model.specs.PlanValue.{PlanValue}
use Rattle.batches.specs.Kept.{first_rows}
use Rattle.batches.specs.Reading.{check_rows}
use Rattle.batches.proofs.LoopLemmas.{row_goes_on, row_fails, rows_done, room_goes_on}
use Rattle.batches.proofs.rows.check_body.Goals as goal

next : (plan : PlanValue) (source m left id front : ℕ) (rest after : List ℕ) (total : Result (Unit {0}) BatchError) → id ≡ front → after ≡ drop (4 + m) rest
    → check_rows plan source (front + 1) (first_rows m left (drop (4 + m) rest)) ≡ total → left * (4 + m) ≤ length rest - (4 + m)
    → record { so_far : check_rows plan source (id + 1) (first_rows m left after) ≡ total; room : left * (4 + m) ≤ length after }
next plan source m left id front rest after total e f on room =
    record { so_far = rw (e, f) on; room = rw f (omega (arith, room, length-drop (4 + m) rest)) }

pub check_first_row-requires : goal.check_first_row-requires
check_first_row-requires c = (room_goes_on c.args.count c.loop.counter (2 ^ c.args.plan.now.log2m) (length c.loop.rest.now) c.loop-test.true c.loop.invariant.room).0

pub returns-in_err-id : goal.returns-in_err-id
returns-in_err-id c =
    let p = err_from_is_err_and c.from_residual.result c.from_residual.ensures.1 in
    rw (p.1, p.2) (row_fails c.args.plan.now (2 ^ c.args.plan.now.log2m) c.args.source c.args.count c.loop.counter c.loop.least c.loop.rest.now c.in_err-id.field-0.0 _ c.loop-test.true (sym c.in_err-id.ensures.exact) c.loop.invariant.so_far)

pub loop-preserved : goal.loop-preserved
loop-preserved c =
    let plan = c.args.plan.now in
    let m = 2 ^ c.args.plan.now.log2m in
    let rest = c.loop.rest.now in
    let on = row_goes_on plan m c.args.source c.args.count c.loop.counter c.loop.least rest _ c.loop-test.true (sym c.in_ok-id.ensures.exact) c.loop.invariant.so_far in
    let room = (room_goes_on c.args.count c.loop.counter m (length rest) c.loop-test.true c.loop.invariant.room).1 in
    next plan c.args.source m (c.args.count - (c.loop.counter + 1)) _ _ rest _ _ c.in_ok-id.ensures.id.0 (c.split_at.ensures.back ∙ ap (λ (w : ℕ). drop (4 + w) rest) c.width-size.ensures.value) on room

pub returns : goal.returns
returns c = rows_done c.args.plan.now (2 ^ c.args.plan.now.log2m) c.args.source c.args.count c.loop.counter c.loop.least c.loop.rest.now _ c.loop-test.false c.loop.invariant.so_far
