use Rattle.std.proofs.Common.{List, ℕ, [], ◌++◌, ◌∙◌, ap, sym, arith, map, refl, append-nil}
use Rattle.std.proofs.lemmas.Result.{err_from_is_err_and}
use Rattle.ball_model.specs.Checkpoint.{held_bytes, table_bytes}
use Rattle.figures.specs.Values.{value_of}
use Rattle.checkpoint.specs.declared.sizes.TheConstants.{HEADER_LEN}
use Rattle.checkpoint.specs.Spelling.{table_text}
use Rattle.checkpoint.proofs.HeldLemmas.{rest_is}
use Rattle.checkpoint.proofs.RightLemmas.{behind_front, never}
use Rattle.checkpoint.proofs.saved.saved_of.Goals as goal

pub returns-clause-spelled : goal.returns-clause-spelled
returns-clause-spelled c = λ second.
    let v = c.in_ok-vertices.vertices in
    let table : List ℕ = table_text v.marks.items (map value_of v.tallies.items) v.rows.rows c.in_ok-vertices.sums.items in
    rest_is HEADER_LEN c.args.text.now c.in_ok-_front._front.now c.in_ok-_front.body.now c.in_ok-_front.ensures.split c.in_ok-_front.ensures.length
    ∙ c.in_ok-vertices.ensures.spelled ∙ ap (λ (l : List ℕ). table ++ l) (c.in_ok-held.ensures.spelled second)

pub returns-clause-first_spelled : goal.returns-clause-first_spelled
returns-clause-first_spelled c = λ first.
    let v = c.in_ok-vertices.vertices in
    let table : List ℕ = table_text v.marks.items (map value_of v.tallies.items) v.rows.rows c.in_ok-vertices.sums.items in
    rest_is HEADER_LEN c.args.text.now c.in_ok-_front._front.now c.in_ok-_front.body.now c.in_ok-_front.ensures.split c.in_ok-_front.ensures.length
    ∙ c.in_ok-vertices.ensures.spelled ∙ ap (λ (l : List ℕ). table ++ l) (c.in_ok-held.ensures.none first) ∙ append-nil table

pub returns-clause-bytes : goal.returns-clause-bytes
returns-clause-bytes c = λ i. omega (arith, c.type_inv.text i)

pub returns-in_err-_front-clause-right : goal.returns-in_err-_front-clause-right
returns-in_err-_front-clause-right c = λ second v k part step is. absurd (never (c.in_err-_front.ensures.only (behind_front v c.args.text.now (held_bytes v) k is)))

pub returns-in_err-_front-clause-first : goal.returns-in_err-_front-clause-first
returns-in_err-_front-clause-first c = λ first v k part step is. absurd (never (c.in_err-_front.ensures.only (behind_front v c.args.text.now [] k (is ∙ sym (append-nil (table_bytes v))))))

pub returns-in_err-vertices-clause-right : goal.returns-in_err-vertices-clause-right
returns-in_err-vertices-clause-right c = λ second v k part step is.
    let body = sym (rest_is HEADER_LEN c.args.text.now c.in_ok-_front._front.now c.in_ok-_front.body.now c.in_ok-_front.ensures.split c.in_ok-_front.ensures.length) ∙ is in
    let p = err_from_is_err_and c.from_residual-in_err-vertices.result c.from_residual-in_err-vertices.ensures.1 in
    rw (p.1, p.2) (c.in_err-vertices.ensures.right v (held_bytes v) k part step body)

pub returns-in_err-vertices-clause-first : goal.returns-in_err-vertices-clause-first
returns-in_err-vertices-clause-first c = λ first v k part step is.
    let body = sym (rest_is HEADER_LEN c.args.text.now c.in_ok-_front._front.now c.in_ok-_front.body.now c.in_ok-_front.ensures.split c.in_ok-_front.ensures.length) ∙ is ∙ sym (append-nil (table_bytes v)) in
    let p = err_from_is_err_and c.from_residual-in_err-vertices.result c.from_residual-in_err-vertices.ensures.1 in
    rw (p.1, p.2) (c.in_err-vertices.ensures.right v [] k part step body)

pub returns-in_err-held-clause-right : goal.returns-in_err-held-clause-right
returns-in_err-held-clause-right c = λ second v k part step is.
    let body = sym (rest_is HEADER_LEN c.args.text.now c.in_ok-_front._front.now c.in_ok-_front.body.now c.in_ok-_front.ensures.split c.in_ok-_front.ensures.length) ∙ is in
    let a = c.in_ok-vertices.ensures.right v (held_bytes v) k part step body in
    let p = err_from_is_err_and c.from_residual-in_err-held.result c.from_residual-in_err-held.ensures.1 in
    rw (p.1, p.2) (c.in_err-held.ensures.right second v k.state part a.2)

pub returns-in_err-held-clause-first : goal.returns-in_err-held-clause-first
returns-in_err-held-clause-first c = λ first v k part step is.
    let body = sym (rest_is HEADER_LEN c.args.text.now c.in_ok-_front._front.now c.in_ok-_front.body.now c.in_ok-_front.ensures.split c.in_ok-_front.ensures.length) ∙ is ∙ sym (append-nil (table_bytes v)) in
    let a = c.in_ok-vertices.ensures.right v [] k part step body in
    let p = err_from_is_err_and c.from_residual-in_err-held.result c.from_residual-in_err-held.ensures.1 in
    rw (p.1, p.2) (c.in_err-held.ensures.first first v a.0.rows a.2)

pub returns-clause-right : goal.returns-clause-right
returns-clause-right c = λ second v k part step is.
    let body = sym (rest_is HEADER_LEN c.args.text.now c.in_ok-_front._front.now c.in_ok-_front.body.now c.in_ok-_front.ensures.split c.in_ok-_front.ensures.length) ∙ is in
    let a = c.in_ok-vertices.ensures.right v (held_bytes v) k part step body in
    let held = c.in_ok-held.ensures.right second v k.state part a.2 in
    record {
      part_is = part;
      superstep = step;
      rows = sym a.0.rows;
      marks = sym a.0.marks;
      tallies = sym a.0.tallies;
      sums = sym a.1;
      heard = sym held.heard;
      heard_change = sym held.change;
      accumulated = sym held.accumulated;
      early = sym held.early;
    }

pub returns-clause-first : goal.returns-clause-first
returns-clause-first c = λ first v k part step is.
    let body = sym (rest_is HEADER_LEN c.args.text.now c.in_ok-_front._front.now c.in_ok-_front.body.now c.in_ok-_front.ensures.split c.in_ok-_front.ensures.length) ∙ is ∙ sym (append-nil (table_bytes v)) in
    let a = c.in_ok-vertices.ensures.right v [] k part step body in
    let held = c.in_ok-held.ensures.first first v a.0.rows a.2 in
    record {
      part_is = part;
      superstep = step;
      rows = sym a.0.rows;
      marks = sym a.0.marks;
      tallies = sym a.0.tallies;
      sums = sym a.1;
      heard = sym held.heard;
      heard_change = sym held.change;
      accumulated = sym held.accumulated;
      early = sym held.early;
    }

pub returns-clause-shape : goal.returns-clause-shape
returns-clause-shape c = record { superstep = refl; rows = c.in_ok-vertices.ensures.width; accumulated = c.in_ok-held.ensures.width }
