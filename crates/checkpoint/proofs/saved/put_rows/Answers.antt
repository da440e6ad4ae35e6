use Rattle.std.proofs.Common.{◌≡◌, ◌∙◌, ◌<◌, ◌++◌, ◌+◌, ℕ, List, [], length, get_or, drop, refl, ap, sym, arith}
use Rattle.std.specs.List.{flat_map}
use Rattle.std.proofs.lemmas.List.{length-append, length-set, take_all}
use Rattle.ball_model.specs.Counter.{max_each}
use Rattle.checkpoint.proofs.HeldLemmas.{row_put, rows_next}
use Rattle.checkpoint.proofs.RightLemmas.{never, row_here, row_next, stands_last, stands_next, taken_all}
use Rattle.checkpoint.proofs.saved.put_rows.Goals as goal

pub loop-i-init : goal.loop-i-init
loop-i-init c = record {
  count = refl;
  width = refl;
  zeros = λ k le lt. c.requires k [] lt;
  spelled = refl;
  right = λ wanted rest count wide is. (refl, is);
}

pub loop-i-preserved : goal.loop-i-preserved
loop-i-preserved c =
    let v = c.loop-i.invariant in
    let w = c.loop-i.rows.width in
    let i = c.loop-i.i in
    let rows = c.loop-i.rows.rows in
    let row = c.in_ok-row.row.now in
    let after = c.in_ok-row.after.now in
    let lt : i < length rows = omega arith in
    let len : length row ≡ w = c.in_ok-row.ensures.length ∙ c.width.ensures.value in
    let y = max_each (get_or rows i []) row in
    rw c.raise.ensures.raised (record {
      count = length-set rows i y ∙ v.count;
      width = v.width;
      zeros = rows_next w i rows c.args.bytes.now c.loop-i.rest.now row after lt v.zeros len v.spelled c.in_ok-row.ensures.split;
      spelled = row_put w i rows c.args.bytes.now c.loop-i.rest.now row after lt (v.zeros i (omega arith) lt) len v.spelled c.in_ok-row.ensures.split;
      right = λ wanted rest count wide is.
          let so_far = v.right wanted rest count wide is in
          let also : i < length wanted = omega (arith, lt, count, v.count) in
          let more : List ℕ = flat_map (λ (l : List ℕ). l) (drop (i + 1) wanted) ++ rest in
          let here = row_here w c.loop-i.rest.now row after (get_or wanted i []) more len (wide i also ∙ sym v.width) c.in_ok-row.ensures.split
          (stands_next (λ (l : List ℕ). l) wanted [] i c.loop-i.rest.now rest also so_far.1) in
          (row_next w i rows wanted row lt also (v.zeros i (omega arith) lt) len here.0 so_far.0, here.1);
    })

pub returns-in_err-row-clause-right : goal.returns-in_err-row-clause-right
returns-in_err-row-clause-right c = λ wanted rest count wide is.
    let v = c.loop-i.invariant in
    let i = c.loop-i.i in
    let also : i < length wanted = omega (arith, count, v.count) in
    let more : List ℕ = flat_map (λ (l : List ℕ). l) (drop (i + 1) wanted) ++ rest in
    let here = stands_next (λ (l : List ℕ). l) wanted [] i c.loop-i.rest.now rest also (v.right wanted rest count wide is).1 in
    absurd (never (c.in_err-row.ensures.only (omega (arith, ap (λ (l : List ℕ). length l) here, length-append (get_or wanted i []) more, wide i also, v.width, c.width.ensures.value))))

pub returns-clause-right : goal.returns-clause-right
returns-clause-right c = λ wanted rest count wide is.
    let v = c.loop-i.invariant in
    let i = c.loop-i.i in
    let so_far = v.right wanted rest count wide is in
    (taken_all wanted c.loop-i.rows.rows i (omega arith) (sym (take_all i c.loop-i.rows.rows (omega arith)) ∙ so_far.0), stands_last (λ (l : List ℕ). l) wanted i c.loop-i.rest.now rest (omega (arith, count, v.count)) so_far.1)
