use Rattle.std.proofs.Common.{◌≡◌, ◌<◌, ◌+◌, ◌||◌, ◌==◌, ℕ, List, length, get_or, take, refl, ap, arith, ◌∙◌}
use Rattle.replica.proofs.Names.{Table, list_any_more}
use Rattle.replica.specs.Spread.{stands_in}
use Rattle.replica.proofs.SpreadLemmas.{spread-none, spread-more, length-spread, touched-none, touched-more}
use Rattle.replica.proofs.spread.raise_block.Goals as goal

pub loop-place-init : goal.loop-place-init
loop-place-init c = record {
  rows = ap (λ (rows : List (List ℕ)). record c.args.accumulated.now { rows = rows }) (spread-none c.args.registers.now c.args.accumulated.now.rows);
  marks = λ i lt. touched-none c.args.registers.now c.args.accumulated.now.rows c.args.touched.now i lt;
}

pub raise-raised-requires-clause-row : goal.raise-raised-requires-clause-row
raise-raised-requires-clause-row c =
    let rows = ap (λ (t : Table). t.rows) c.loop-place.invariant.rows in
    let within : get_or c.args.places.now c.loop-place.place-index 0 < length c.args.accumulated.now.rows = c.requires.inside c.loop-place.place-index 0 c.loop-place-test.true in
    rw (rows, length-spread (take c.loop-place.place-index c.args.places.now) c.args.registers.now c.args.accumulated.now.rows) within

pub loop-place-preserved : goal.loop-place-preserved
loop-place-preserved c =
    let k = c.loop-place.place-index in
    let places = c.args.places.now in
    let src = c.args.registers.now in
    let old = c.args.accumulated.now.rows in
    let p = get_or places k 0 in
    let before = take k places in
    let after = take (k + 1) places in
    let rows = ap (λ (t : Table). t.rows) c.loop-place.invariant.rows in
    let width = ap (λ (t : Table). t.width) c.loop-place.invariant.rows in
    let lt : p < length old = c.requires.inside k 0 c.loop-place-test.true in
    let adds : (i : ℕ) → stands_in after i ≡ (stands_in before i || (p == i)) = λ i. list_any_more (λ y. y == i) places k 0 c.loop-place-test.true in
    record {
      rows = c.raise-raised.ensures.raised ∙ rw (rows, width, spread-more before after src p old lt adds) refl;
      marks = λ i inside.
          touched-more before after src p old c.args.touched.now c.loop-place.touched c.raise-raised.result lt (omega (arith, c.loop-place.auto.touched, c.requires.marks)) adds
          (rw rows at c.raise-raised.ensures.unchanged) c.loop-place.invariant.marks i inside;
    }
