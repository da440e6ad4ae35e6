use Rattle.std.proofs.Common.{◌≡◌, ◌<◌, ℕ, List, [], length, get_or, take, refl, ap, arith, sym, ◌∙◌}
use Rattle.std.proofs.lemmas.Slice.Eq.{bytes_eq-Decides}
use Rattle.replica.proofs.Names.{Table}
use Rattle.replica.specs.Waiting.{rows_along}
use Rattle.replica.proofs.WaitingLemmas.{along-marks, along-more, along-none, length-along}
use Rattle.replica.proofs.waiting.raise_along.Goals as goal

pub loop-edge-init : goal.loop-edge-init
loop-edge-init c =
    let old = c.args.accumulated.now.rows in
    let none : rows_along c.args.rows.now.rows [] old ≡ old = along-none c.args.rows.now.rows old in
    record {
      rows = ap (λ (rows : List (List ℕ)). record c.args.accumulated.now { rows = rows }) (sym none);
      marks = λ i lt. rw none (grind (arith, bytes_eq-Decides));
    }

pub raise-raised-requires-clause-row : goal.raise-raised-requires-clause-row
raise-raised-requires-clause-row c =
    let rows = ap (λ (t : Table). t.rows) c.loop-edge.invariant.rows in
    let within : (get_or c.args.edges.now c.loop-edge.edge-index (0, 0)).1 < length c.args.accumulated.now.rows = c.requires.to c.loop-edge.edge-index (0, 0) c.loop-edge-test.true in
    rw (rows, length-along c.args.rows.now.rows (take c.loop-edge.edge-index c.args.edges.now) c.args.accumulated.now.rows) within

pub loop-edge-preserved : goal.loop-edge-preserved
loop-edge-preserved c =
    let k = c.loop-edge.edge-index in
    let edges = c.args.edges.now in
    let own = c.args.rows.now.rows in
    let old = c.args.accumulated.now.rows in
    let rows = ap (λ (t : Table). t.rows) c.loop-edge.invariant.rows in
    let width = ap (λ (t : Table). t.width) c.loop-edge.invariant.rows in
    let lt = c.loop-edge-test.true in
    let inside : (get_or edges k (0, 0)).1 < length old = c.requires.to k (0, 0) lt in
    record {
      rows = c.raise-raised.ensures.raised ∙ rw (rows, width, c.row.ensures.value, along-more own edges old k (0, 0) lt inside) refl;
      marks = λ i within.
          along-marks own edges old k (0, 0) c.args.touched.now c.loop-edge.touched c.raise-raised.result lt inside (omega (arith, c.loop-edge.auto.touched, c.requires.marks))
          (rw (rows, c.row.ensures.value) at c.raise-raised.ensures.unchanged) c.loop-edge.invariant.marks i within;
    }
