use Rattle.std.proofs.Common.{◌≡◌, not, ◌||◌, false, refl, ap₂, sym, ◌∙◌}
use Rattle.replica.proofs.Names.{bytes_eq, max_each}
use Rattle.registers.specs.Laws.{max_each-repeats}
use Rattle.replica.proofs.SpreadLemmas.{above_stays, changed_is, still_marked}
use Rattle.replica.proofs.PullLemmas.{raised-here, raised-more}
use Rattle.replica.proofs.pull.raise_by_each.Goals as goal

pub loop-place-init : goal.loop-place-init
loop-place-init c = record {
  row = sym (raised-here c.args.row.now);
  above = max_each-repeats c.args.row.now;
  raised = changed_is false c.args.row.now c.args.row.now (λ e. refl, λ e. refl);
}

pub loop-place-preserved : goal.loop-place-preserved
loop-place-preserved c =
    let old = c.args.row.now in
    let row = c.loop-place.row in
    let other = c.row.result.now in
    let inv = c.loop-place.invariant in
    let new : c.max_into-raised.new.dst ≡ max_each row other = c.max_into-raised.ensures.maximum in
    let tells : c.max_into-raised.result ≡ not (bytes_eq c.max_into-raised.new.dst row) = changed_is c.max_into-raised.result c.max_into-raised.new.dst row c.max_into-raised.ensures.unchanged in
    record {
      row = new ∙ ap₂ max_each inv.row c.row.ensures.value ∙ raised-more c.args.rows.now.rows old c.args.places.now c.loop-place.place-index c.loop-place-test.true;
      above = rw new (above_stays old row other inv.above);
      raised = ap₂ (λ a b. a || b) inv.raised tells ∙ rw new (still_marked old row other inv.above);
    }
