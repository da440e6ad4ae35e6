use Rattle.std.proofs.Common.{◌≡◌, refl, ap, sym, ◌∙◌, arith}
use Rattle.replica.proofs.Names.{sum_by, PlanValue, Table, Tally}
use Rattle.replica.specs.Level.{total_of}
use Rattle.replica.proofs.StartLemmas.Start.{first_counters, length-first_rows, started_total}
use Rattle.replica.proofs.tables.Tables.start.Goals as goal

pub start_tallies-requires : goal.start_tallies-requires
start_tallies-requires c = rw (c.requires, ap (λ (t : Table). t.rows) c.in_ok-rows.ensures) (first_counters c.args.part.now c.limits.ensures.part.plan)

pub of-requires-clause-marks : goal.of-requires-clause-marks
of-requires-clause-marks c = rw (c.in_ok-marks.ensures, c.in_ok-rows.ensures) (c.limits.ensures.part.counted ∙ sym c.limits.ensures.part.preds ∙ sym (length-first_rows c.args.part.now))

pub returns : goal.returns
returns c =
    let m = c.args.estimator.now in
    let rows = ap (λ (t : Table). t.rows) c.in_ok-rows.ensures in
    let total : c.sum_of_lasts.result ≡ total_of m c.in_ok-rows.rows.rows =
    c.sum_of_lasts.ensures ∙ ap (sum_by (λ (tally : Tally). tally.last)) c.deref.ensures.value ∙ started_total m c.in_ok-rows.rows.rows c.in_ok-tallies.tallies.items c.in_ok-tallies.ensures in
    rw c.of.ensures (record {
      rows = c.in_ok-rows.ensures;
      marks = c.in_ok-marks.ensures;
      tallies = c.in_ok-tallies.ensures ∙ rw (c.requires, rows) refl;
      sums = c.push_reserved.ensures.items ∙ rw (c.in_ok-sums.ensures.items, total, c.requires, rows) refl;
      room = omega (arith, c.push_reserved.ensures.capacity, c.in_ok-sums.ensures.capacity, c.limit.ensures.value, ap (λ (a : PlanValue). a.limit) c.plan.ensures);
    })
