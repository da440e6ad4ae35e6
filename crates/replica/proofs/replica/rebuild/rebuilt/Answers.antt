use Rattle.std.proofs.Common.{◌≡◌, ◌+◌, ◌≤◌, [], map, refl, ap, sym, ◌∙◌, subst, arith}
use Rattle.replica.proofs.Names.{arc_value, vec_capacity, PartValue, IsPart, PlanValue, measure_of, value_of, length-map}
use Rattle.replica.specs.declared.stage.Stage.TheInside as stage
use Rattle.replica.specs.Hearing.{IsQuiet}
use Rattle.replica.specs.Saved.{KeepsInPlace}
use Rattle.replica.specs.Tables.{TablesValue}
use Rattle.replica.proofs.LevelLemmas.Level.{length-differing}
use Rattle.replica.proofs.LevelLemmas.Next.{lasts_count}
use Rattle.replica.proofs.StartLemmas.Made.{Remade, remade}
use Rattle.replica.proofs.replica.rebuild.rebuilt.Goals as goal
use Rattle.replica.proofs.replica.rebuild.rebuilt.Goals.{After-of-2}

pub of-requires-clause-tallies : goal.of-requires-clause-tallies
of-requires-clause-tallies c = sym (length-map c.args.saved.tallies.items value_of) ∙ lasts_count (measure_of (arc_value c.args.part).plan) c.args.saved.rows.rows _ c.requires.figures.lasts

pub of-requires-2 : goal.of-requires-2
of-requires-2 c = grind (arith, length-differing, c.in_ok-touched.ensures, c.requires.heard.accumulated.count)

-- what is known then
abbrev after : After-of-2 → stage.Inside
after c = record { part = c.args.part; superstep = c.args.saved.superstep; tables = c.of.result; hearing = c.of-2.result; spare = c.in_ok-spare.spare; early = c.in_ok-early.early }

is_remade : (c : After-of-2) → Remade (after c) c.args.saved
is_remade c =
    let a = arc_value c.args.part in
    let s = c.args.saved in
    let sums = c.refill.new.sums in
    let limit : c.limit.result ≡ a.plan.limit = c.limit.ensures.value ∙ ap (λ (p : PlanValue). p.limit) (c.plan.ensures ∙ ap (λ (p : PartValue). p.plan) c.deref-2.ensures) in
    let room : a.plan.limit + 1 ≤ vec_capacity sums = omega (arith, limit, c.refill.ensures.capacity, c.in_ok-sums.ensures.capacity) in
    let early : KeepsInPlace a.plan a.number s.superstep (map arc_value s.early.items) c.in_ok-early.early = rw (← c.deref-4.ensures, ← c.deref-5.ensures.value) c.in_ok-early.ensures in
    remade (after c) s sums.items (vec_capacity sums) c.in_ok-touched.touched.items (subst (λ (p : PartValue). IsPart p) c.deref.ensures c.limits.ensures.part) c.requires refl c.of.ensures (c.refill.ensures.items ∙ c.deref-3.ensures.value) room c.of-2.ensures c.in_ok-touched.ensures early.placed early.told
    (subst (λ (t : TablesValue). IsQuiet (record { width = t.rows.width; rows = [] }) c.in_ok-spare.spare) (sym c.of.ensures) c.in_ok-spare.ensures)

pub invariant_of-result : goal.invariant_of-result
invariant_of-result c = (is_remade c).limits

pub returns : goal.returns
returns c =
    let is = is_remade (goal.at.returns c).After-of-2 in
    record { fields = is.fields; keepable = is.keepable; goes_on = is.goes_on }
