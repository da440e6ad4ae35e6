use Rattle.std.proofs.Common.{refl, ap, sym, ◌∙◌, subst}
use Rattle.replica.proofs.Names.{PlanValue, PartValue, IsPart, arc_value}
use Rattle.replica.specs.Ahead.{IsTable}
use Rattle.replica.specs.First.{BeginsAs, FirstValue}
use Rattle.replica.proofs.StartLemmas.Made.{begun}
use Rattle.replica.proofs.replica.Replica.with_tables.Goals as goal

pub invariant_of-result : goal.invariant_of-result
invariant_of-result c =
    let first : BeginsAs (arc_value c.args.part) (record { tables = c.first.inside.tables; hearing = c.first.inside.hearing; measure = c.first.inside.estimator; weights = c.first.inside.weights.items }) = subst (λ (f : FirstValue). BeginsAs (arc_value c.args.part) f) (sym c.first.view_is) c.requires.first in
    let parts = c.parts.ensures.value ∙ ap (λ (a : PlanValue). a.parts) c.plan.ensures ∙ ap (λ (a : PartValue). a.plan.parts) c.deref-2.ensures in
    (begun (record { part = c.args.part; superstep = 0; tables = c.first.inside.tables; hearing = c.first.inside.hearing; spare = c.in_ok-spare.spare; early = c.in_ok-early.early }) _
    (subst (λ (a : PartValue). IsPart a) c.deref.ensures c.limits.ensures.part) refl first refl refl (subst (λ n. IsTable n c.in_ok-early.early) parts c.in_ok-early.ensures.table) c.in_ok-early.ensures.none (rw (← c.rows.ensures) c.in_ok-spare.ensures)).limits

pub returns : goal.returns
returns c =
    let first : BeginsAs (arc_value c.args.part) (record { tables = c.first.inside.tables; hearing = c.first.inside.hearing; measure = c.first.inside.estimator; weights = c.first.inside.weights.items }) = subst (λ (f : FirstValue). BeginsAs (arc_value c.args.part) f) (sym c.first.view_is) c.requires.first in
    let parts = c.parts.ensures.value ∙ ap (λ (a : PlanValue). a.parts) c.plan.ensures ∙ ap (λ (a : PartValue). a.plan.parts) c.deref-2.ensures in
    (begun (record { part = c.args.part; superstep = 0; tables = c.first.inside.tables; hearing = c.first.inside.hearing; spare = c.in_ok-spare.spare; early = c.in_ok-early.early }) _
    (subst (λ (a : PartValue). IsPart a) c.deref.ensures c.limits.ensures.part) refl first refl refl (subst (λ n. IsTable n c.in_ok-early.early) parts c.in_ok-early.ensures.table) c.in_ok-early.ensures.none (rw (← c.rows.ensures) c.in_ok-spare.ensures)).starts
