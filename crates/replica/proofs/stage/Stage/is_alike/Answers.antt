use Rattle.std.proofs.Common.{◌≡◌, refl, ap, sym, ◌∙◌, subst}
use Rattle.replica.proofs.Names.{eqb-true, eq-eqb, PartValue, same_plan, State}
use Rattle.replica.specs.Seen.{IsState}
use Rattle.replica.proofs.HearingLemmas.Accumulator.{state_is}
use Rattle.replica.proofs.KeptLemmas.Take.{same_plan_one}
use Rattle.replica.proofs.MergedLemmas.Holding.{alike_from}
use Rattle.replica.proofs.stage.Stage.is_alike.Goals as goal

pub returns-then-is_same : goal.returns-then-is_same
returns-then-is_same c =
    let v = c.args.self.now.state in
    let o = c.args.other.now.state in
    let sv : IsState v = subst (λ (s : State). IsState s) (state_is c.self.view_is) c.self.invariant.state in
    let so : IsState o = subst (λ (s : State). IsState s) (state_is c.other.view_is) c.other.invariant.state in
    let same : c.is_same.result ≡ same_plan v.part.plan o.part.plan = c.is_same.ensures ∙ rw (c.plan.ensures, c.plan-2.ensures) refl in
    let plan : v.part.plan ≡ o.part.plan = same_plan_one v.part.plan o.part.plan (sym same ∙ c.if-is_same.true) in
    let number : c.partition.result ≡ v.part.number = c.partition.ensures.value ∙ ap (λ (a : PartValue). a.number) c.deref.ensures ∙ ap (λ (s : State). s.part.number) (state_is c.self.view_is) in
    let other : c.partition-then-is_same.result ≡ o.part.number = c.partition-then-is_same.ensures.value ∙ ap (λ (a : PartValue). a.number) c.deref-then-is_same.ensures ∙ ap (λ (s : State). s.part.number) (state_is c.other.view_is) in (
      λ e. alike_from v o sv so plan (sym number ∙ eqb-true c.partition.result c.partition-then-is_same.result e ∙ other),
      λ a. eq-eqb c.partition.result c.partition-then-is_same.result (number ∙ a.partition ∙ sym other),
    )
