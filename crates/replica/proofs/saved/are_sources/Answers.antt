use Rattle.std.proofs.Common.{◌≡◌, ◌∙◌, ap, sym, arith, not}
use Rattle.replica.proofs.Names.{not-true, PlanValue}
use Rattle.replica.proofs.SavedLemmas.Fits.{sources_are}
use Rattle.replica.proofs.saved.are_sources.Goals as goal

pub returns : goal.returns
returns c =
    let parts : c.parts-parts.result ≡ c.args.part.now.plan.parts = c.parts-parts.ensures.value ∙ ap (λ (a : PlanValue). a.parts) c.plan.ensures in
    rw (← parts, ← c.partition-own.ensures.value) (
      λ is. sources_are c.parts-parts.result c.partition-own.result c.args.heard c.limits.ensures
          (λ q beyond flag. c.loop-q.invariant.none q beyond (omega (arith, flag, c.loop-q-test.false)))
          (sym c.has-2.ensures ∙ not-true c.has-2.result is),
      λ are. ap not (c.has-2.ensures ∙ are.other),
    )
