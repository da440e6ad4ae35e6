use Rattle.std.proofs.Common.{◌≡◌, ap, ◌∙◌}
use Rattle.replica.proofs.Names.{PlanValue, State}
use Rattle.replica.proofs.ChangeLemmas.Advance.{missing_is}
use Rattle.replica.proofs.shown.Shown.missing.Goals as goal

pub returns : goal.returns
returns g c =
    let v : State = g.Self.Shown.state c.args.self.now in
    let parts : c.parts.result ≡ v.part.plan.parts = c.parts.ensures.value ∙ ap (λ (a : PlanValue). a.parts) c.plan.ensures in
    c.least_missing.ensures ∙ rw (parts, c.partition.ensures, c.heard.ensures.value) (missing_is v.part.plan.parts v.part.number v.superstep v.heard v.early)
