use Rattle.std.proofs.Common.{◌≡◌, ◌+◌, ◌-◌, ◌/◌, ◌<◌, sym, subst}
use Rattle.ball_model.specs.PlanValue.{PlanValue, part_size}
use Rattle.ball_model.proofs.PartLemmas.{part_size-is}
use Rattle.ball_model.proofs.plan.Plan.part_size.Goals as goal

pub returns : goal.returns
returns c =
    let p = c.args.p in
    let n = c.self.inside.vertices in
    let parts = c.self.inside.parts in
    let below : p < parts = subst (λ (v : PlanValue). p < v.parts) (sym c.self.view_is) c.requires in
    rw (c.from.ensures, c.from-2.ensures)
    (subst (λ (v : PlanValue). (n + (parts - 1 - p)) / parts ≡ part_size v.vertices v.parts p) c.self.view_is (sym (part_size-is n parts p below)))
