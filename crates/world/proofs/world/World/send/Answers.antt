use Rattle.std.proofs.Common.{◌≡◌, ◌<◌, ◌∙◌, ap, arith, sym}
use Rattle.ball_model.specs.PlanValue.{PlanValue}
use Rattle.world.specs.Shows.{seen_at}
use Rattle.world.proofs.ApplyLemmas.{node_of_replica, send_found}
use Rattle.world.proofs.world.World.send.Goals as goal

pub returns : goal.returns
returns c = λ j.
    let v = c.args.self.now in
    let r = c.in-Some.replica.now in
    let b = c.in_ok-batch.batch in
    let parts : c.parts.result ≡ r.part.plan.parts = c.parts.ensures.value ∙ ap (λ (p : PlanValue). p.parts) c.plan.ensures in
    let below : c.args.target < r.part.plan.parts = omega (arith, parts, c.if-parts-target.false) in
    send_found j c.args.id c.args.target c.in_ok-add_message.field-0 b c.add_message.new.self v r
    (node_of_replica (seen_at v c.args.id) r c.in-Some.ensures.value) below
    (λ e. c.if-target-partition.false (e ∙ sym c.partition.ensures))
    (record { told = λ p t stands. c.in_ok-batch.ensures.stands j p t stands })
    c.in_ok-add_message.ensures.answer c.in_ok-add_message.ensures.sent
