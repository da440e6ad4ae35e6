use Rattle.std.proofs.Common.{◌≡◌, ◌≢◌, ◌∙◌, ◌<◌, ◌≤◌, ℕ, inl, inr, sym, subst, ap}
use Rattle.std.specs.Io.KnownBytes.{Appends}
use Rattle.std.proofs.lemmas.Result.{on_ok_weaker}
use Rattle.ball_model.specs.PlanValue.{PlanValue}
use Rattle.ball_model.specs.WorldText.{refusal_line}
use Rattle.ball_model.specs.declared.world.WorldError.TheVariants as refusal
use Rattle.node.specs.NodeText.{sent_text}
use Rattle.node.proofs.StepLemmas.{send_refused, send_told}
use Rattle.node.proofs.serve.answer_send.Goals as goal

pub returns-then-parts-target-clause-done : goal.returns-then-parts-target-clause-done
returns-then-parts-target-clause-done g c = λ network body.
    let many : c.args.replica.now.part.plan.parts ≤ c.args.target = subst (λ (n : ℕ). n ≤ c.args.target) (c.parts.ensures.value ∙ ap (λ (q : PlanValue). q.parts) c.plan.ensures) c.if-parts-target.true in
    on_ok_weaker c.tell_no_target.result
    (λ (told : Appends (g.W.Write.contents c.args.writer.now) (g.W.Write.contents c.tell_no_target.new.writer) (refusal_line refusal.NoTarget)).
    send_refused network body c.args.replica.now c.args.target (g.W.Write.contents c.args.writer.now) (g.W.Write.contents c.tell_no_target.new.writer) (inl many) told)
    c.tell_no_target.ensures.done

pub returns-then-target-partition-clause-done : goal.returns-then-target-partition-clause-done
returns-then-target-partition-clause-done g c = λ network body.
    let own : c.args.target ≡ c.args.replica.now.part.number = c.if-target-partition.true ∙ c.partition.ensures in
    on_ok_weaker c.tell_no_target-then-target-partition.result
    (λ (told : Appends (g.W.Write.contents c.args.writer.now) (g.W.Write.contents c.tell_no_target-then-target-partition.new.writer) (refusal_line refusal.NoTarget)).
    send_refused network body c.args.replica.now c.args.target (g.W.Write.contents c.args.writer.now) (g.W.Write.contents c.tell_no_target-then-target-partition.new.writer) (inr own) told)
    c.tell_no_target-then-target-partition.ensures.done

pub returns-clause-done : goal.returns-clause-done
returns-clause-done g c = λ network body.
    let few : c.args.target < c.args.replica.now.part.plan.parts = subst (λ (n : ℕ). c.args.target < n) (c.parts.ensures.value ∙ ap (λ (q : PlanValue). q.parts) c.plan.ensures) c.if-parts-target.false in
    let other : c.args.target ≢ c.args.replica.now.part.number = λ e. c.if-target-partition.false (e ∙ sym c.partition.ensures) in
    on_ok_weaker c.tell_batch.result
    (λ (told : Appends (g.W.Write.contents c.args.writer.now) (g.W.Write.contents c.tell_batch.new.writer) (sent_text c.in_ok-batch.batch)).
    send_told network body c.args.replica.now c.args.target c.in_ok-batch.batch (g.W.Write.contents c.args.writer.now) (g.W.Write.contents c.tell_batch.new.writer) few other c.in_ok-batch.ensures.stands told)
    c.tell_batch.ensures.done
