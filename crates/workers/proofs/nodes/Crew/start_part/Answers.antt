use Rattle.std.proofs.Common.{◌≡◌, ◌∙◌, ◌+◌, ◌*◌, ℕ, arith, subst, sym}
use Rattle.ball_model.specs.declared.plan.TheConstants.{MOST_REPLICAS}
use Rattle.workers.specs.Job.{HasSplit, IsAssigned}
use Rattle.workers.proofs.JobLemmas.{Starting, split_more, started_some, starting_more}
use Rattle.workers.proofs.nodes.Crew.start_part.Goals as goal

pub loop-replica-preserved : goal.loop-replica-preserved
loop-replica-preserved g c =
    let b = c.args.self.now.board in
    let j = c.args.self.now.job in
    let o = c.args.self.now.options in
    let p : ℕ = c.args.p in
    let k : ℕ = c.loop-replica.replica in
    let i = c.loop-replica.invariant in
    let split = split_more b j (MOST_REPLICAS * p + k) _ _ i.0 c.split-seat.ensures.kept c.split-seat.ensures.left in
    let next : MOST_REPLICAS * p + k + 1 ≡ MOST_REPLICAS * p + (k + 1) = omega arith in (
      subst (λ (n : ℕ). HasSplit b j n c.split-seat.new.self) next split,
      subst (Starting (λ h. h.promise) j o p (k + 1)) (sym c.in_ok-push.ensures.items) (starting_more (λ h. h.promise) j o p k c.loop-replica.children.items c.ok-child.result i.1 (started_some (λ h. IsAssigned j o p k h.promise) c.start_node.result c.ok-child.result c.ok-child.ensures.value c.start_node.ensures.started)),
      c.in_ok-part.ensures.same ∙ i.2,
    )

pub start_node-requires-clause-part : goal.start_node-requires-clause-part
start_node-requires-clause-part g c κs within = c.in_ok-part.ensures.other ∙ c.loop-replica.invariant.2 ∙ c.requires.part
