use Rattle.std.proofs.Common.{subst, sym}
use Rattle.std.specs.Vec.Iter.{into_iter_items}
use Rattle.workers.proofs.JobLemmas.{Joining, joining_more}
use Rattle.workers.proofs.nodes.join_part.Goals as goal

pub loop-child-preserved : goal.loop-child-preserved
loop-child-preserved g c = λ j o p h.
    let i = subst (λ rest. Joining (λ h. h.promise) j o p rest c.loop-child.ends.items) c.in-Some.ensures.steps.0 (c.loop-child.invariant j o p h) in
    subst (Joining (λ h. h.promise) j o p (into_iter_items c.next.new.self)) (sym c.in_ok-push.ensures.items) (joining_more (λ h. h.promise) j o p c.in-Some.child (into_iter_items c.next.new.self) c.loop-child.ends.items c.end_of.result i (c.end_of.ensures j o p))
