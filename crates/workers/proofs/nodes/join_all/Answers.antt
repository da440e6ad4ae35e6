use Rattle.std.proofs.Common.{subst, sym}
use Rattle.std.specs.Vec.Iter.{into_iter_items}
use Rattle.workers.proofs.JobLemmas.{JoiningAll, all_more}
use Rattle.workers.proofs.nodes.join_all.Goals as goal

pub loop-own-preserved : goal.loop-own-preserved
loop-own-preserved g c = λ j o h.
    let i = subst (λ rest. JoiningAll (λ h. h.promise) (λ own. own.items) (λ own. own.items) j o rest c.loop-own.ends.items) c.in-Some.ensures.steps.0 (c.loop-own.invariant j o h) in
    subst (JoiningAll (λ h. h.promise) (λ own. own.items) (λ own. own.items) j o (into_iter_items c.next.new.self)) (sym c.in_ok-push.ensures.items) (all_more (λ h. h.promise) (λ own. own.items) (λ own. own.items) j o c.in-Some.own (into_iter_items c.next.new.self) c.loop-own.ends.items c.in_ok-own.own i (c.in_ok-own.ensures j o))
