use Rattle.std.proofs.Common.{◌∙◌, subst, sym}
use Rattle.std.specs.Vec.Iter.{into_iter_items}
use Rattle.workers.proofs.EndsLemmas.{here_done, none_has}
use Rattle.workers.proofs.JobLemmas.{CollectSoFar, collect_more}
use Rattle.workers.proofs.ends.collect_done.Goals as goal

pub loop-own-preserved : goal.loop-own-preserved
loop-own-preserved c =
    let own = c.in-Some.own in
    let rest = into_iter_items c.next.new.self in
    let next = c.in-Some.ensures.steps.0 in
    let h = c.loop-own.invariant in
    record {
      have = (here_done (λ own. own.items) own rest (into_iter_items c.loop-own.own-iterator) next h.have).1;
      so_far = λ j o ends. collect_more (λ own. own.items) j o own rest c.loop-own.replicas.items c.push.new.self.items c.in-Some-done_replica.replica
          (subst (λ l. CollectSoFar (λ own. own.items) j o l c.loop-own.replicas.items) next (h.so_far j o ends))
          (sym c.in-Some-done_replica.is ∙ c.done_replica.ensures) c.in_ok-push.ensures.items;
    }

pub unreachable-requires : goal.unreachable-requires
unreachable-requires c =
    let own = c.in-Some.own in
    let here = here_done (λ own. own.items) own (into_iter_items c.next.new.self) (into_iter_items c.loop-own.own-iterator) c.in-Some.ensures.steps.0 c.loop-own.invariant.have in
    none_has own.items (sym c.done_replica.ensures ∙ c.in_default.is) here.0
