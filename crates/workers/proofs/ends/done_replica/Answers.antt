use Rattle.std.proofs.Common.{◌≡◌, [], arith, subst}
use Rattle.std.proofs.lemmas.List.{nil_from_length}
use Rattle.std.specs.Vec.Iter.{into_iter_items}
use Rattle.workers.specs.Ends.{first_done, first_some}
use Rattle.workers.proofs.EndsLemmas.{first_all, first_more}
use Rattle.workers.proofs.ends.done_replica.Goals as goal

pub loop-end-preserved : goal.loop-end-preserved
loop-end-preserved c =
    first_more c.in-Some.end (into_iter_items c.next.new.self) c.args.ends.items c.loop-end.done c.first_done-done.result
    (subst (λ rest. first_some c.loop-end.done (first_done rest) ≡ first_done c.args.ends.items) c.in-Some.ensures.steps.0 c.loop-end.invariant) c.first_done-done.ensures

pub returns : goal.returns
returns c =
    let none : into_iter_items c.loop-end.end-iterator ≡ [] = nil_from_length _ (omega (arith, c.in-None.ensures.steps.0, c.loop-end.end-iterator.rest.ok.0)) in
    first_all (into_iter_items c.loop-end.end-iterator) c.args.ends.items c.loop-end.done none c.loop-end.invariant
