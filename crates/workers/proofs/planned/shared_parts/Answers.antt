use Rattle.std.proofs.Common.{◌≡◌, length, rules, subst, sym}
use Rattle.std.specs.Vec.Iter.{into_iter_items}
use Rattle.workers.proofs.PartsLemmas.{Signing, signing_begun, signing_done, signing_more}
use Rattle.workers.proofs.planned.shared_parts.Goals as goal

pub loop-part-init : goal.loop-part-init
loop-part-init c = λ j parts.
    let begun = signing_begun j c.args.job c.args.parts.items parts in
    let same = c.into_iter-part-iterator.ensures.into_iter_gives in
    rw (same.0, c.in_ok-shared.ensures.items) begun

pub loop-part-preserved : goal.loop-part-preserved
loop-part-preserved c = λ j parts.
    let i = subst (λ rest. Signing j c.args.job rest c.loop-part.shared.items) c.in-Some.ensures.steps.0 (c.loop-part.invariant j parts) in
    subst (Signing j c.args.job (into_iter_items c.next.new.self)) (sym c.in_ok-push.ensures.items)
    (signing_more j c.args.job c.in-Some.part (into_iter_items c.next.new.self) c.loop-part.shared.items c.in_ok-ready.ready i (c.in_ok-ready.ensures j))

pub returns : goal.returns
returns c = λ j parts.
    signing_done j c.args.job (into_iter_items c.loop-part.part-iterator) c.loop-part.shared.items (c.loop-part.invariant j parts) (let e : length (into_iter_items c.loop-part.part-iterator) ≡ 0 = search rules in e)
