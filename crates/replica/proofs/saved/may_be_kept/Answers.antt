use Rattle.std.proofs.Common.{◌≡◌, ◌+◌, ◌*◌, ◌≤◌, ◌<◌, length, map, ap, sym, ◌∙◌, subst, arith}
use Rattle.replica.proofs.Names.{arc_value, iff_false, length-map, BatchValue, BatchName}
use Rattle.replica.specs.Saved.{MayKeep, order_key}
use Rattle.replica.proofs.SavedLemmas.Fits.{key_is, kept_more}
use Rattle.replica.proofs.SavedLemmas.Saved.{may_at, shared_at}
use Rattle.replica.proofs.saved.may_be_kept.Goals as goal
use Rattle.replica.proofs.saved.may_be_kept.Goals.{then-key-next-via-then-key-next, then-key-next-via-else-key-next+then-not-may_keep}

pub returns-then-key-next : goal.returns-then-key-next
returns-then-key-next c =
    let part = c.args.part.now in
    let items = c.args.early.now in
    let k = c.loop-batch.batch-index in
    let b = c.deref.result.now in
    let lt : k < length items = omega arith in
    let long : k < length (map arc_value items) = omega (arith, lt, length-map items (arc_value {X = BatchValue})) in
    let at = shared_at arc_value items k c.batch-item.result b lt c.batch-item.is c.deref.ensures in (
      λ e. cc,
      λ may. absurd (elim c.then-key-next.branch [
        | then-key-next-via-then-key-next w ↦
            let le : c.loop-batch.next ≤ order_key b = grind (arith, key_is, long, at, c.loop-batch.invariant.kept, may) in
            omega (arith, le, w.if-key-next.true, c.from.ensures, ap (λ (n : BatchName). n.superstep) c.name-name.ensures.value, ap (λ (n : BatchName). n.source) c.name-name.ensures.value)
        | then-key-next-via-else-key-next+then-not-may_keep w ↦
            let is : MayKeep part.plan part.number c.args.superstep b = may_at arc_value items k c.batch-item.result b _ _ _ may lt c.batch-item.is c.deref.ensures in
            iff_false w.may_keep.ensures w.if-not-may_keep.true (subst (λ (a : BatchValue). MayKeep part.plan part.number c.args.superstep a) (c.deref.ensures ∙ sym w.deref-else-key-next.ensures) is)
      ]),
    )

pub loop-batch-preserved : goal.loop-batch-preserved
loop-batch-preserved c =
    let part = c.args.part.now in
    let items = c.args.early.now in
    let k = c.loop-batch.batch-index in
    let b = c.deref.result.now in
    let lt : k < length items = omega arith in
    let long : k < length (map arc_value items) = omega (arith, lt, length-map items (arc_value {X = BatchValue})) in
    let at = shared_at arc_value items k c.batch-item.result b lt c.batch-item.is c.deref.ensures in
    let superstep : c.name-name.result.superstep ≡ b.name.superstep = ap (λ (n : BatchName). n.superstep) c.name-name.ensures.value in
    let source : c.from.result ≡ b.name.source = c.from.ensures ∙ ap (λ (n : BatchName). n.source) c.name-name.ensures.value in
    let is : MayKeep part.plan part.number c.args.superstep b = subst (λ (a : BatchValue). MayKeep part.plan part.number c.args.superstep a) (c.deref-else-key-next.ensures ∙ sym c.deref.ensures) (c.may_keep.ensures.0 c.if-not-may_keep.false) in
    let le : c.loop-batch.next ≤ b.name.superstep * 64 + b.name.source = omega (arith, c.if-key-next.false, superstep, source) in
    record { kept = rw (superstep, source) (kept_more part.plan part.number c.args.superstep k c.loop-batch.next (map arc_value items) b long at le is c.loop-batch.invariant.kept) }
