use Rattle.std.proofs.Common.{◌≡◌, ◌∙◌, ◌+◌, ◌∷◌, ℕ, ap, subst, sym}
use Rattle.workers.specs.Marks.{HaveEnded, Knower, place_at}
use Rattle.workers.proofs.MarkLemmas.{more_ended}
use Rattle.workers.proofs.running.Running.gone.Goals as goal

pub loop-replica-preserved : goal.loop-replica-preserved
loop-replica-preserved c =
    let part = c.args.part in
    let n = c.loop-replica.replica in
    let before = c.loop-replica.look.me.0 in
    let known : c.is_marked.new.look.me.0 ≡ place_at part n ∷ before = ap (λ (m : Knower). m.0) c.if-not-is_marked.ensures.known ∙ ap (λ (i : ℕ). i ∷ before) c.place_of-place.ensures in (
      c.is_marked.ensures.look ∙ c.loop-replica.invariant.0,
      subst (HaveEnded (n + 1) part) (sym known) (more_ended n part before c.loop-replica.invariant.1),
      c.loop-replica.invariant.2,
    )
