use Rattle.std.proofs.Common.{◌≡◌, true, length, ap, sym, ◌∙◌, subst}
use Rattle.replica.specs.Hearing.{HearingValue, Lends}
use Rattle.replica.proofs.HearingLemmas.Spare.{forgot, joined, lent_kept, lent_stale}
use Rattle.replica.proofs.hearing.Hearing.lend.Goals as goal

pub returns-then-len-eq0 : goal.returns-then-len-eq0
returns-then-len-eq0 c = λ rows marks is.
    let none : length c.args.spare.now.accumulated.rows ≡ 0 = ap (λ (a : HearingValue). length a.accumulated.rows) (sym c.spare.view_is) ∙ sym c.len.ensures.value ∙ c.if-len-eq0.true in
    rw (c.forget.ensures ∙ ap forgot c.swap.ensures.x_after, c.swap.ensures.y_after) (lent_kept rows marks c.args.self.now c.args.spare.now is none)

pub returns : goal.returns
returns c = λ rows marks is.
    let a = c.args.self.now in
    let spare = c.args.spare.now in
    let some : length spare.accumulated.rows ≡ 0 → ⊥ = λ none. c.if-len-eq0.false (c.len.ensures.value ∙ ap (λ (h : HearingValue). length h.accumulated.rows) c.spare.view_is ∙ none) in
    let lent = ap (λ (h : HearingValue). record { heard = c.self.inside.heard; change = c.self.inside.change; accumulated = h.accumulated; touched = h.touched }) c.spare.view_is ∙ ap (λ (h : HearingValue). joined h spare) c.self.view_is in
    rw c.forget-2.ensures (subst (λ (l : HearingValue). Lends rows marks a spare true (forgot a) l) (sym lent) (lent_stale rows marks a spare is some))
