-- Where a verdict says that the run has ended, the superstep is the definition's end.
use Rattle.std.proofs.Common.{◌≡◌, ℕ, ◌≤◌, nat_le, Bool, true, false, not, ◌&&◌, ◌==◌, Option, None, Some, if◌then◌else◌, refl, ap, arith, sym, ◌∙◌, inl, inr, subst}
use Rattle.std.proofs.lemmas.Bool.{cases_lt, eqb-true, le-leb, leb-true}
use Rattle.ball_model.specs.declared.names.Verdict.{Verdict}
use Rattle.ball_model.specs.declared.names.Verdict.TheVariants as verdict
use Rattle.ball_model.specs.Graph.{Graph}
use Rattle.ball_model.specs.Counter.{Mixing}
use Rattle.ball_model.specs.Change.{any_changed}
use Rattle.ball_model.specs.Supersteps.{end_of, is_stable}
use Rattle.ball_model.specs.PlanValue.{mixing_of}
use Rattle.ball_model.specs.Job.{Job}
use Rattle.ball_model.specs.Content.{missing_of, verdict_unless, verdict_at, verdict_of}
use Rattle.ball_model.specs.State.{State, StandsFor, content_of}
use Rattle.ball_model.proofs.EndLemmas.{end_least, end_within}
use Rattle.report.specs.Ready.{says_end, says_stable}

-- a run at its end
pub record IsEnded (m : Mixing) (g : Graph) (limit t : ℕ) (quiet : Bool) : Type 0 where
  pub at_end : t ≡ end_of m g limit
  pub stable : quiet ≡ is_stable m g t

-- which of the two it is
record Says (some changed last : Bool) (stable : Bool) : Type 0 where
  quiet : stable ≡ true → (some ≡ true) × (changed ≡ false)
  busy : stable ≡ false → (last ≡ true) × ((some && not changed) ≡ false)

says : (some changed last : Bool) → says_end (Some (if some && not changed then verdict.Stable else (if last then verdict.Limit else verdict.GoOn))) ≡ true →
    Says some changed last (says_stable (Some (if some && not changed then verdict.Stable else (if last then verdict.Limit else verdict.GoOn))))
says true false last e = record { quiet = λ h. (refl, refl); busy = λ h. absurd (let bad : true ≡ false = h in cc) }
says true true true e = record { quiet = λ h. absurd (let bad : false ≡ true = h in cc); busy = λ h. (refl, refl) }
says true true false e = absurd (let bad : false ≡ true = e in cc)
says false changed true e = record { quiet = λ h. absurd (let bad : false ≡ true = h in cc); busy = λ h. (refl, refl) }
says false changed false e = absurd (let bad : false ≡ true = e in cc)

held : (missing : Option ℕ) (v : Verdict) → says_end (verdict_unless missing v) ≡ true → verdict_unless missing v ≡ Some v
held None v e = refl
held (Some q) v e = absurd (let bad : false ≡ true = e in cc)

was_changed : (some changed : Bool) → some ≡ true → (some && not changed) ≡ false → not changed ≡ false
was_changed true changed e h = h
was_changed false changed e h = absurd (let bad : false ≡ true = e in cc)

-- the run ended where nothing changed, and else at the limit
ended_by : (m : Mixing) (g : Graph) (limit t : ℕ) (stable : Bool) → 1 ≤ limit → t ≤ end_of m g limit → Says (nat_le 1 t) (any_changed m g t) (t == limit) stable →
    IsEnded m g limit t stable
ended_by m g limit t true some in_time s =
    let (low, quiet) = s.quiet refl in
    record {
      at_end = elim (cases_lt t (end_of m g limit)) [
        | inl before ↦ absurd (let bad : true ≡ false = sym (end_least m g limit t (leb-true 1 t low) before) ∙ quiet in cc)
        | inr at ↦ omega arith
      ];
      stable = ap not (sym quiet);
    }
ended_by m g limit t false some in_time s =
    let (last, busy) = s.busy refl in
    let at : t ≡ limit = eqb-true t limit last in
    let within = (end_within m g limit some).1 in
    let low : 1 ≤ t = omega arith in
    record {
      at_end = omega arith;
      stable = sym (was_changed (nat_le 1 t) (any_changed m g t) (le-leb 1 t low) busy);
    }

-- what the verdict of a replica says of the run
pub is_ended : (j : Job) (p t : ℕ) (v : State) (found : Option Verdict) → StandsFor j p t v → found ≡ verdict_of j p (content_of v) → says_end found ≡ true →
    IsEnded (mixing_of j.plan) j.graph j.plan.limit t (says_stable found)
unfolding verdict_of verdict_at
is_ended j p t v found h is e =
    let m = mixing_of j.plan in
    let now : Verdict = verdict_at j v.superstep in
    let some : found ≡ Some (verdict_at j t) =
    is ∙ held (missing_of j.plan.parts p (content_of v)) now (ap says_end (sym is) ∙ e) ∙ ap (λ s. Some (verdict_at j s)) h.superstep in
    subst (λ o. IsEnded m j.graph j.plan.limit t (says_stable o)) (sym some)
    (ended_by m j.graph j.plan.limit t _ h.job.plan.limit_from h.in_time
    (says (nat_le 1 t) (any_changed m j.graph t) (t == j.plan.limit) (ap says_end (sym some) ∙ e)))
