-- Replicas that say that the run has ended are ready.
use Rattle.std.proofs.Common.{◌≡◌, ℕ, zero, suc, ◌+◌, ◌<◌, Bool, true, ◌==◌, ◌&&◌, List, [], ◌∷◌, length, get_or, refl, arith, ap, sym, subst, ◌∙◌, inl, inr, eq-eqb}
use Rattle.std.specs.Prelude.{Option}
use Rattle.std.specs.List.{All}
use Rattle.std.proofs.lemmas.Bool.{and_from}
use Rattle.ball_model.specs.declared.names.Verdict.{Verdict}
use Rattle.ball_model.specs.PlanValue.{PlanValue, mixing_of}
use Rattle.ball_model.specs.Content.{same_plan}
use Rattle.ball_model.specs.Supersteps.{end_of}
use Rattle.ball_model.specs.Job.{Job, IsJob}
use Rattle.ball_model.specs.State.{State, StandsFor}
use Rattle.replica.specs.Level.{found_verdict, EndsRun}
use Rattle.replica.proofs.LevelLemmas.Busy.{found_verdict-is}
use Rattle.replica.proofs.LevelLemmas.Level.{plan_is, number_is}
use Rattle.replica.proofs.RunsLemmas.Run.{same_plan-self}
use Rattle.report.specs.Ready.{says_end, is_ready, ready_from, are_ready, AllStand}
use Rattle.report.proofs.EndingLemmas.{is_ended}

-- a verdict of an end says so
pub ends_said : (said : Option Verdict) → EndsRun said → says_end said ≡ true
ends_said said ends = elim ends [
  | inl stable ↦ rw stable refl
  | inr limit ↦ rw limit refl
]

-- four tests hold together
pub all_four : (a b c d : Bool) → a ≡ true → b ≡ true → c ≡ true → d ≡ true → (a && b && c && d) ≡ true
all_four a b c d e f g h = rw (e, f, g, h) refl

-- what a replica that has ended is: of the job's plan, and at its end
record IsAtEnd (j : Job) (p : ℕ) (v : State) : Type 0 where
  number : v.part.number ≡ p
  plan : v.part.plan ≡ j.plan
  superstep : v.superstep ≡ end_of (mixing_of j.plan) j.graph j.plan.limit
  ended : says_end (found_verdict v) ≡ true

at_end : (j : Job) (p t : ℕ) (v : State) → StandsFor j p t v → EndsRun (found_verdict v) → IsAtEnd j p v
at_end j p t v h ends =
    let said = ends_said (found_verdict v) ends in
    record {
      number = number_is j p t v h;
      plan = plan_is j p t v h;
      superstep = h.superstep ∙ (is_ended j p t v (found_verdict v) h (found_verdict-is j p t v h) said).at_end;
      ended = said;
    }

-- it is ready under the plan and at the superstep of any other
ready_one : (j : Job) (plan : PlanValue) (t p : ℕ) (v : State) → plan ≡ j.plan → t ≡ end_of (mixing_of j.plan) j.graph j.plan.limit → IsAtEnd j p v → is_ready plan t p v ≡ true
ready_one j plan t p v of_job end h =
    all_four (v.part.number == p) (same_plan plan v.part.plan) (v.superstep == t) (says_end (found_verdict v))
    (eq-eqb v.part.number p h.number)
    (ap (λ a. same_plan a v.part.plan) (of_job ∙ sym h.plan) ∙ same_plan-self v.part.plan)
    (eq-eqb v.superstep t (h.superstep ∙ sym end))
    h.ended

ready_all : (plan : PlanValue) (t p : ℕ) (vs : List State) → ((i : ℕ) (d : State) → i < length vs → is_ready plan t (p + i) (get_or vs i d) ≡ true) → ready_from plan t p vs ≡ true
unfolding ready_from
ready_all plan t p [] each = refl
ready_all plan t p (v ∷ vs) each =
    let none : p + zero ≡ p = omega arith in
    and_from (is_ready plan t p v) (ready_from plan t (p + 1) vs)
    (subst (λ n. is_ready plan t n v ≡ true) none (each zero v (omega arith)))
    (ready_all plan t (p + 1) vs (λ i d lt.
    let next : p + suc i ≡ p + 1 + i = omega arith in
    subst (λ n. is_ready plan t n (get_or vs i d) ≡ true) next (each (suc i) d (omega arith))))

pub ended_are_ready : (j : Job) (replicas : List State) → IsJob j → length replicas ≡ j.plan.parts → AllStand j replicas → All (λ v. EndsRun (found_verdict v)) replicas → are_ready replicas ≡ true
unfolding are_ready
ended_are_ready j [] ok whole stand ended = absurd (let some = ok.plan.parts_from in omega (arith, whole, some))
ended_are_ready j (v ∷ vs) ok whole stand ended =
    let at : (i : ℕ) (d : State) → i < length (v ∷ vs) → IsAtEnd j i (get_or (v ∷ vs) i d) =
    λ i d lt. at_end j i (get_or (v ∷ vs) i d).superstep (get_or (v ∷ vs) i d) (stand.each i d lt) (ended i d lt) in
    let first : IsAtEnd j 0 v = at 0 v (omega arith) in
    and_from (length (v ∷ vs) == v.part.plan.parts) (ready_from v.part.plan v.superstep 0 (v ∷ vs))
    (eq-eqb (length (v ∷ vs)) v.part.plan.parts (whole ∙ ap (λ (q : PlanValue). q.parts) (sym first.plan)))
    (ready_all v.part.plan v.superstep 0 (v ∷ vs) (λ i d lt.
    let here : 0 + i ≡ i = omega arith in
    subst (λ n. is_ready v.part.plan v.superstep n (get_or (v ∷ vs) i d) ≡ true) (sym here)
    (ready_one j v.part.plan v.superstep i (get_or (v ∷ vs) i d) first.plan first.superstep (at i d lt))))
