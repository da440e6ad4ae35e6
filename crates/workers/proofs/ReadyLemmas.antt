-- Replicas of all partitions at the end of their run, of which there is a report.
use Rattle.std.proofs.Common.{◌≡◌, ℕ, ◌+◌, ◌<◌, ◌≤◌, [], ◌∷◌, true, ◌==◌, List, length, slice_index_or, refl, ap, arith, sym, ◌∙◌, subst}
use Rattle.std.proofs.lemmas.Bool.Decides.{nat_tests}
use Rattle.std.proofs.lemmas.Bool.{and_from, eq-eqb}
use Rattle.ball_model.specs.PlanValue.{PlanValue, mixing_of}
use Rattle.ball_model.specs.Job.{Job}
use Rattle.ball_model.specs.Content.{same_plan}
use Rattle.ball_model.specs.State.{State, StandsFor}
use Rattle.ball_model.specs.Supersteps.{end_of}
use Rattle.replica.specs.Level.{found_verdict}
use Rattle.replica.proofs.LevelLemmas.Level.{number_of_part, plan_of_part}
use Rattle.replica.proofs.RunsLemmas.Run.{same_plan-self}
use Rattle.report.specs.Ready.{AllStand, are_ready, is_ready, ready_from, says_end}
use Rattle.report.proofs.EndedLemmas.{all_four, ends_said}
use Rattle.workers.specs.Job.{AreDone, EachAt}
use Rattle.workers.specs.Node.{IsDone}
use Rattle.workers.proofs.JobLemmas.{each_is}

-- the last superstep of a job's run
abbrev last : Job → ℕ
last j = end_of (mixing_of j.plan) j.graph j.plan.limit

ready_one : (j : Job) (p : ℕ) (v : State) → IsDone j p v → is_ready j.plan (last j) p v ≡ true
ready_one j p v h =
    let number : v.part.number ≡ p = number_of_part j p v h.stands.part in
    let plan : v.part.plan ≡ j.plan = plan_of_part j p v h.stands.part in
    all_four (v.part.number == p) (same_plan j.plan v.part.plan) (v.superstep == last j) (says_end (found_verdict v))
    (ap (λ n. n == p) number ∙ eq-eqb p p refl) (ap (same_plan j.plan) plan ∙ same_plan-self j.plan) (ap (λ n. n == last j) h.stands.superstep ∙ eq-eqb (last j) (last j) refl) (ends_said (found_verdict v) h.over)

ready_all : (j : Job) (p : ℕ) (rs : List State) → EachAt (IsDone j) p rs → ready_from j.plan (last j) p rs ≡ true
unfolding ready_from
ready_all j p [] h = refl
ready_all j p (v ∷ rest) h = rw (ready_one j p v h.0) (ready_all j (p + 1) rest h.1)

-- then there is a report
pub ready : (j : Job) (rs : List State) → 1 ≤ j.plan.parts → AreDone j rs → are_ready rs ≡ true
unfolding are_ready
ready j [] some h = absurd (omega (arith, h.count))
ready j (v ∷ rest) some h =
    let first : StandsFor j 0 (last j) v = h.each.0.stands in
    let plan : v.part.plan ≡ j.plan = plan_of_part j 0 v first.part in
    let count : (length (v ∷ rest) == j.plan.parts) ≡ true = let e = h.count in grind (arith, nat_tests) in
    and_from (length (v ∷ rest) == v.part.plan.parts) (ready_from v.part.plan v.superstep 0 (v ∷ rest))
    (ap (λ (a : PlanValue). length (v ∷ rest) == a.parts) plan ∙ count)
    (ap (λ a. ready_from a v.superstep 0 (v ∷ rest)) plan ∙ ap (λ n. ready_from j.plan n 0 (v ∷ rest)) first.superstep ∙ ready_all j 0 (v ∷ rest) h.each)

done_at : (j : Job) (rs : List State) (p : ℕ) (d : State) → AreDone j rs → p < length rs → IsDone j p (slice_index_or rs p d)
done_at j rs p d h lt = subst (λ (n : ℕ). IsDone j n (slice_index_or rs p d)) (let e : 0 + p ≡ p = omega arith in e) (each_is (IsDone j) 0 rs p d h.each lt)

-- and each stands for its partition
pub all_stand : (j : Job) (rs : List State) → AreDone j rs → AllStand j rs
all_stand j rs h = record {
  each = λ p d lt.
      let stands : StandsFor j p (last j) (slice_index_or rs p d) = (done_at j rs p d h lt).stands in
      subst (λ t. StandsFor j p t (slice_index_or rs p d)) (sym stands.superstep) stands;
}

-- under the plan of the graph
pub all_planned : (j : Job) (rs : List State) → AreDone j rs → (p : ℕ) (d : State) → p < length rs → (slice_index_or rs p d).part.plan.vertices ≡ j.plan.vertices
all_planned j rs h p d lt =
    let stands : StandsFor j p (last j) (slice_index_or rs p d) = (done_at j rs p d h lt).stands in
    ap (λ (a : PlanValue). a.vertices) (plan_of_part j p (slice_index_or rs p d) stands.part)
