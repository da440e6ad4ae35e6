-- A replica of the caller's job, from call to call.
use Rattle.std.proofs.Common.{◌≡◌, ◌≢◌, ◌⊎◌, ⊎_elim, ℕ, ◌+◌, ◌<◌, ◌≤◌, max, false, not, ◌==◌, ◌&&◌, Some, sym, ap, ◌∙◌, subst, arith}
use Rattle.std.proofs.lemmas.Bool.{and_parts, not-true, eqb-false}
use Rattle.ball_model.specs.declared.names.BatchName.{BatchName}
use Rattle.ball_model.specs.declared.history.Posted.{Posted}
use Rattle.ball_model.specs.Job.{IsJob, Job, PartValue, part_of}
use Rattle.ball_model.specs.PlanValue.{PlanValue}
use Rattle.ball_model.specs.Batches.{BatchValue, true_batch}
use Rattle.ball_model.specs.Content.{missing_of}
use Rattle.ball_model.specs.State.{State, StandsFor, content_of}
use Rattle.ball_model.specs.History.{Entry, IsAnswer, IsLegal, Post, Recall, board_of, entry, holding_in, with_entry}
use Rattle.ball_model.specs.Join.{Holding}
use Rattle.ball_model.specs.Caller.{Caller, Extends, Called}
use Rattle.ball_model.proofs.EndLemmas.{find_found}
use Rattle.ball_model.proofs.HistoryLemmas.{last_is_answer}
use Rattle.replica.specs.Level.{EndsRun, found_verdict, missing_in}
use Rattle.replica.proofs.LevelLemmas.Level.{plan_is, number_is}
use Rattle.replica.proofs.KeptLemmas.Kept.{true_named}
use Rattle.replica.proofs.LevelLemmas.Busy.{found_verdict-is}
use Rattle.report.proofs.EndedLemmas.{ends_said}
use Rattle.report.proofs.EndingLemmas.{is_ended}
use Rattle.workers.specs.declared.worker.superstep.SuperstepEnd.{SuperstepEnd}
use Rattle.workers.specs.declared.worker.superstep.SuperstepEnd.TheVariants as superstep_end
use Rattle.workers.specs.Node.{HasPosted, HasToldAll, IsDone}
use Rattle.workers.specs.Superstep.{HasRecalled, IsPartOf, IsSuperstepEnd, StandsIn}
use Rattle.workers.proofs.SeenLemmas.{posted_by_call}

-- ---- the job stays
pub stands_later : (v w : Caller) (p : ℕ) (r : State) → Extends v w → StandsIn v p r → StandsIn w p r
stands_later v w p r e h = subst (λ (j : Job). StandsFor j p r.superstep r) (sym e.begins.job) h

pub stands_back : (v w : Caller) (p : ℕ) (r : State) → Extends v w → StandsIn w p r → StandsIn v p r
stands_back v w p r e h = subst (λ (j : Job). StandsFor j p r.superstep r) e.begins.job h

pub part_later : (v w : Caller) (p : ℕ) (x : PartValue) → Extends v w → IsPartOf v p x → IsPartOf w p x
part_later v w p x e h = record {
  job = subst IsJob (sym e.begins.job) h.job;
  below = subst (λ (j : Job). p < j.plan.parts) (sym e.begins.job) h.below;
  part = subst (λ (j : Job). x ≡ part_of j p) (sym e.begins.job) h.part;
}

-- it stands at the superstep that it is at
pub stands_at : (j : Job) (p t : ℕ) (r : State) → StandsFor j p t r → StandsFor j p r.superstep r
stands_at j p t r h = subst (λ (n : ℕ). StandsFor j p n r) (sym h.superstep) h

pub same_stands : (j : Job) (p : ℕ) (r a : State) → StandsFor j p r.superstep r → a ≡ r → StandsFor j a.part.number a.superstep a
same_stands j p r a h e =
    subst (λ (x : State). StandsFor j x.part.number x.superstep x) (sym e) (subst (λ (n : ℕ). StandsFor j n r.superstep r) (sym (number_is j p r.superstep r h)) h)

-- ---- partitions
pub below_plan : (j : Job) (p t n : ℕ) (r : State) → StandsFor j p t r → n < j.plan.parts → n < r.part.plan.parts
below_plan j p t n r h lt = subst (λ (a : PlanValue). n < a.parts) (sym (plan_is j p t r h)) lt

pub below_job : (j : Job) (p t n : ℕ) (r : State) → StandsFor j p t r → n < r.part.plan.parts → n < j.plan.parts
below_job j p t n r h lt = subst (λ (a : PlanValue). n < a.parts) (plan_is j p t r h) lt

pub below_later : (v w : Caller) (n : ℕ) → Extends v w → n < v.seen.job.plan.parts → n < w.seen.job.plan.parts
below_later v w n e lt = subst (λ (j : Job). n < j.plan.parts) (sym e.begins.job) lt

-- where there is one partition it has no other
pub no_other : (j : Job) (p t n : ℕ) (r : State) → StandsFor j p t r → n < j.plan.parts → n ≢ p → j.plan.parts ≡ 1 → ⊥
no_other j p t n r h lt other one = let own = h.partition in other (omega arith)

-- a source that is missing is another partition
pub missing_source : (j : Job) (p t q : ℕ) (r : State) → StandsFor j p t r → missing_in r ≡ Some q → (q < j.plan.parts) × (q ≢ p)
unfolding missing_of
missing_source j p t q r h is =
    let f = find_found (λ k. not (k == r.part.number) && not ((content_of r).holds (content_of r).superstep k)) 0 r.part.plan.parts q is in
    let lt : q < r.part.plan.parts = omega (arith, f.high) in
    let apart : (q == r.part.number) ≡ false = not-true (q == r.part.number) (and_parts (not (q == r.part.number)) (not ((content_of r).holds (content_of r).superstep q)) f.passes).0 in
    (below_job j p t q r h lt, λ e. eqb-false q r.part.number apart (e ∙ sym (number_is j p t r h)))

-- ---- what is told, and taken
pub true_shared : (j : Job) (name : BatchName) (a b : BatchValue) → a ≡ b → b ≡ true_batch j name → a ≡ true_batch j a.name
true_shared j name a b e is = true_named j name a (e ∙ is)

pub name_of_true : (j : Job) (name : BatchName) (a : BatchValue) → a ≡ true_batch j name → a.name ≡ name
unfolding true_batch
name_of_true j name a is = ap (λ (b : BatchValue). b.name) is

pub told_by_call : (j : Job) (v w : Caller) (name : BatchName) (a b : BatchValue) (r : Posted) → a ≡ b → b ≡ true_batch j name → Called v (Post a.name r) w → HasPosted v name w
told_by_call j v w name a b r e is h = subst (λ (n : BatchName). HasPosted v n w) (name_of_true j name a (e ∙ is)) (posted_by_call v w a.name r h)

pub taken_stands : (j : Job) (p : ℕ) (v w : State) (b : BatchValue) (name : BatchName) → b ≡ true_batch j name → (b ≡ true_batch j b.name → StandsFor j p v.superstep w) → StandsFor j p w.superstep w
taken_stands j p v w b name is stands = stands_at j p v.superstep w (stands (true_named j name b is))

-- ---- supersteps
pub at_level : (r : State) (s : ℕ) → s ≡ r.superstep → s ≤ (holding_in r).superstep
at_level r s is = let e : s ≤ r.superstep = omega (arith, is) in e

-- a snapshot of a further superstep takes a replica there
pub is_further : (v w : Caller) (p s before now : ℕ) → HasRecalled v p (s + 1) before now w → Extends v w → s < now
is_further v w p s before now found seen =
    let c : Holding = found.content in
    let made : Entry = entry v.number (Recall p (s + 1) c) in
    let legal : IsLegal (with_entry found.called.met made) = subst IsLegal found.called.last seen.legal in
    let answer : IsAnswer (board_of found.called.met) (Recall p (s + 1) c) = last_is_answer found.called.met made legal in
    let far : s + 1 ≤ c.superstep = answer.1 in
    let is : now ≡ max before c.superstep = found.superstep in
    omega (arith, far, is)

-- ---- the end of a superstep, and of the run
pub closed_end : (v w : Caller) (p : ℕ) (old new : State) (t : SuperstepEnd) → (t ≡ superstep_end.Next) ⊎ (t ≡ superstep_end.Over) → (t ≡ superstep_end.Over → (new ≡ old) × EndsRun (found_verdict new)) → HasToldAll v old.superstep p w → IsSuperstepEnd v p new t w
closed_end v w p old new t kind over told = ⊎_elim
    (λ (e : t ≡ superstep_end.Next). subst (λ (x : SuperstepEnd). IsSuperstepEnd v p new x w) (sym e) tt)
    (λ (e : t ≡ superstep_end.Over). subst (λ (x : SuperstepEnd). IsSuperstepEnd v p new x w) (sym e) (subst (λ (r : State). HasToldAll v r.superstep p w) (sym (over e).0) told, (over e).1))
    kind

pub done_of : (j : Job) (p : ℕ) (r : State) → StandsFor j p r.superstep r → EndsRun (found_verdict r) → IsDone j p r
done_of j p r h over =
    let e = is_ended j p r.superstep r (found_verdict r) h (found_verdict-is j p r.superstep r h) (ends_said (found_verdict r) over) in
    record { stands = subst (λ (t : ℕ). StandsFor j p t r) e.at_end h; over = over }
