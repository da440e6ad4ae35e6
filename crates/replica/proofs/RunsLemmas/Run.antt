-- Whole runs.
use Rattle.std.proofs.Common.{◌≡◌, ℕ, zero, suc, ◌+◌, ◌/◌, ◌%◌, ◌<◌, ◌≤◌, nat_le, max, Bool, true, false, not, ◌&&◌, ◌==◌, if◌then◌else◌, List, [], ◌∷◌, length, get_or, refl, ap, arith, sym, ◌∙◌, subst, inl, inr}
use Rattle.replica.proofs.Names.{Option, None, Some, Result, Ok, OnOk, OnErr, IsTrue, cases_lt, eq-eqb, leb-true, le-leb, PlanValue, mixing_of, part_size, Job, Content, take_of, is_new, after_take, missing_of, verdict_unless, verdict_at, verdict_of, after_close, same_plan, State, StandsFor, content_of, BatchName, Mixing, counter_of, ball_counter, any_changed, end_of}
use Rattle.ball_model.specs.declared.names.Taken.{Taken}
use Rattle.ball_model.specs.declared.names.TakeError.{TakeError}
use Rattle.ball_model.specs.declared.names.CloseError.{CloseError}
use Rattle.ball_model.specs.declared.names.MergeError.{MergeError}
use Rattle.ball_model.specs.declared.names.Verdict.{Verdict}
use Rattle.ball_model.specs.declared.names.Verdict.TheVariants as verdict
use Rattle.ball_model.specs.Graph.{Graph, IsGraph, is_path, in_ball, is_counted}
use Rattle.ball_model.specs.Change.{changed_at}
use Rattle.ball_model.proofs.PathLemmas.{in_ball-found, in_ball-finds, in_ball-grows}
use Rattle.ball_model.proofs.CounterLemmas.{counter_of-same}
use Rattle.ball_model.proofs.ChangeLemmas.{changed_next}
use Rattle.ball_model.proofs.QuietLemmas.{quiet_stays, none_in}
use Rattle.ball_model.specs.Join.{union_of, merge_of}
use Rattle.ball_model.specs.Steps.{Call, Take, Close, Merge, CallAnswer, Took, Closed, Merged, answer_due, answers_due, content_after, content_after_all, content_after_close, start_content}
use Rattle.replica.specs.Level.{found_verdict, EndsRun}
use Rattle.replica.specs.Runs.{HasContent, Takes, Did, DidAll, closes_in}
use Rattle.std.specs.Cmp.{booleans_Decides, both_ways}
use Rattle.std.proofs.lemmas.Slice.Eq.{bytes_eq-Decides}
use Rattle.replica.proofs.LevelLemmas.Busy.{found_verdict-is}
use Rattle.replica.proofs.LevelLemmas.Verdict.{at_end}
use Rattle.replica.proofs.IndexLemmas.Own.{vertex_of, place_below, vertex_at}
use Rattle.replica.proofs.LevelLemmas.Level.{plan_is, number_is, row_at}
use Rattle.replica.proofs.KeptLemmas.Rise.{same_registers}

-- contents with the same names are the same
same_content : (v : State) (c : Content) → v.superstep ≡ c.superstep → ((s q : ℕ) → (content_of v).holds s q ≡ c.holds s q) → content_of v ≡ c
same_content v c t names = λ i. record { superstep = t i; holds = λ s q. names s q i }

pub has_content : (j : Job) (p : ℕ) (c : Content) (v : State) → HasContent j p c v → content_of v ≡ c
has_content j p c v h = same_content v c h.stands.superstep h.names

-- the answer to a batch of the job
took_answer : (j : Job) (p : ℕ) (name : BatchName) (r : Result Taken TakeError) (c : Content) (v w : State) → HasContent j p c v → Takes j p name r v w → r ≡ take_of j.plan p c j.plan name
took_answer j p name r c v w h k = grind (arith, plan_is, number_is)

took : (j : Job) (p : ℕ) (name : BatchName) (r : Result Taken TakeError) (c : Content) (v w : State) → HasContent j p c v → Takes j p name r v w → HasContent j p (content_after j p c (Take name)) w
took j p name r c v w h k = record {
  stands = k.stands c.superstep h.stands;
  names = λ s q.
      k.names s q
      ∙ ap (λ (d : Content). after_take (is_new r) d.holds name.superstep name.source s q) (has_content j p c v h)
      ∙ ap (λ (a : Result Taken TakeError). after_take (is_new a) c.holds name.superstep name.source s q) (took_answer j p name r c v w h k);
}

shut : (j : Job) (p : ℕ) (r : Result ℕ CloseError) (c : Content) (v w : State) → HasContent j p c v → OnErr r (w ≡ v) → OnOk r ((s q : ℕ) → (content_of w).holds s q ≡ (after_close (content_of v)).holds s q) → OnOk r (StandsFor j p (c.superstep + 1) w) →
    HasContent j p (content_after_close r c) w
shut j p r c v w h refused names stands = grind arith

merged : (j : Job) (p : ℕ) (d : Content) (r : Result (Unit {0}) MergeError) (c : Content) (v w : State) → HasContent j p c v → r ≡ Ok tt → OnOk r ((s q : ℕ) → (content_of w).holds s q ≡ (union_of (content_of v) d).holds s q) → OnOk r (StandsFor j p (max c.superstep d.superstep) w) →
    HasContent j p (union_of c d) w
merged j p d r c v w h is names stands = grind arith

-- a plan is the same as itself
pub same_plan-self : (a : PlanValue) → same_plan a a ≡ true
same_plan-self a = rw (eq-eqb a.log2m a.log2m refl, eq-eqb a.seed a.seed refl, eq-eqb a.parts a.parts refl, eq-eqb a.limit a.limit refl, eq-eqb a.vertices a.vertices refl, (booleans_Decides a.corrected a.corrected).1 refl, (bytes_eq-Decides a.job a.job).1 refl) refl

-- a replica and one of the same partition of the job
pub same_job : (p : ℕ) (plan : PlanValue) → merge_of plan p plan p ≡ Ok tt
same_job p plan = rw (same_plan-self plan, eq-eqb p p refl) refl

-- one call: its answer, and the content after it
did : (j : Job) (p : ℕ) (call : Call) (answer : CallAnswer) (c : Content) (v w : State) → HasContent j p c v → Did j p call answer v w → (answer ≡ answer_due j p c call) × HasContent j p (content_after j p c call) w
did j p (Take name) (Took r) c v w h k = (ap Took (took_answer j p name r c v w h k), took j p name r c v w h k)
did j p Close (Closed r) c v w h k = grind (arith, has_content, shut)
did j p (Merge d) (Merged r) c v w h k = grind (arith, same_job, merged)
did j p call answer c v w h k = absurd k

-- a list of calls: their answers, and the content after them
pub made : (j : Job) (p : ℕ) (calls : List Call) (answers : List CallAnswer) (c : Content) (v w : State) → HasContent j p c v → DidAll j p v calls answers w →
    (answers ≡ answers_due j p c calls) × HasContent j p (content_after_all j p c calls) w
unfolding DidAll content_after_all answers_due
made j p [] [] c v w h m = (refl, subst (λ (u : State). HasContent j p c u) (sym m) h)
made j p (call ∷ calls) (answer ∷ answers) c v w h m =
    let first = did j p call answer c v m.0 h m.1 in
    let rest = made j p calls answers (content_after j p c call) m.0 w first.1 m.2 in
    (λ i. first.0 i ∷ rest.0 i, rest.1)
made j p calls answers c v w h m = absurd m

-- THE RUN: from the start, by any list of calls, a replica stands for what the calls make of its content
pub run_stands : (j : Job) (p : ℕ) (calls : List Call) (answers : List CallAnswer) (v w : State) → HasContent j p start_content v → DidAll j p v calls answers w → HasContent j p (content_after_all j p start_content calls) w
run_stands j p calls answers v w h m = (made j p calls answers start_content v w h m).1

-- and it answers as the contents say
pub run_answers : (j : Job) (p : ℕ) (calls : List Call) (answers : List CallAnswer) (v w : State) → HasContent j p start_content v → DidAll j p v calls answers w → answers ≡ answers_due j p start_content calls
run_answers j p calls answers v w h m = (made j p calls answers start_content v w h m).0

-- a call never goes back, and a close that went on goes a superstep further
closes_rise : (j : Job) (p : ℕ) (call : Call) (answer : CallAnswer) (c : Content) (v w : State) → HasContent j p c v → Did j p call answer v w → v.superstep + closes_in (answer ∷ []) ≤ w.superstep
unfolding closes_in
closes_rise j p call answer c v w h k = grind arith

closes_first : (answer : CallAnswer) (answers : List CallAnswer) → closes_in (answer ∷ answers) ≡ closes_in (answer ∷ []) + closes_in answers
unfolding closes_in
closes_first answer answers = grind arith

-- of a list of calls too
closes_sum : (j : Job) (p : ℕ) (calls : List Call) (answers : List CallAnswer) (c : Content) (v w : State) → HasContent j p c v → DidAll j p v calls answers w → v.superstep + closes_in answers ≤ w.superstep
unfolding DidAll closes_in
closes_sum j p [] [] c v w h m = let same : w.superstep ≡ v.superstep = ap (λ (u : State). u.superstep) m in omega (arith, same)
closes_sum j p (call ∷ calls) (answer ∷ answers) c v w h m =
    let here = closes_rise j p call answer c v m.0 h m.1 in
    let later = closes_sum j p calls answers (content_after j p c call) m.0 w (did j p call answer c v m.0 h m.1).1 m.2 in
    omega (arith, here, later, closes_first answer answers)
closes_sum j p calls answers c v w h m = absurd m

-- and it is never past the end
pub run_in_time : (j : Job) (p : ℕ) (calls : List Call) (answers : List CallAnswer) (v w : State) → HasContent j p start_content v → DidAll j p v calls answers w →
    (closes_in answers ≤ w.superstep) × (w.superstep ≤ end_of (mixing_of j.plan) j.graph j.plan.limit)
run_in_time j p calls answers v w h m =
    let stands = (run_stands j p calls answers v w h m).stands in
    (omega (arith, closes_sum j p calls answers start_content v w h m), omega (arith, stands.superstep, stands.in_time))

stable_from : (o : Option ℕ) (early changed last : Bool) → verdict_unless o (if early && not changed then verdict.Stable else (if last then verdict.Limit else verdict.GoOn)) ≡ Some verdict.Stable → (o ≡ None) × (early ≡ true) × (changed ≡ false)
stable_from o early changed last e = grind arith

verdict_here : (j : Job) (p t : ℕ) (v : State) → StandsFor j p t v → verdict_of j p (content_of v) ≡ verdict_unless (missing_of j.plan.parts p (content_of v)) (verdict_at j t)
unfolding verdict_of
verdict_here j p t v h = ap (λ n. verdict_unless (missing_of j.plan.parts p (content_of v)) (verdict_at j n)) h.superstep

stable_at : (j : Job) (t : ℕ) (o : Option ℕ) → verdict_unless o (verdict_at j t) ≡ Some verdict.Stable → (o ≡ None) × (1 ≤ t) × (any_changed (mixing_of j.plan) j.graph t ≡ false)
unfolding verdict_at
stable_at j t o e = let r = stable_from o (nat_le 1 t) (any_changed (mixing_of j.plan) j.graph t) (t == j.plan.limit) e in (r.0, leb-true 1 t r.1, r.2)

stable_to : (j : Job) (t : ℕ) (o : Option ℕ) → o ≡ None → 1 ≤ t → any_changed (mixing_of j.plan) j.graph t ≡ false → verdict_unless o (verdict_at j t) ≡ Some verdict.Stable
unfolding verdict_at
stable_to j t o none low quiet = rw (none, le-leb 1 t low, quiet) refl

-- what is read off a replica is what its content says
found_here : (j : Job) (p t : ℕ) (v : State) → StandsFor j p t v → found_verdict v ≡ verdict_unless (missing_of j.plan.parts p (content_of v)) (verdict_at j t)
found_here j p t v h = found_verdict-is j p t v h ∙ verdict_here j p t v h

-- stable is quiet
pub stable_is : (j : Job) (p t : ℕ) (v : State) → StandsFor j p t v →
    (found_verdict v ≡ Some verdict.Stable → (missing_of j.plan.parts p (content_of v) ≡ None) × (1 ≤ t) × (any_changed (mixing_of j.plan) j.graph t ≡ false))
    × ((missing_of j.plan.parts p (content_of v) ≡ None) × (1 ≤ t) × (any_changed (mixing_of j.plan) j.graph t ≡ false) → found_verdict v ≡ Some verdict.Stable)
stable_is j p t v h = (
  λ e. stable_at j t (missing_of j.plan.parts p (content_of v)) (sym (found_here j p t v h) ∙ e),
  λ r. found_here j p t v h ∙ stable_to j t (missing_of j.plan.parts p (content_of v)) r.0 r.1 r.2,
)

-- where the run is over, the level is held
ends_held : (o : Option ℕ) (w : Verdict) → EndsRun (verdict_unless o w) → EndsRun (Some w)
ends_held o w e = grind arith

-- and it is at the end
pub over_at_end : (j : Job) (p t : ℕ) (v : State) → StandsFor j p t v → EndsRun (found_verdict v) → t ≡ end_of (mixing_of j.plan) j.graph j.plan.limit
over_at_end j p t v h over =
    at_end j t h.job h.in_time (ends_held (missing_of j.plan.parts p (content_of v)) (verdict_at j t) (subst (λ o. EndsRun o) (found_here j p t v h) over))

-- a ball keeps its members
ball_keeps : (g : Graph) (x t k y : ℕ) → IsGraph g → x < g.vertices → in_ball g x t y ≡ true → in_ball g x (t + k) y ≡ true
ball_keeps g x t zero y ok lt inside = let e : t + 0 ≡ t = omega arith in rw e inside
ball_keeps g x t (suc k) y ok lt inside =
    let e : t + suc k ≡ t + k + 1 = omega arith in
    rw e (in_ball-grows g x (t + k) y ok lt (ball_keeps g x t k y ok lt inside))

-- where no vertex is changed, a counter stays as it is
counter_stays : (m : Mixing) (g : Graph) (x t k : ℕ) → IsGraph g → x < g.vertices → any_changed m g t ≡ false → ball_counter m g x (t + k) ≡ ball_counter m g x t
unfolding any_changed
counter_stays m g x t zero ok lt quiet = let e : t + 0 ≡ t = omega arith in rw e refl
counter_stays m g x t (suc k) ok lt quiet =
    let e : t + suc k ≡ t + k + 1 = omega arith in
    let still : changed_at m g x (t + k + 1) ≡ false = none_in (λ z. changed_at m g z (t + k + 1)) 0 g.vertices x (quiet_stays m g t (t + k + 1) ok quiet (omega arith)) (omega arith) (omega arith) in
    rw e (same_registers (ball_counter m g x (t + k + 1)) (ball_counter m g x (t + k)) (sym (changed_next m g x (t + k)) ∙ still) ∙ counter_stays m g x t k ok lt quiet)

-- some ball has all vertices below a number that can reach x
ball_of_all : (g : Graph) (x m : ℕ) (reaches : ℕ → Bool) → IsGraph g → x < g.vertices → m ≤ g.vertices → ((y : ℕ) → y < g.vertices → IsTrue (reaches y) → (path : List ℕ) × IsTrue (is_path g y x path)) →
    (t : ℕ) × ((y : ℕ) → y < m → reaches y ≡ true → in_ball g x t y ≡ true)
ball_of_all g x zero reaches ok lt le paths = (0, λ y below r. absurd (omega arith))
ball_of_all g x (suc m) reaches ok lt le paths = by_bool (reaches m) refl (ball_of_all g x m reaches ok lt (omega arith) paths)
  where
    more : (t k : ℕ) → ((y : ℕ) → y < m → reaches y ≡ true → in_ball g x t y ≡ true) → (reaches m ≡ true → in_ball g x (t + k) m ≡ true) → (y : ℕ) → y < suc m → reaches y ≡ true → in_ball g x (t + k) y ≡ true
    more t k before last y below r =
        elim (cases_lt y m) [
          | inl less ↦ ball_keeps g x t k y ok lt (before y less r)
          | inr at ↦ let e : m ≡ y = omega arith in subst (λ (z : ℕ). in_ball g x (t + k) z ≡ true) e (last (ap reaches e ∙ r))
        ]

    by_bool : (b : Bool) → reaches m ≡ b → (t : ℕ) × ((y : ℕ) → y < m → reaches y ≡ true → in_ball g x t y ≡ true) → (t : ℕ) × ((y : ℕ) → y < suc m → reaches y ≡ true → in_ball g x t y ≡ true)
    by_bool true at before =
        let path = paths m (omega arith) at in
        let k = length path.0 in
        let swap : before.0 + k ≡ k + before.0 = omega arith in
        let inside : in_ball g x (before.0 + k) m ≡ true = rw swap (ball_keeps g x k before.0 m ok lt (in_ball-found g x k m path.0 ok lt path.1 (omega arith))) in
        (before.0 + k, more before.0 k before.1 (λ r. inside))
    by_bool false at before = (before.0 + 0, more before.0 0 before.1 (λ r. absurd (let no : true ≡ false = sym r ∙ at in cc)))

-- where no vertex is changed, a counter is that of all counted vertices that can reach its vertex
counter_reaches : (m : Mixing) (g : Graph) (x t : ℕ) (reaches : ℕ → Bool) → IsGraph g → x < g.vertices → any_changed m g t ≡ false →
    ((y : ℕ) → y < g.vertices → (IsTrue (reaches y) → (path : List ℕ) × IsTrue (is_path g y x path)) × (((path : List ℕ) × IsTrue (is_path g y x path)) → IsTrue (reaches y))) →
    ball_counter m g x t ≡ counter_of m g.vertices (λ y. reaches y && is_counted g y)
unfolding ball_counter
counter_reaches m g x t reaches ok lt quiet paths =
    let all = ball_of_all g x g.vertices reaches ok lt (omega arith) (λ y below. (paths y below).0) in
    let swap : t + all.0 ≡ all.0 + t = omega arith in
    sym (counter_stays m g x t all.0 ok lt quiet)
    ∙ (counter_of-same m g.vertices (λ y. in_ball g x (t + all.0) y && is_counted g y) (λ y. reaches y && is_counted g y)
    (λ y below. ap (λ b. b && is_counted g y) (both_ways (in_ball g x (t + all.0) y) (reaches y)
    (λ inside. let found = in_ball-finds g x (t + all.0) y inside in (paths y below).1 (found.0, found.2))
    (λ r. rw swap (ball_keeps g x all.0 t y ok lt (all.1 y below r))))))

-- a stable replica's rows are those counters
pub stable_reaches : (j : Job) (p t x : ℕ) (v : State) (reaches : ℕ → Bool) → StandsFor j p t v → found_verdict v ≡ Some verdict.Stable → x < j.graph.vertices → x % j.plan.parts ≡ p →
    ((y : ℕ) → y < j.graph.vertices → (IsTrue (reaches y) → (path : List ℕ) × IsTrue (is_path j.graph y x path)) × (((path : List ℕ) × IsTrue (is_path j.graph y x path)) → IsTrue (reaches y))) →
    get_or v.rows (x / j.plan.parts) [] ≡ counter_of (mixing_of j.plan) j.graph.vertices (λ y. reaches y && is_counted j.graph y)
stable_reaches j p t x v reaches h stable lt own paths =
    let some : 1 ≤ j.plan.parts = h.job.plan.parts_from in
    let place : x / j.plan.parts < part_size j.graph.vertices j.plan.parts p = rw (← own) (place_below j.graph.vertices j.plan.parts x some lt) in
    let vertex : vertex_of j.plan.parts p (x / j.plan.parts) ≡ x = rw (← own) (vertex_at j.plan.parts x some) in
    ap (λ (l : List (List ℕ)). get_or l (x / j.plan.parts) []) h.rows
    ∙ row_at j p t (x / j.plan.parts) [] h.partition place
    ∙ ap (λ y. ball_counter (mixing_of j.plan) j.graph y t) vertex
    ∙ counter_reaches (mixing_of j.plan) j.graph x t reaches h.job.graph lt ((stable_is j p t v h).0 stable).2 paths
