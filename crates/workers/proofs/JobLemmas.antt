-- The nodes of a job: their threads, their ends, and what is put together of these.
use Rattle.std.proofs.Common.{◌≡◌, ◌≢◌, ◌<◌, ◌≤◌, ◌+◌, ◌-◌, ℕ, zero, suc, List, [], ◌∷◌, ◌++◌, length, map, Bool, true, false, ◌&&◌, refl, sym, ap, ◌∙◌, subst, arith, inl, inr, slice_index_or, length-append}
use Rattle.std.specs.Result.{result_ok}
use Rattle.std.specs.Prelude.{Option, Some, IfSome, IfOk, IfErr, is_some, Result, Ok, Err}
use Rattle.std.proofs.lemmas.Bool.{and_parts, cases_eq}
use Rattle.std.proofs.lemmas.Bool.Decides.{nat_tests}
use Rattle.ball_model.specs.declared.plan.TheConstants.{MOST_REPLICAS}
use Rattle.ball_model.specs.Caller.{Caller, IsCaller}
use Rattle.ball_model.specs.Job.{Job}
use Rattle.ball_model.specs.State.{State}
use Rattle.board.specs.Rule.{share}
use Rattle.board.specs.Seats.{BoardView, SeatView, SharesNumbers}
use Rattle.workers.specs.declared.ends.Faults.{Faults}
use Rattle.workers.specs.declared.runs.RunError.{RunError}
use Rattle.workers.specs.declared.runs.RunError.TheVariants as run
use Rattle.workers.specs.declared.worker.node_run.NodeEnd.{NodeEnd}
use Rattle.workers.specs.declared.worker.node_run.NodeEnd.TheVariants as ends
use Rattle.workers.specs.declared.worker.node_run.NodeError.{NodeError}
use Rattle.workers.specs.declared.options.RunOptions.{RunOptions}
use Rattle.workers.specs.declared.assignment.Assignment.{Assignment}
use Rattle.workers.specs.Node.{IfDone, IsDone}
use Rattle.workers.specs.Options.{are_in_limits, order_for, orders_for}
use Rattle.workers.specs.Ends.{done_of, each_has_done, first_done, first_fault, first_some}
use Rattle.workers.specs.Job.{AreEnds, AreNoted, EachAt, HasRun, HasSplit, IsAssigned, IsFirstFault, IsNodeEnd, IsPartEnd, IsPartStarted, KeepsItsOrders, job_in}
use Rattle.workers.proofs.EndsLemmas.{done_map, first_map}

-- ---- lists whose elements have what their places say
pub each_push : {A : Type 0} (has : ℕ → A → Type 0) (k : ℕ) (xs : List A) (x : A) → EachAt has k xs → has (k + length xs) x → EachAt has k (xs ++ x ∷ [])
each_push has k [] x h one = (subst (λ (n : ℕ). has n x) (let e : k + 0 ≡ k = omega arith in e) one, tt)
each_push has k (y ∷ ys) x h one = (h.0, each_push has (k + 1) ys x h.1 (subst (λ (n : ℕ). has n x) (let e : k + suc (length ys) ≡ k + 1 + length ys = omega arith in e) one))

pub each_is : {A : Type 0} (has : ℕ → A → Type 0) (k : ℕ) (xs : List A) (i : ℕ) (d : A) → EachAt has k xs → i < length xs → has (k + i) (slice_index_or xs i d)
each_is has k [] i d h lt = absurd (omega arith)
each_is has k (y ∷ ys) zero d h lt = subst (λ (n : ℕ). has n y) (let e : k ≡ k + 0 = omega arith in e) h.0
each_is has k (y ∷ ys) (suc i) d h lt = subst (λ (n : ℕ). has n (slice_index_or ys i d)) (let e : k + 1 + i ≡ k + suc i = omega arith in e) (each_is has (k + 1) ys i d h.1 (omega (arith, lt)))

-- ---- what a thread promises
pub assigned_end : (j : Job) (o : RunOptions) (p k : ℕ) (a : Assignment) (r : Result NodeEnd NodeError) → IsAssigned j o p k a →
    IsNodeEnd (job_in a) a.options.value a.node.part a.node.replica r → IsNodeEnd j o p k r
assigned_end j o p k a r is end =
    subst (λ (j : Job). IsNodeEnd j o p k r) is.job (subst (λ (o : RunOptions). IsNodeEnd (job_in a) o p k r) is.options
    (subst (λ (p : ℕ). IsNodeEnd (job_in a) a.options.value p k r) is.part (subst (λ (k : ℕ). IsNodeEnd (job_in a) a.options.value a.node.part k r) is.replica end)))

-- ---- threads that are joined
pub record Joining {H : Type 0} (assigned : H → Assignment) (j : Job) (o : RunOptions) (p : ℕ) (rest : List (Option H)) (ends : List (Result NodeEnd NodeError)) : Type 0 where
  pub below : p < j.plan.parts
  pub count : length ends + length rest ≡ o.replicas
  pub left : EachAt (λ k child. IfSome child (λ h. IsAssigned j o p k (assigned h))) (length ends) rest
  pub given : EachAt (λ k. KeepsItsOrders j p (orders_for o p k)) 0 ends
  pub ran : EachAt (λ k. HasRun j o.entries p (orders_for o p k)) 0 ends

pub joining_more : {H : Type 0} (assigned : H → Assignment) (j : Job) (o : RunOptions) (p : ℕ) (child : Option H) (rest : List (Option H)) (ends : List (Result NodeEnd NodeError)) (r : Result NodeEnd NodeError) → Joining assigned j o p (child ∷ rest) ends →
    ((k : ℕ) → p < j.plan.parts → IfSome child (λ h. IsAssigned j o p k (assigned h)) → IsNodeEnd j o p k r) → Joining assigned j o p rest (ends ++ r ∷ [])
joining_more assigned j o p child rest ends r h end =
    let more : length (ends ++ r ∷ []) ≡ length ends + 1 = length-append ends (r ∷ []) in
    let here : length ends ≡ 0 + length ends = omega arith in
    let last = subst (λ (k : ℕ). IsNodeEnd j o p k r) here (end (length ends) h.below h.left.0) in
    record {
      below = h.below;
      count = omega (arith, more, h.count);
      left = subst (λ (n : ℕ). EachAt (λ k child. IfSome child (λ h. IsAssigned j o p k (assigned h))) n rest) (sym more) h.left.1;
      given = each_push (λ k. KeepsItsOrders j p (orders_for o p k)) 0 ends r h.given last.orders;
      ran = each_push (λ k. HasRun j o.entries p (orders_for o p k)) 0 ends r h.ran last.ran;
    }

pub record JoiningAll {H V W : Type 0} (assigned : H → Assignment) (items : V → List (Option H)) (own : W → List (Result NodeEnd NodeError)) (j : Job) (o : RunOptions) (rest : List V) (ends : List W) : Type 0 where
  pub count : length ends + length rest ≡ j.plan.parts
  pub left : EachAt (λ p v. IsPartStarted assigned j o p (items v)) (length ends) rest
  pub given : EachAt (λ p w. IsPartEnd j o p (own w)) 0 ends

pub all_more : {H V W : Type 0} (assigned : H → Assignment) (items : V → List (Option H)) (own : W → List (Result NodeEnd NodeError)) (j : Job) (o : RunOptions) (v : V) (rest : List V) (ends : List W) (w : W) → JoiningAll assigned items own j o (v ∷ rest) ends →
    ((p : ℕ) → IsPartStarted assigned j o p (items v) → IsPartEnd j o p (own w)) → JoiningAll assigned items own j o rest (ends ++ w ∷ [])
all_more assigned items own j o v rest ends w h end =
    let more : length (ends ++ w ∷ []) ≡ length ends + 1 = length-append ends (w ∷ []) in
    record {
      count = omega (arith, more, h.count);
      left = subst (λ (n : ℕ). EachAt (λ p v. IsPartStarted assigned j o p (items v)) n rest) (sym more) h.left.1;
      given = each_push (λ p w. IsPartEnd j o p (own w)) 0 ends w h.given (subst (λ (p : ℕ). IsPartEnd j o p (own w)) (let e : length ends ≡ 0 + length ends = omega arith in e) (end (length ends) h.left.0));
    }

-- ---- ends that are put together
pub record PartSoFar (j : Job) (o : RunOptions) (p k : ℕ) (rest : List (Result NodeEnd NodeError)) (old now : Faults) (all_lost : Bool) : Type 0 where
  pub each : EachAt (λ i. KeepsItsOrders j p (orders_for o p i)) k rest
  pub noted : AreNoted j.plan.parts o old → AreNoted j.plan.parts o now
  pub ordered : all_lost ≡ true → (i : ℕ) → i < k → is_some (order_for p i o.lose.items) ≡ true

pub part_so_far_more : (j : Job) (o : RunOptions) (p k : ℕ) (r : Result NodeEnd NodeError) (rest : List (Result NodeEnd NodeError)) (old now next : Faults) (was all_lost both : Bool) → PartSoFar j o p k (r ∷ rest) old now all_lost →
    (KeepsItsOrders j p (orders_for o p k) r → AreNoted j.plan.parts o now → AreNoted j.plan.parts o next) →
    (KeepsItsOrders j p (orders_for o p k) r → was ≡ true → is_some (order_for p k o.lose.items) ≡ true) → both ≡ (was && all_lost) →
    PartSoFar j o p (k + 1) rest old next both
part_so_far_more j o p k r rest old now next was all_lost both h noted lost is = record {
  each = h.each.1;
  noted = λ n. noted h.each.0 (h.noted n);
  ordered = λ b i lt.
      let two = and_parts was all_lost (sym is ∙ b) in
      elim (cases_eq i k) [
        | inl same ↦ subst (λ (n : ℕ). is_some (order_for p n o.lose.items) ≡ true) (sym same) (lost h.each.0 two.0)
        | inr apart ↦ h.ordered two.1 i (omega (arith, lt, apart))
      ];
}

pub record AllSoFar {V : Type 0} (items : V → List (Result NodeEnd NodeError)) (j : Job) (o : RunOptions) (p : ℕ) (rest : List V) (f : Faults) : Type 0 where
  pub count : p + length rest ≡ j.plan.parts
  pub each : EachAt (λ q own. IsPartEnd j o q (items own)) p rest
  pub noted : AreNoted j.plan.parts o f

pub all_so_far_more : {V : Type 0} (items : V → List (Result NodeEnd NodeError)) (j : Job) (o : RunOptions) (p : ℕ) (own : V) (rest : List V) (now next : Faults) → AllSoFar items j o p (own ∷ rest) now →
    (IsPartEnd j o p (items own) → p < j.plan.parts → AreNoted j.plan.parts o now → AreNoted j.plan.parts o next) → AllSoFar items j o (p + 1) rest next
all_so_far_more items j o p own rest now next h noted = record {
  count = omega (arith, h.count);
  each = h.each.1;
  noted = noted h.each.0 (omega (arith, h.count)) h.noted;
}

-- the replica of the first node that is done stands for the end of the run
done_of_two : (j : Job) (p : ℕ) (r : Result NodeEnd NodeError) (other : Option State) → IfOk r (λ e. IfDone e (IsDone j p)) → IfSome other (IsDone j p) → IfSome (first_some (done_of r) other) (IsDone j p)
done_of_two j p (Ok (ends.Done v)) other one more = one
done_of_two j p (Ok (ends.Lost s)) other one more = more
done_of_two j p (Ok (ends.Starved s q)) other one more = more
done_of_two j p (Err e) other one more = more

first_is_done : (j : Job) (o : RunOptions) (p k : ℕ) (rs : List (Result NodeEnd NodeError)) → EachAt (λ i. KeepsItsOrders j p (orders_for o p i)) k rs → IfSome (first_done rs) (IsDone j p)
unfolding first_done
first_is_done j o p k [] h = tt
first_is_done j o p k (r ∷ rs) h = done_of_two j p r (first_done rs) h.0.done (first_is_done j o p (k + 1) rs h.1)

pub record CollectSoFar {V : Type 0} (items : V → List (Result NodeEnd NodeError)) (j : Job) (o : RunOptions) (rest : List V) (done : List State) : Type 0 where
  pub count : length done + length rest ≡ j.plan.parts
  pub each : EachAt (λ q own. IsPartEnd j o q (items own)) (length done) rest
  pub have : EachAt (IsDone j) 0 done

pub collect_more : {V : Type 0} (items : V → List (Result NodeEnd NodeError)) (j : Job) (o : RunOptions) (own : V) (rest : List V) (done then : List State) (r : State) → CollectSoFar items j o (own ∷ rest) done →
    Some r ≡ first_done (items own) → then ≡ done ++ r ∷ [] → CollectSoFar items j o rest then
collect_more items j o own rest done then r h is pushed =
    let more : length (done ++ r ∷ []) ≡ length done + 1 = length-append done (r ∷ []) in
    let one : IsDone j (length done) r = subst (λ (x : Option State). IfSome x (IsDone j (length done))) (sym is) (first_is_done j o (length done) 0 (items own) h.each.0.each) in
    let last : IsDone j (0 + length done) r = subst (λ (n : ℕ). IsDone j n r) (let e : length done ≡ 0 + length done = omega arith in e) one in
    subst (λ (d : List State). CollectSoFar items j o rest d) (sym pushed)
    (record {
      count = omega (arith, more, h.count);
      each = subst (λ (n : ℕ). EachAt (λ q w. IsPartEnd j o q (items w)) n rest) (sym more) h.each.1;
      have = each_push (IsDone j) 0 done r h.have last;
    })

-- ---- the first fault of the ends
each_map : {A B : Type 0} (f : A → B) (has : ℕ → B → Type 0) (k : ℕ) (xs : List A) → EachAt (λ n x. has n (f x)) k xs → EachAt has k (map f xs)
each_map f has k [] h = tt
each_map f has k (x ∷ xs) h = (h.0, each_map f has (k + 1) xs h.1)

length_map : {A B : Type 0} (f : A → B) (xs : List A) → length (map f xs) ≡ length xs
length_map f [] = refl
length_map f (x ∷ xs) = ap suc (length_map f xs)

ends_map : {V : Type 0} (items : V → List (Result NodeEnd NodeError)) (j : Job) (o : RunOptions) (xs : List V) → AreEnds items j o xs → AreEnds (λ own. own) j o (map items xs)
ends_map items j o xs h = record { count = length_map items xs ∙ h.count; each = each_map items (λ p own. IsPartEnd j o p own) 0 xs h.each }

pub first_of_ends : {T V : Type 0} (items : V → List (Result NodeEnd NodeError)) (j : Job) (o : RunOptions) (xs : List V) (r : Result T RunError) → AreEnds items j o xs →
    IfErr r (λ e. e ≢ run.Memory → e ≡ first_fault items xs) → IfErr r (λ e. e ≢ run.Memory → each_has_done items xs ≡ false) → IfErr r (λ e. e ≢ run.Memory → IsFirstFault j o e)
first_of_ends items j o xs (Ok x) all first lacking = tt
first_of_ends items j o xs (Err e) all first lacking = λ other. record {
  ends = map items xs;
  all = ends_map items j o xs all;
  lacking = sym (done_map items xs) ∙ lacking other;
  first = first other ∙ first_map items xs;
}

-- a run has so many replicas at most
pub few_replicas : (o : RunOptions) → are_in_limits o ≡ true → o.replicas ≤ MOST_REPLICAS
few_replicas o within = grind (arith, nat_tests, within)

-- ---- threads that are started
-- a thread that there is, by what was answered where there could be none
pub started_some : {H E : Type 0} (says : H → Type 0) (r : Result H E) (child : Option H) → child ≡ result_ok r → IfOk r says → IfSome child says
started_some {H = H} says (Ok h) child is one = subst (λ (o : Option H). IfSome o says) (sym is) one
started_some {H = H} says (Err e) child is one = subst (λ (o : Option H). IfSome o says) (sym is) tt

pub split_more : (b : BoardView) (j : Job) (n : ℕ) (v w : SeatView) → HasSplit b j n v → SharesNumbers v w → w.room ≡ v.room - share v.room → HasSplit b j (n + 1) w
split_more b j n v w h kept left =
    let least = h.least in
    let most = h.most in
    record {
      seat = record {
        board = (kept.0 ∙ h.seat.board.0, ap (λ (c : Caller). c.limit) kept.1 ∙ h.seat.board.1);
        caller = subst IsCaller (sym kept.1) h.seat.caller;
        job = ap (λ (c : Caller). c.seen.job) kept.1 ∙ h.seat.job;
      };
      least = omega (arith, left, least, most);
      most = omega (arith, left, most);
    }

pub record Starting {H : Type 0} (assigned : H → Assignment) (j : Job) (o : RunOptions) (p n : ℕ) (children : List (Option H)) : Type 0 where
  pub count : length children ≡ n
  pub each : EachAt (λ k child. IfSome child (λ h. IsAssigned j o p k (assigned h))) 0 children

pub starting_more : {H : Type 0} (assigned : H → Assignment) (j : Job) (o : RunOptions) (p n : ℕ) (children : List (Option H)) (child : Option H) → Starting assigned j o p n children → IfSome child (λ h. IsAssigned j o p n (assigned h)) → Starting assigned j o p (n + 1) (children ++ child ∷ [])
starting_more assigned j o p n children child h one = record {
  count = length-append children (child ∷ []) ∙ ap (λ (k : ℕ). k + 1) h.count;
  each = each_push (λ k child. IfSome child (λ h. IsAssigned j o p k (assigned h))) 0 children child h.each (subst (λ (k : ℕ). IfSome child (λ h. IsAssigned j o p k (assigned h))) (let e : n ≡ 0 + length children = omega (arith, h.count) in e) one);
}

pub record StartingAll {H V : Type 0} (assigned : H → Assignment) (items : V → List (Option H)) (j : Job) (o : RunOptions) (n : ℕ) (children : List V) : Type 0 where
  pub count : length children ≡ n
  pub each : EachAt (λ p own. IsPartStarted assigned j o p (items own)) 0 children

pub starting_all_more : {H V : Type 0} (assigned : H → Assignment) (items : V → List (Option H)) (j : Job) (o : RunOptions) (n : ℕ) (children : List V) (own : V) → StartingAll assigned items j o n children → IsPartStarted assigned j o n (items own) → StartingAll assigned items j o (n + 1) (children ++ own ∷ [])
starting_all_more assigned items j o n children own h one = record {
  count = length-append children (own ∷ []) ∙ ap (λ (k : ℕ). k + 1) h.count;
  each = each_push (λ p own. IsPartStarted assigned j o p (items own)) 0 children own h.each (subst (λ (p : ℕ). IsPartStarted assigned j o p (items own)) (let e : n ≡ 0 + length children = omega (arith, h.count) in e) one);
}
