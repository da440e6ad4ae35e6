-- The path of a node: what it holds, from call to call.
use Rattle.std.proofs.Common.{◌≡◌, ◌≢◌, ℕ, ◌<◌, true, false, List, [], ◌∷◌, ◌++◌, refl, sym, ap, ◌∙◌, subst, inl, inr, arith, append_assoc, append-nil}
use mathlib.Core.List.{IsPrefix}
use Rattle.std.proofs.lemmas.Bool.{cases_eq}
use Rattle.std.proofs.lemmas.List.{append_cancel_left}
use Rattle.std.specs.Prelude.{Result, Ok, Err}
use Rattle.ball_model.specs.declared.names.BatchName.{BatchName}
use Rattle.ball_model.specs.declared.names.Taken.{Taken}
use Rattle.ball_model.specs.declared.names.TakeError.{TakeError}
use Rattle.ball_model.specs.declared.names.CloseError.{CloseError}
use Rattle.ball_model.specs.PlanValue.{PlanValue}
use Rattle.ball_model.specs.Job.{Job}
use Rattle.ball_model.specs.Batches.{BatchValue, true_batch}
use Rattle.ball_model.specs.Content.{Content}
use Rattle.ball_model.specs.Join.{Holding, content_in, holding_of, join_of}
use Rattle.ball_model.specs.State.{State, StandsFor, content_of}
use Rattle.ball_model.specs.Steps.{Call, CallAnswer, Take, Close, Took, Closed, start_content, content_after, answers_due, content_after_all}
use Rattle.ball_model.specs.Held.{start_holding, held_after}
use Rattle.ball_model.specs.History.{HistoryEvent, Post, Fetch, Keep, Recall, Drop, History, calls_by, holding_in}
use Rattle.ball_model.specs.Caller.{Caller, Extends, Called, CalledNothing}
use Rattle.ball_model.proofs.JoinLemmas.{content_back}
use Rattle.replica.specs.Merged.{Absorbs}
use Rattle.replica.specs.Runs.{HasContent, Takes, Closes, Did, DidAll}
use Rattle.replica.specs.Seen.{IsState}
use Rattle.replica.specs.Sent.{batch_name}
use Rattle.replica.proofs.MergedLemmas.Holding.{joined_holding}
use Rattle.replica.proofs.KeptLemmas.Kept.{true_named}
use Rattle.replica.proofs.LevelLemmas.Level.{plan_is, number_is}
use Rattle.replica.proofs.RunsLemmas.Run.{has_content, made}
use Rattle.replica.proofs.RunsLemmas.Same.{content_is_one}
use Rattle.workers.specs.Node.{is_kept_at}
use Rattle.workers.specs.Tie.{Step, Calls, Closes as ClosesUp, StartsAnew, after_board_call, after_step, after_steps, IsOwnName, IsOwnCall, IsOwnStep, AreOwnSteps, SparesLast, AllSpareLast, calls_among, IsKeptAmong, KeepsAsTold, AllKeepAsTold, IsPath, HasPath, HasCome, HasGone, KeptIfTold, HasWandered, Reaches, AreOfNode, IsRunOfWorld, PathsAreOfNodes, ReplicasAreOfRuns, AreOfPart}
use Rattle.workers.proofs.TieLemmas.{histories_are_runs}
use Rattle.workers.proofs.SeenLemmas.{kept_among_before}
use Rattle.workers.proofs.SuperstepLemmas.{name_of_true}

-- ---- steps, one list behind another
after_steps-append : (j : Job) (p : ℕ) (h : Holding) (xs ys : List Step) → after_steps j p h (xs ++ ys) ≡ after_steps j p (after_steps j p h xs) ys
unfolding after_steps
after_steps-append j p h [] ys = refl
after_steps-append j p h (x ∷ xs) ys = after_steps-append j p (after_step j p h x) xs ys

own-append : (j : Job) (p : ℕ) (h : Holding) (xs ys : List Step) → AreOwnSteps j p h xs → AreOwnSteps j p (after_steps j p h xs) ys → AreOwnSteps j p h (xs ++ ys)
unfolding after_steps AreOwnSteps
own-append j p h [] ys a b = b
own-append j p h (x ∷ xs) ys a b = (a.0, own-append j p (after_step j p h x) xs ys a.1 b)

spared-append : (j : Job) (p : ℕ) (h : Holding) (xs ys : List Step) → AllSpareLast j p h xs → AllSpareLast j p (after_steps j p h xs) ys → AllSpareLast j p h (xs ++ ys)
unfolding after_steps AllSpareLast
spared-append j p h [] ys a b = b
spared-append j p h (x ∷ xs) ys a b = (a.0, spared-append j p (after_step j p h x) xs ys a.1 b)

calls-append : (xs ys : List Step) → calls_among (xs ++ ys) ≡ calls_among xs ++ calls_among ys
unfolding calls_among
calls-append [] ys = refl
calls-append (Calls e ∷ xs) ys = ap (λ (l : List HistoryEvent). e ∷ l) (calls-append xs ys)
calls-append (ClosesUp ∷ xs) ys = calls-append xs ys
calls-append (StartsAnew ∷ xs) ys = calls-append xs ys

-- ---- keeps
kept_step : (keep : ℕ) (prev made : List HistoryEvent) (h : Holding) (step : Step) → KeepsAsTold keep made h step → KeepsAsTold keep (prev ++ made) h step
kept_step keep prev made h (Calls (Post name r)) a = tt
kept_step keep prev made h (Calls (Fetch name)) a = tt
kept_step keep prev made h (Calls (Keep c r)) a = a
kept_step keep prev made h (Calls (Recall p s c)) a = tt
kept_step keep prev made h (Calls (Drop s)) a = tt
kept_step keep prev made h ClosesUp a = λ due. kept_among_before h.superstep made prev (a due)
kept_step keep prev made h StartsAnew a = tt

kept_more : (keep : ℕ) (j : Job) (p : ℕ) (prev made : List HistoryEvent) (h : Holding) (steps : List Step) → AllKeepAsTold keep j p made h steps → AllKeepAsTold keep j p (prev ++ made) h steps
unfolding AllKeepAsTold
kept_more keep j p prev made h [] a = tt
kept_more keep j p prev made h (x ∷ xs) a =
    let one : List HistoryEvent = calls_among (x ∷ []) in (
      kept_step keep prev made h x a.0,
      subst (λ (l : List HistoryEvent). AllKeepAsTold keep j p l (after_step j p h x) xs) (sym (append_assoc prev made one)) (kept_more keep j p prev (made ++ one) (after_step j p h x) xs a.1),
    )

kept_since : (keep : ℕ) (j : Job) (p : ℕ) (made : List HistoryEvent) (h : Holding) (steps : List Step) → AllKeepAsTold keep j p [] h steps → AllKeepAsTold keep j p made h steps
kept_since keep j p made h steps a = subst (λ (l : List HistoryEvent). AllKeepAsTold keep j p l h steps) (append-nil made) (kept_more keep j p made [] h steps a)

kept-append : (keep : ℕ) (j : Job) (p : ℕ) (made : List HistoryEvent) (h : Holding) (xs ys : List Step) → AllKeepAsTold keep j p made h xs → AllKeepAsTold keep j p (made ++ calls_among xs) (after_steps j p h xs) ys →
    AllKeepAsTold keep j p made h (xs ++ ys)
unfolding after_steps calls_among AllKeepAsTold
kept-append keep j p made h [] ys a b = subst (λ (l : List HistoryEvent). AllKeepAsTold keep j p l h ys) (append-nil made) b
kept-append keep j p made h (x ∷ xs) ys a b =
    let one : List HistoryEvent = calls_among (x ∷ []) in
    let both : calls_among (x ∷ xs) ≡ one ++ calls_among xs = calls-append (x ∷ []) xs in
    let at : made ++ calls_among (x ∷ xs) ≡ (made ++ one) ++ calls_among xs = ap (λ (l : List HistoryEvent). made ++ l) both ∙ sym (append_assoc made one (calls_among xs)) in (
      a.0,
      kept-append keep j p (made ++ one) (after_step j p h x) xs ys a.1 (subst (λ (l : List HistoryEvent). AllKeepAsTold keep j p l (after_steps j p (after_step j p h x) xs) ys) at b),
    )

-- ---- one step
path_nowhere : (keep : ℕ) (v w : Caller) (p : ℕ) (h : Holding) → CalledNothing v w → IsPath keep v p h h w
unfolding after_steps AreOwnSteps AllSpareLast AllKeepAsTold calls_among
path_nowhere keep v w p h none = record { steps = []; own = tt; spared = tt; kept = tt; calls = none ∙ sym (append-nil (calls_by v.number v.seen)); held = refl }

pub path_by_call : (keep : ℕ) (v w : Caller) (p : ℕ) (e : HistoryEvent) (h d : Holding) → Called v e w → IsOwnCall v.seen.job h e → after_board_call v.seen.job h e ≡ d → SparesLast h.superstep (Calls e) → KeepsAsTold keep [] h (Calls e) → IsPath keep v p h d w
unfolding after_steps AreOwnSteps AllSpareLast AllKeepAsTold calls_among
path_by_call keep v w p e h d called own is spared kept = record { steps = Calls e ∷ []; own = (own, tt); spared = (spared, tt); kept = (kept, tt); calls = called.own; held = is }

path_anew : (keep : ℕ) (v : Caller) (p : ℕ) (h d : Holding) → start_holding v.seen.job.plan p ≡ d → IsPath keep v p h d v
unfolding after_steps AreOwnSteps AllSpareLast AllKeepAsTold calls_among
path_anew keep v p h d is = record { steps = StartsAnew ∷ []; own = (tt, tt); spared = (tt, tt); kept = (tt, tt); calls = sym (append-nil (calls_by v.number v.seen)); held = is }

pub come_nowhere : (v w : Caller) (p : ℕ) (h : Holding) → CalledNothing v w → HasCome v p h h w
come_nowhere v w p h none keep = path_nowhere keep v w p h none

pub come_by_call : (v w : Caller) (p : ℕ) (e : HistoryEvent) (h d : Holding) → Called v e w → IsOwnCall v.seen.job h e → after_board_call v.seen.job h e ≡ d → SparesLast h.superstep (Calls e) → ((keep : ℕ) → KeepsAsTold keep [] h (Calls e)) → HasCome v p h d w
come_by_call v w p e h d called own is spared kept keep = path_by_call keep v w p e h d called own is spared (kept keep)

pub come_anew : (v : Caller) (p : ℕ) (h d : Holding) → start_holding v.seen.job.plan p ≡ d → HasCome v p h d v
come_anew v p h d is keep = path_anew keep v p h d is

-- a close, where the superstep was kept if it was to be
pub path_close : (keep : ℕ) (v w : Caller) (p : ℕ) (h c d : Holding) → IsPath keep v p h c w → KeptIfTold keep v c.superstep w → held_after v.seen.job c Close ≡ d → IsPath keep v p h d w
unfolding after_steps AreOwnSteps AllSpareLast AllKeepAsTold calls_among
path_close keep v w p h c d k told is =
    let j : Job = v.seen.job in
    let made : List HistoryEvent = calls_by v.number v.seen in
    let here : after_steps j p h k.steps ≡ c = k.held in
    let among : is_kept_at keep c.superstep ≡ true → IsKeptAmong c.superstep (calls_among k.steps) =
    λ due. let m = told due in subst (IsKeptAmong c.superstep) (append_cancel_left made m.made (calls_among k.steps) (sym m.calls ∙ k.calls)) m.kept in
    let last : List Step = ClosesUp ∷ [] in
    record {
      steps = k.steps ++ last;
      own = own-append j p h k.steps last k.own (tt, tt);
      spared = spared-append j p h k.steps last k.spared (tt, tt);
      kept = kept-append keep j p [] h k.steps last k.kept (subst (λ (x : Holding). AllKeepAsTold keep j p (calls_among k.steps) x last) (sym here) (among, tt));
      calls = k.calls ∙ ap (λ (l : List HistoryEvent). made ++ l) (sym (calls-append k.steps last ∙ append-nil (calls_among k.steps)));
      held = after_steps-append j p h k.steps last ∙ (ap (λ (x : Holding). after_steps j p x last) here ∙ is);
    }

-- ---- what is said where a call is refused
pub ok_is_no_err : {T E : Type 0} (x : T) (e : E) → ◌≡◌ {A = Result T E} (Ok x) (Err e) → ⊥
ok_is_no_err x e h = absurd (cc)

-- an error is the same one, whatever would have been Ok
pub err_as : {T U E : Type 0} (e f : E) → ◌≡◌ {A = Result T E} (Err e) (Err f) → ◌≡◌ {A = Result U E} (Err e) (Err f)
err_as e f h = let same : e ≡ f = cc in ap Err same

pub err_not_as : {T U E : Type 0} (e f : E) → (◌≡◌ {A = Result T E} (Err e) (Err f) → ⊥) → ◌≡◌ {A = Result U E} (Err e) (Err f) → ⊥
err_not_as e f h is = h (err_as e f is)

-- ---- one path behind another
path_on : (keep : ℕ) (j : Job) (n : ℕ) (u v w : Caller) (p : ℕ) (a b c : Holding) (steps : List Step) → u.seen.job ≡ j → u.number ≡ n → IsPath keep u p a b v →
    AreOwnSteps j p b steps → AllSpareLast j p b steps → AllKeepAsTold keep j p [] b steps → calls_by n w.seen ≡ calls_by n v.seen ++ calls_among steps → after_steps j p b steps ≡ c → IsPath keep u p a c w
path_on keep j n u v w p a b c steps job number h own spared kept calls held =
    let k : Job = u.seen.job in
    let here : after_steps k p a h.steps ≡ b = h.held in
    let own_here : AreOwnSteps k p (after_steps k p a h.steps) steps = subst (λ (d : Holding). AreOwnSteps k p d steps) (sym here) (subst (λ (i : Job). AreOwnSteps i p b steps) (sym job) own) in
    let spared_here : AllSpareLast k p (after_steps k p a h.steps) steps = subst (λ (d : Holding). AllSpareLast k p d steps) (sym here) (subst (λ (i : Job). AllSpareLast i p b steps) (sym job) spared) in
    let kept_here : AllKeepAsTold keep k p [] (after_steps k p a h.steps) steps = subst (λ (d : Holding). AllKeepAsTold keep k p [] d steps) (sym here) (subst (λ (i : Job). AllKeepAsTold keep i p [] b steps) (sym job) kept) in
    let made : calls_by u.number w.seen ≡ calls_by u.number v.seen ++ calls_among steps = subst (λ (m : ℕ). calls_by m w.seen ≡ calls_by m v.seen ++ calls_among steps) (sym number) calls in
    let end : after_steps k p b steps ≡ c = subst (λ (i : Job). after_steps i p b steps ≡ c) (sym job) held in
    record {
      steps = h.steps ++ steps;
      own = own-append k p a h.steps steps h.own own_here;
      spared = spared-append k p a h.steps steps h.spared spared_here;
      kept = kept-append keep k p [] a h.steps steps h.kept (kept_since keep k p (calls_among h.steps) (after_steps k p a h.steps) steps kept_here);
      calls = made
          ∙ (ap (λ (l : List HistoryEvent). l ++ calls_among steps) h.calls
          ∙ (append_assoc (calls_by u.number u.seen) (calls_among h.steps) (calls_among steps) ∙ ap (λ (l : List HistoryEvent). calls_by u.number u.seen ++ l) (sym (calls-append h.steps steps))));
      held = after_steps-append k p a h.steps steps ∙ (ap (λ (d : Holding). after_steps k p d steps) here ∙ end);
    }

pub nothing_then : (u v w : Caller) → Extends u v → CalledNothing u v → CalledNothing v w → CalledNothing u w
nothing_then u v w e a b = subst (λ (n : ℕ). calls_by n w.seen ≡ calls_by n v.seen) e.number b ∙ a

pub path_then : (keep : ℕ) (u v w : Caller) (p : ℕ) (a b c : Holding) → Extends u v → IsPath keep u p a b v → IsPath keep v p b c w → IsPath keep u p a c w
path_then keep u v w p a b c e h k = path_on keep v.seen.job v.number u v w p a b c k.steps (sym e.begins.job) (sym e.number) h k.own k.spared k.kept k.calls k.held

pub come_then : (u v w : Caller) (p : ℕ) (a b c : Holding) → Extends u v → HasCome u p a b v → HasCome v p b c w → HasCome u p a c w
come_then u v w p a b c e h k keep = path_then keep u v w p a b c e (h keep) (k keep)

-- where the caller made no call since
pub come_past : (u v w : Caller) (p : ℕ) (a b : Holding) → Extends u v → HasCome u p a b v → CalledNothing v w → HasCome u p a b w
come_past u v w p a b e h none = come_then u v w p a b b e h (come_nowhere v w p b none)

pub gone_then : (u v w : Caller) (p : ℕ) (a b : Holding) → Extends u v → HasCome u p a b v → HasGone v p b w → HasGone u p a w
gone_then u v w p a b e h k = record { new = k.new; come = come_then u v w p a b k.new e h k.come }

pub gone : (v w : Caller) (p : ℕ) (a b : Holding) → HasCome v p a b w → HasGone v p a w
gone v w p a b h = record { new = b; come = h }

pub gone_nowhere : (v w : Caller) (p : ℕ) (h : Holding) → CalledNothing v w → HasGone v p h w
gone_nowhere v w p h none = gone v w p h h (come_nowhere v w p h none)

pub left : (keep : ℕ) (v w : Caller) (p : ℕ) (a b : Holding) → IsPath keep v p a b w → HasPath keep v p a w
left keep v w p a b h = record { new = b; come = h }

pub left_by : (keep : ℕ) (v w : Caller) (p : ℕ) (h : Holding) → HasGone v p h w → HasPath keep v p h w
left_by keep v w p h g = record { new = g.new; come = g.come keep }

pub left_then : (keep : ℕ) (u v w : Caller) (p : ℕ) (a b : Holding) → Extends u v → IsPath keep u p a b v → HasPath keep v p b w → HasPath keep u p a w
left_then keep u v w p a b e h k = record { new = k.new; come = path_then keep u v w p a b k.new e h k.come }

-- ---- what a replica holds
held_as : (j : Job) (p : ℕ) (c : Content) (v : State) → HasContent j p c v → holding_in v ≡ holding_of j.plan p c
held_as j p c v k =
    ap (λ (plan : PlanValue). holding_of plan v.part.number (content_of v)) (plan_is j p c.superstep v k.stands)
    ∙ ap (λ (n : ℕ). holding_of j.plan n (content_of v)) (number_is j p c.superstep v k.stands)
    ∙ ap (holding_of j.plan p) (has_content j p c v k)

-- at the start
pub start_held : (j : Job) (p : ℕ) (v : State) → StandsFor j p 0 v → ((s q : ℕ) → (content_of v).holds s q ≡ false) → holding_in v ≡ start_holding j.plan p
start_held j p v stands names =
    let k : HasContent j p start_content v = record { stands = stands; names = names } in
    held_as j p start_content v k

-- after a call
held_next : (j : Job) (p : ℕ) (call : Call) (answer : CallAnswer) (v w : State) → StandsFor j p v.superstep v → IsState v → Did j p call answer v w → holding_in w ≡ held_after j (holding_in v) call
unfolding DidAll answers_due content_after_all
held_next j p call answer v w stands state did =
    let c : Content = content_of v in
    let h : Holding = holding_in v in
    let plan : v.part.plan ≡ j.plan = plan_is j p v.superstep v stands in
    let number : v.part.number ≡ p = number_is j p v.superstep v stands in
    let back : content_in h ≡ c = content_back v.part.plan v.part.number c (content_is_one v state) in
    let has : HasContent j p c v = record { stands = stands; names = λ s q. refl } in
    let run = made j p (call ∷ []) (answer ∷ []) c v w has (w, did, refl) in
    let now : holding_in w ≡ holding_of j.plan p (content_after j p c call) = held_as j p (content_after j p c call) w run.1 in
    now
    ∙ ap (λ (x : PlanValue). holding_of x p (content_after j p c call)) (sym plan)
    ∙ ap (λ (n : ℕ). holding_of v.part.plan n (content_after j n c call)) (sym number)
    ∙ ap (λ (d : Content). holding_of v.part.plan v.part.number (content_after j v.part.number d call)) (sym back)

pub held_taken : (j : Job) (p : ℕ) (name : BatchName) (r : Result Taken TakeError) (v w : State) → StandsFor j p v.superstep v → IsState v → Takes j p name r v w → holding_in w ≡ held_after j (holding_in v) (Take name)
held_taken j p name r v w stands state step = held_next j p (Take name) (Took r) v w stands state step

pub held_closed : (j : Job) (p t : ℕ) (r : Result ℕ CloseError) (v w : State) → StandsFor j p t v → IsState v → Closes j p r v w → holding_in w ≡ held_after j (holding_in v) Close
held_closed j p t r v w stands state step = held_next j p Close (Closed r) v w (subst (λ (n : ℕ). StandsFor j p n v) (sym stands.superstep) stands) state step

pub held_merged : (j : Job) (p t u : ℕ) (v o w : State) → StandsFor j p t v → StandsFor j p u o → IsState v → IsState o → Absorbs v o w → holding_in w ≡ join_of (holding_in v) (holding_in o)
held_merged j p t u v o w a b state other absorbs =
    joined_holding v o w state other (plan_is j p t v a ∙ sym (plan_is j p u o b)) (number_is j p t v a ∙ sym (number_is j p u o b)) absorbs

-- it takes what it fetched
pub own_take : (j : Job) (p : ℕ) (name : BatchName) (b : BatchValue) (r : Result Taken TakeError) (v w : State) → StandsFor j p v.superstep v → IsState v → b ≡ true_batch j name → (b ≡ true_batch j b.name → Takes j p b.name r v w) →
    held_after j (holding_in v) (Take name) ≡ holding_in w
own_take j p name b r v w stands state is step =
    let held : holding_in w ≡ held_after j (holding_in v) (Take b.name) = held_taken j p b.name r v w stands state (step (true_named j name b is)) in
    sym (subst (λ (n : BatchName). holding_in w ≡ held_after j (holding_in v) (Take n)) (name_of_true j name b is) held)

-- where it is told of the superstep, the name is one that the node tells
pub own_post : (j : Job) (p target : ℕ) (b a : BatchValue) (v : State) → StandsFor j p v.superstep v → target < j.plan.parts → target ≢ p → a ≡ b → b ≡ true_batch j (batch_name v.superstep p target) →
    IsOwnName j (holding_in v) a.name
own_post j p target b a v stands below other same is =
    let name : a.name ≡ batch_name v.superstep p target = name_of_true j (batch_name v.superstep p target) a (same ∙ is) in
    let number : v.part.number ≡ p = number_is j p v.superstep v stands in
    subst (λ (n : BatchName). IsOwnName j (holding_in v) n) (sym name)
    (record { superstep = refl; source = sym number; target = below; other = λ e. other (e ∙ number) })

-- ---- the calls of a caller that ran a node
-- the first ones of a node's calls are made by the first ones of its steps
record FirstSteps (j : Job) (p : ℕ) (h : Holding) (made : List HistoryEvent) : Type 0 where
  steps : List Step
  own : AreOwnSteps j p h steps
  calls : calls_among steps ≡ made

no_steps : (j : Job) (p : ℕ) (h : Holding) → FirstSteps j p h []
unfolding AreOwnSteps calls_among
no_steps j p h = record { steps = []; own = tt; calls = refl }

first_more : (j : Job) (p : ℕ) (h : Holding) (step : Step) (made : List HistoryEvent) → IsOwnStep j h step → FirstSteps j p (after_step j p h step) made → FirstSteps j p h (calls_among (step ∷ []) ++ made)
unfolding AreOwnSteps calls_among
first_more j p h (Calls e) made own f = record { steps = Calls e ∷ f.steps; own = (own, f.own); calls = ap (λ (l : List HistoryEvent). e ∷ l) f.calls }
first_more j p h ClosesUp made own f = record { steps = ClosesUp ∷ f.steps; own = (own, f.own); calls = f.calls }
first_more j p h StartsAnew made own f = record { steps = StartsAnew ∷ f.steps; own = (own, f.own); calls = f.calls }

first_steps : (j : Job) (p : ℕ) (h : Holding) (steps : List Step) (made rest : List HistoryEvent) → AreOwnSteps j p h steps → made ++ rest ≡ calls_among steps → FirstSteps j p h made
unfolding AreOwnSteps calls_among
first_steps j p h steps [] rest own is = no_steps j p h
first_steps j p h [] (e ∷ made) rest own is = absurd (cc)
first_steps j p h (Calls c ∷ steps) (e ∷ made) rest own is =
    let both : e ∷ (made ++ rest) ≡ c ∷ calls_among steps = is in
    let same : e ≡ c = cc both in
    let more : made ++ rest ≡ calls_among steps = cc both in
    subst (λ (x : HistoryEvent). FirstSteps j p h (x ∷ made)) (sym same) (first_more j p h (Calls c) made own.0 (first_steps j p (after_step j p h (Calls c)) steps made rest own.1 more))
first_steps j p h (ClosesUp ∷ steps) (e ∷ made) rest own is = first_more j p h ClosesUp (e ∷ made) own.0 (first_steps j p (after_step j p h ClosesUp) steps (e ∷ made) rest own.1 is)
first_steps j p h (StartsAnew ∷ steps) (e ∷ made) rest own is = first_more j p h StartsAnew (e ∷ made) own.0 (first_steps j p (after_step j p h StartsAnew) steps (e ∷ made) rest own.1 is)

of_part : (j : Job) (p : ℕ) (made : List HistoryEvent) → p < j.plan.parts → FirstSteps j p (start_holding j.plan p) made → AreOfPart j p made
of_part j p made below f = record {
  steps = f.steps;
  held = after_steps j p (start_holding j.plan p) f.steps;
  path = record { below = below; own = f.own; calls = f.calls; held = refl };
}

pub path_is_of_part : (v w : Caller) (p : ℕ) (held : Holding) (made : List HistoryEvent) → p < v.seen.job.plan.parts → calls_by v.number v.seen ≡ [] → HasWandered v p (start_holding v.seen.job.plan p) held w → IsPrefix made (calls_by v.number w.seen) → AreOfPart v.seen.job p made
path_is_of_part v w p held made below none path begins =
    let all : calls_by v.number w.seen ≡ calls_among path.steps = path.calls ∙ ap (λ (l : List HistoryEvent). l ++ calls_among path.steps) none in
    of_part v.seen.job p made below (first_steps v.seen.job p (start_holding v.seen.job.plan p) path.steps made begins.0 path.own (begins.1 ∙ all))

pub paths_are_of_nodes : PathsAreOfNodes
paths_are_of_nodes v w p held made below none path begins =
    let own : AreOfPart v.seen.job p made = path_is_of_part v w p held made below none path begins in
    record { part = p; steps = own.steps; held = own.held; path = own.path }

-- the calls of a node that keeps as it is told are a node's
pub wandered : (keep : ℕ) (v w : Caller) (p : ℕ) (old new : Holding) → IsPath keep v p old new w → HasWandered v p old new w
wandered keep v w p old new path = record { steps = path.steps; own = path.own; spared = path.spared; calls = path.calls; held = path.held }

-- the steps of a caller that came to a replica, in a history of its job with all its calls
came_in : (h : History) (v w : Caller) (p : ℕ) (r : State) → p < h.job.plan.parts → v.seen.job ≡ h.job → calls_by v.number v.seen ≡ [] → (path : HasWandered v p (start_holding v.seen.job.plan p) (holding_in r) w) → calls_by v.number h ≡ calls_by v.number w.seen →
    Reaches h.job p (calls_by v.number h) path.steps (holding_in r)
came_in h v w p r below job none path made = record {
  below = below;
  own = subst (λ (j : Job). AreOwnSteps j p (start_holding j.plan p) path.steps) job path.own;
  calls = sym (made ∙ (path.calls ∙ ap (λ (l : List HistoryEvent). l ++ calls_among path.steps) none));
  held = subst (λ (j : Job). after_steps j p (start_holding j.plan p) path.steps ≡ holding_in r) job path.held;
}

all_nodes : (h : History) (n p : ℕ) (steps : List Step) (c : Holding) → Reaches h.job p (calls_by n h) steps c → ((m : ℕ) → m ≢ n → AreOfNode h.job (calls_by m h)) → (m : ℕ) → AreOfNode h.job (calls_by m h)
all_nodes h n p steps c own others m = elim (cases_eq m n) [
  | inl same ↦ subst (λ (k : ℕ). AreOfNode h.job (calls_by k h)) (sym same) (record { part = p; steps = steps; held = c; path = own })
  | inr apart ↦ others m apart
]

pub replicas_are_of_runs : ReplicasAreOfRuns
replicas_are_of_runs replicas h v w id r few below legal job none path made others =
    let own : Reaches h.job id.part (calls_by v.number h) path.steps (holding_in r) = came_in h v w id.part r below job none path made in
    let run : IsRunOfWorld replicas h = histories_are_runs replicas h (omega (arith, few)) legal (all_nodes h v.number id.part path.steps (holding_in r) own others) in
    record { run = run; held = run.held v.number id path.steps (holding_in r) few own }
