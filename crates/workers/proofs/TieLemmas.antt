-- A legal history of nodes is a run of a world: where a caller's call sends or copies something, its node is started
-- anew, and does again what the caller did before. Messages and copies never go away, so it finds all that it needs.
use Rattle.std.proofs.Common.{◌≡◌, ◌≢◌, ⊎_elim, ℕ, zero, suc, ◌+◌, ◌<◌, Bool, true, false, not, ◌==◌, ◌&&◌, nat_lt, if◌then◌else◌, List, [], ◌∷◌, ◌++◌, map, get_or, replicate, refl, ap, sym, ◌∙◌, subst, inl, inr, arith, append_assoc, append-nil}
use Rattle.std.specs.Prelude.{⊤, Option, None, Some, IfSome, option_map, Ok}
use Rattle.std.specs.List.{range_with_len, slice_get}
use Rattle.std.proofs.lemmas.Bool.{and_parts, and_from, or_cases, eqb-true, eq-eqb, ne_eqb, lt-ltb, not_from_false}
use Rattle.ball_model.specs.declared.names.BatchName.{BatchName}
use Rattle.ball_model.specs.declared.names.NodeId.{NodeId}
use Rattle.ball_model.specs.declared.history.Posted.{Posted}
use Rattle.ball_model.specs.declared.history.Posted.TheVariants as posted
use Rattle.ball_model.specs.declared.history.Kept.{Kept}
use Rattle.ball_model.specs.declared.world.Event.{Event as Happening}
use Rattle.ball_model.specs.declared.world.Event.TheVariants as event
use Rattle.ball_model.specs.PlanValue.{PlanValue}
use Rattle.ball_model.specs.Job.{Job}
use Rattle.ball_model.specs.Join.{Holding, join_of, merge_of}
use Rattle.ball_model.specs.Steps.{Take, Close}
use Rattle.ball_model.specs.Held.{start_holding, held_after, IsHeldBy}
use Rattle.ball_model.specs.History.{HistoryEvent, Post, Fetch, Keep, Recall, Drop, Entry, History, entry, Object, empty, AreAnswers, IsAnswer, after, after_all, calls_by, events_by, is_new_post, is_new_keep, same_name}
use Rattle.ball_model.specs.World.{Node, World, start_node, start_world, node_at, with_node, node_of, name_to, outcome_at, outcome_unless, send_at, recover_when, recover_at, deliver_at, world_in, after_event, run_of}
use Rattle.ball_model.specs.WorldLaws.{IsWorld}
use Rattle.ball_model.proofs.HistoryLemmas.{same_name-true, events_by-append, after_all-append}
use Rattle.ball_model.proofs.WorldLemmas.{node_same, node_other, same_or_other, node_is_one, run_stays, start_is_world}
use Rattle.replica.proofs.RunsLemmas.Run.{same_plan-self}
use Rattle.workers.specs.Tie.{Step, Calls, Closes, StartsAnew, after_board_call, after_steps, IsOwnName, IsOwnCall, AreOwnSteps, calls_among, Reaches, AreOfNode, sent_by, copied_by, sent_in, copied_in, ComesTo, CanHold, HistoriesAreRuns}

-- ---- lists
-- an element of a list
pub record IsIn {X : Type 0} (xs : List X) (x : X) : Type 0 where
  place : ℕ
  here : slice_get xs place ≡ Some x

in_front : {X : Type 0} (xs ys : List X) (k : ℕ) (x : X) → slice_get xs k ≡ Some x → slice_get (xs ++ ys) k ≡ Some x
in_front [] ys k x e = absurd (cc)
in_front (y ∷ xs) ys zero x e = e
in_front (y ∷ xs) ys (suc k) x e = in_front xs ys k x e

in_later : {X : Type 0} (xs ys : List X) (x : X) → IsIn xs x → IsIn (xs ++ ys) x
in_later xs ys x h = record { place = h.place; here = in_front xs ys h.place x h.here }

in_last : {X : Type 0} (xs : List X) (x : X) → IsIn (xs ++ x ∷ []) x
in_last [] x = record { place = 0; here = refl }
in_last (y ∷ xs) x = let h = in_last xs x in record { place = suc h.place; here = h.here }

-- ---- one node of a world, which keeps nothing
abbrev holds : Holding → Node
holds h = record { content = h; kept = None }

-- by these events the node comes to hold c, and nothing else is changed
record Does (j : Job) (w : World) (id : NodeId) (c : Holding) : Type 0 where
  events : List Happening
  sent : (run_of j w events).sent ≡ w.sent
  copies : (run_of j w events).copies ≡ w.copies
  node : node_at (run_of j w events) id ≡ Some (holds c)
  others : (at : NodeId) → at ≢ id → node_at (run_of j w events) at ≡ node_at w at

run_of-append : (j : Job) (w : World) (xs ys : List Happening) → run_of j w (xs ++ ys) ≡ run_of j (run_of j w xs) ys
unfolding run_of
run_of-append j w [] ys = refl
run_of-append j w (x ∷ xs) ys = run_of-append j (after_event j w x) xs ys

run_of-one : (j : Job) (w : World) (e : Happening) → run_of j w (e ∷ []) ≡ after_event j w e
unfolding run_of
run_of-one j w e = refl

run_of-none : (j : Job) (w : World) → run_of j w [] ≡ w
unfolding run_of
run_of-none j w = refl

found : (j : Job) (w : World) (n : Node) (e : Happening) → node_at w (node_of e) ≡ Some n → after_event j w e ≡ world_in w (outcome_at j w n e)
found j w n e at = ap (λ o. world_in w (outcome_unless j w e o)) at

nothing_done : (j : Job) (w : World) (id : NodeId) (c : Holding) → node_at w id ≡ Some (holds c) → Does j w id c
nothing_done j w id c at = let none = run_of-none j w in record {
  events = [];
  sent = ap (λ (u : World). u.sent) none;
  copies = ap (λ (u : World). u.copies) none;
  node = ap (λ (u : World). node_at u id) none ∙ at;
  others = λ other ne. ap (λ (u : World). node_at u other) none;
}

one_done : (j : Job) (w : World) (id : NodeId) (h c : Holding) (e : Happening) → node_at w id ≡ Some (holds h) → run_of j w (e ∷ []) ≡ with_node w id (holds c) → Does j w id c
one_done j w id h c e at is = record {
  events = e ∷ [];
  sent = ap (λ (u : World). u.sent) is;
  copies = ap (λ (u : World). u.copies) is;
  node = ap (λ (u : World). node_at u id) is ∙ node_same w id (holds h) (holds c) at;
  others = λ other ne. ap (λ (u : World). node_at u other) is ∙ node_other w id other (holds c) ne;
}

then_done : (j : Job) (w : World) (id : NodeId) (c d : Holding) (a : Does j w id c) → Does j (run_of j w a.events) id d → Does j w id d
then_done j w id c d a b =
    let both = run_of-append j w a.events b.events in
    record {
      events = a.events ++ b.events;
      sent = ap (λ (u : World). u.sent) both ∙ (b.sent ∙ a.sent);
      copies = ap (λ (u : World). u.copies) both ∙ (b.copies ∙ a.copies);
      node = ap (λ (u : World). node_at u id) both ∙ b.node;
      others = λ other ne. ap (λ (u : World). node_at u other) both ∙ (b.others other ne ∙ a.others other ne);
    }

-- ---- what one event does
restarts : (j : Job) (w : World) (id : NodeId) (h : Holding) → IsWorld j w → node_at w id ≡ Some (holds h) → Does j w id (start_holding j.plan id.part)
restarts j w id h ok at =
    let own = (node_is_one j w id (holds h) ok at).content in
    subst (λ (p : ℕ). Does j w id (start_holding j.plan p)) own.partition
    (one_done j w id h (start_holding j.plan h.partition) (event.Restart id) at (run_of-one j w (event.Restart id) ∙ found j w (holds h) (event.Restart id) at))

closes : (j : Job) (w : World) (id : NodeId) (h : Holding) → node_at w id ≡ Some (holds h) → Does j w id (held_after j h Close)
closes j w id h at = one_done j w id h (held_after j h Close) (event.Close id) at (run_of-one j w (event.Close id) ∙ found j w (holds h) (event.Close id) at)

takes : (j : Job) (w : World) (id : NodeId) (h : Holding) (name : BatchName) → node_at w id ≡ Some (holds h) → IsIn w.sent name → Does j w id (held_after j h (Take name))
takes j w id h name at there =
    let e : Happening = event.Deliver there.place id in
    one_done j w id h (held_after j h (Take name)) e at
    (run_of-one j w e ∙ (found j w (holds h) e at ∙ ap (λ o. world_in w (deliver_at j w id (holds h) o)) there.here))

alike : (plan other : PlanValue) (p q : ℕ) → other ≡ plan → q ≡ p → merge_of plan p other q ≡ Ok tt
alike plan other p q a b = rw (a, b, same_plan-self plan, eq-eqb p p refl) refl

joins : (j : Job) (w : World) (id : NodeId) (h c : Holding) → IsWorld j w → node_at w id ≡ Some (holds h) → IsIn w.copies c → c.partition ≡ h.partition → Does j w id (join_of h c)
joins j w id h c ok at there same =
    let e : Happening = event.Recover id there.place in
    let own = (node_is_one j w id (holds h) ok at).content in
    let copied : IsHeldBy j c.partition c = subst (λ o. IfSome o (λ x. IsHeldBy j x.partition x)) there.here (ok.copies there.place) in
    let merged = alike h.plan c.plan h.partition c.partition (copied.plan ∙ sym own.plan) same in
    one_done j w id h (join_of h c) e at
    (run_of-one j w e ∙ (found j w (holds h) e at ∙ (ap (λ o. world_in w (recover_at w id (holds h) o)) there.here ∙ ap (λ r. world_in w (recover_when w id (holds h) c r)) merged)))

-- ---- what a list of steps does
-- what a call found was sent, or copied for that partition
abbrev FoundIn : List BatchName → List Holding → HistoryEvent → Type 0
FoundIn sent copies (Post name r) = ⊤
FoundIn sent copies (Fetch name) = IsIn sent name
FoundIn sent copies (Keep c r) = ⊤
FoundIn sent copies (Recall p s c) = IsIn copies c × (c.partition ≡ p)
FoundIn sent copies (Drop s) = ⊤

AllFound : List BatchName → List Holding → List HistoryEvent → Type 0
AllFound sent copies [] = ⊤
AllFound sent copies (e ∷ es) = FoundIn sent copies e × AllFound sent copies es

calls : (j : Job) (w : World) (id : NodeId) (h : Holding) (e : HistoryEvent) → IsWorld j w → node_at w id ≡ Some (holds h) → IsOwnCall j h e → FoundIn w.sent w.copies e → Does j w id (after_board_call j h e)
calls j w id h (Post name r) ok at own f = nothing_done j w id h at
calls j w id h (Fetch name) ok at own f = takes j w id h name at f
calls j w id h (Keep c r) ok at own f = nothing_done j w id h at
calls j w id h (Recall p s c) ok at own f = joins j w id h c ok at f.0 (f.1 ∙ own)
calls j w id h (Drop s) ok at own f = nothing_done j w id h at

found_then : (j : Job) (w : World) (id : NodeId) (c : Holding) (es : List HistoryEvent) (a : Does j w id c) → AllFound w.sent w.copies es → AllFound (run_of j w a.events).sent (run_of j w a.events).copies es
found_then j w id c es a f = subst (λ (s : List BatchName). AllFound s (run_of j w a.events).copies es) (sym a.sent) (subst (λ (d : List Holding). AllFound w.sent d es) (sym a.copies) f)

does : (j : Job) (w : World) (id : NodeId) (h : Holding) (steps : List Step) → IsWorld j w → node_at w id ≡ Some (holds h) → AreOwnSteps j id.part h steps → AllFound w.sent w.copies (calls_among steps) →
    Does j w id (after_steps j id.part h steps)
unfolding AreOwnSteps calls_among after_steps AllFound
does j w id h [] ok at own f = nothing_done j w id h at
does j w id h (Calls e ∷ steps) ok at own f =
    let a = calls j w id h e ok at own.0 f.0 in
    then_done j w id (after_board_call j h e) (after_steps j id.part (after_board_call j h e) steps) a
    (does j (run_of j w a.events) id (after_board_call j h e) steps (run_stays j w a.events ok) a.node own.1 (found_then j w id (after_board_call j h e) (calls_among steps) a f.1))
does j w id h (Closes ∷ steps) ok at own f =
    let a = closes j w id h at in
    let c : Holding = held_after j h Close in
    then_done j w id c (after_steps j id.part c steps) a
    (does j (run_of j w a.events) id c steps (run_stays j w a.events ok) a.node own.1 (found_then j w id c (calls_among steps) a f))
does j w id h (StartsAnew ∷ steps) ok at own f =
    let a = restarts j w id h ok at in
    let c : Holding = start_holding j.plan id.part in
    then_done j w id c (after_steps j id.part c steps) a
    (does j (run_of j w a.events) id c steps (run_stays j w a.events ok) a.node own.1 (found_then j w id c (calls_among steps) a f))

-- the node starts anew, and does them
replays : (j : Job) (w : World) (id : NodeId) (h : Holding) (steps : List Step) → IsWorld j w → node_at w id ≡ Some (holds h) → AreOwnSteps j id.part (start_holding j.plan id.part) steps →
    AllFound w.sent w.copies (calls_among steps) → Does j w id (after_steps j id.part (start_holding j.plan id.part) steps)
replays j w id h steps ok at own f =
    let a = restarts j w id h ok at in
    let c : Holding = start_holding j.plan id.part in
    then_done j w id c (after_steps j id.part c steps) a
    (does j (run_of j w a.events) id c steps (run_stays j w a.events ok) a.node own (found_then j w id c (calls_among steps) a f))

-- ---- the steps before a call
record BeforeCall (j : Job) (p : ℕ) (h : Holding) (done : List HistoryEvent) (e : HistoryEvent) : Type 0 where
  steps : List Step
  own : AreOwnSteps j p h steps
  calls : calls_among steps ≡ done
  may : IsOwnCall j (after_steps j p h steps) e

head_of : HistoryEvent → List HistoryEvent → HistoryEvent
head_of e [] = e
head_of e (x ∷ xs) = x

tail_of : List HistoryEvent → List HistoryEvent
tail_of [] = []
tail_of (x ∷ xs) = xs

head_same : (x y : HistoryEvent) (xs ys : List HistoryEvent) → x ∷ xs ≡ y ∷ ys → x ≡ y
unfolding head_of
head_same x y xs ys e = ap (head_of x) e

tail_same : (x y : HistoryEvent) (xs ys : List HistoryEvent) → x ∷ xs ≡ y ∷ ys → xs ≡ ys
unfolding tail_of
tail_same x y xs ys e = ap tail_of e

cut_calls : (j : Job) (p : ℕ) (h : Holding) (x : HistoryEvent) (steps : List Step) (done : List HistoryEvent) (e : HistoryEvent) (rest : List HistoryEvent) → IsOwnCall j h x →
    ((more : List HistoryEvent) → calls_among steps ≡ more ++ e ∷ rest → BeforeCall j p (after_board_call j h x) more e) →
    x ∷ calls_among steps ≡ done ++ e ∷ rest → BeforeCall j p h done e
unfolding AreOwnSteps calls_among after_steps
cut_calls j p h x steps [] e rest own later is = record { steps = []; own = tt; calls = refl; may = subst (IsOwnCall j h) (head_same x e (calls_among steps) rest is) own }
cut_calls j p h x steps (d ∷ done) e rest own later is =
    let b = later done (tail_same x d (calls_among steps) (done ++ e ∷ rest) is) in
    let same : x ≡ d = head_same x d (calls_among steps) (done ++ e ∷ rest) is in
    record { steps = Calls x ∷ b.steps; own = (own, b.own); calls = λ i. same i ∷ b.calls i; may = b.may }

none_left : (done : List HistoryEvent) (e : HistoryEvent) (rest : List HistoryEvent) → [] ≡ done ++ e ∷ rest → ⊥
none_left [] e rest is = absurd (cc)
none_left (d ∷ done) e rest is = absurd (cc)

cut : (j : Job) (p : ℕ) (h : Holding) (steps : List Step) (done : List HistoryEvent) (e : HistoryEvent) (rest : List HistoryEvent) → AreOwnSteps j p h steps → calls_among steps ≡ done ++ e ∷ rest → BeforeCall j p h done e
unfolding AreOwnSteps calls_among after_steps
cut j p h [] done e rest own is = absurd (none_left done e rest is)
cut j p h (Calls x ∷ steps) done e rest own is =
    cut_calls j p h x steps done e rest own.0 (λ more same. cut j p (after_board_call j h x) steps more e rest own.1 same) is
cut j p h (Closes ∷ steps) done e rest own is =
    let b = cut j p (held_after j h Close) steps done e rest own.1 is in
    record { steps = Closes ∷ b.steps; own = (tt, b.own); calls = b.calls; may = b.may }
cut j p h (StartsAnew ∷ steps) done e rest own is =
    let b = cut j p (start_holding j.plan p) steps done e rest own.1 is in
    record { steps = StartsAnew ∷ b.steps; own = (tt, b.own); calls = b.calls; may = b.may }

-- ---- what stands was sent, and what is kept was copied
record Known (done : List Entry) : Type 0 where
  stands : (name : BatchName) → (after_all empty done).stands name ≡ true → IsIn (sent_in done) name
  kept : (p : ℕ) → IfSome ((after_all empty done).kept p) (λ c. IsIn (copied_in done) c × (c.partition ≡ p))
  found : (n : ℕ) → AllFound (sent_in done) (copied_in done) (events_by n done)

found_more : (s t : List BatchName) (c d : List Holding) (e : HistoryEvent) → FoundIn s c e → FoundIn (s ++ t) (c ++ d) e
found_more s t c d (Post name r) f = tt
found_more s t c d (Fetch name) f = in_later s t name f
found_more s t c d (Keep x r) f = tt
found_more s t c d (Recall p a x) f = (in_later c d x f.0, f.1)
found_more s t c d (Drop a) f = tt

all_found_more : (s t : List BatchName) (c d : List Holding) (es : List HistoryEvent) → AllFound s c es → AllFound (s ++ t) (c ++ d) es
unfolding AllFound
all_found_more s t c d [] f = tt
all_found_more s t c d (e ∷ es) f = (found_more s t c d e f.0, all_found_more s t c d es f.1)

all_push : (s : List BatchName) (c : List Holding) (es : List HistoryEvent) (e : HistoryEvent) → AllFound s c es → FoundIn s c e → AllFound s c (es ++ e ∷ [])
unfolding AllFound
all_push s c [] e f one = (one, tt)
all_push s c (x ∷ es) e f one = (f.0, all_push s c es e f.1 one)

sent_push : (xs : List Entry) (e : Entry) → sent_in (xs ++ e ∷ []) ≡ sent_in xs ++ sent_by e.event
unfolding sent_in
sent_push [] e = append-nil (sent_by e.event)
sent_push (x ∷ xs) e = ap (λ (l : List BatchName). sent_by x.event ++ l) (sent_push xs e) ∙ sym (append_assoc (sent_by x.event) (sent_in xs) (sent_by e.event))

copied_push : (xs : List Entry) (e : Entry) → copied_in (xs ++ e ∷ []) ≡ copied_in xs ++ copied_by e.event
unfolding copied_in
copied_push [] e = append-nil (copied_by e.event)
copied_push (x ∷ xs) e = ap (λ (l : List Holding). copied_by x.event ++ l) (copied_push xs e) ∙ sym (append_assoc (copied_by x.event) (copied_in xs) (copied_by e.event))

-- what stands after an event stood before it, or was sent by it
stands_push : (o : Object) (e : HistoryEvent) (s : List BatchName) (name : BatchName) → (o.stands name ≡ true → IsIn s name) → (after o e).stands name ≡ true → IsIn (s ++ sent_by e) name
stands_push o (Post n r) s name h is = ⊎_elim
    (λ (a : (is_new_post r && same_name name n) ≡ true).
    let both = and_parts (is_new_post r) (same_name name n) a in
    let here : name ≡ n = same_name-true name n both.1 in
    rw both.0 (subst (λ (x : BatchName). IsIn (s ++ n ∷ []) x) (sym here) (in_last s n)))
    (λ (a : o.stands name ≡ true). in_later s (if is_new_post r then n ∷ [] else []) name (h a))
    (or_cases (is_new_post r && same_name name n) (o.stands name) is)
stands_push o (Fetch n) s name h is = in_later s [] name (h is)
stands_push o (Keep c r) s name h is = in_later s [] name (h is)
stands_push o (Recall p a c) s name h is = in_later s [] name (h is)
stands_push o (Drop a) s name h is = in_later s [] name (h (and_parts (o.stands name) (not (nat_lt name.superstep a)) is).0)

-- and so is what is kept
abbrev KeptIn : List Holding → ℕ → Option Holding → Type 0
KeptIn cs p o = IfSome o (λ c. IsIn cs c × (c.partition ≡ p))

kept_later : (cs ds : List Holding) (p : ℕ) (o : Option Holding) → KeptIn cs p o → KeptIn (cs ++ ds) p o
kept_later cs ds p None h = tt
kept_later cs ds p (Some c) h = (in_later cs ds c h.0, h.1)

kept_put : (cs : List Holding) (c : Holding) (r : Kept) (p : ℕ) (old : Option Holding) (b : Bool) → (is_new_keep r && (p == c.partition)) ≡ b → KeptIn cs p old →
    KeptIn (cs ++ c ∷ []) p (if b then Some c else old)
kept_put cs c r p old false e h = kept_later cs (c ∷ []) p old h
kept_put cs c r p old true e h =
    let both = and_parts (is_new_keep r) (p == c.partition) e in
    (in_last cs c, sym (eqb-true p c.partition both.1))

kept_push : (o : Object) (e : HistoryEvent) (cs : List Holding) (p : ℕ) → KeptIn cs p (o.kept p) → KeptIn (cs ++ copied_by e) p ((after o e).kept p)
kept_push o (Post n r) cs p h = kept_later cs [] p (o.kept p) h
kept_push o (Fetch n) cs p h = kept_later cs [] p (o.kept p) h
kept_push o (Keep c r) cs p h = kept_put cs c r p (o.kept p) (is_new_keep r && (p == c.partition)) refl h
kept_push o (Recall q a c) cs p h = kept_later cs [] p (o.kept p) h
kept_push o (Drop a) cs p h = kept_later cs [] p (o.kept p) h

-- what is answered was found
found_now : (o : Object) (e : HistoryEvent) (s : List BatchName) (cs : List Holding) → ((name : BatchName) → o.stands name ≡ true → IsIn s name) → ((p : ℕ) → KeptIn cs p (o.kept p)) → IsAnswer o e → FoundIn s cs e
found_now o (Post n r) s cs h k a = tt
found_now o (Fetch n) s cs h k a = h n a
found_now o (Keep c r) s cs h k a = tt
found_now o (Recall p t c) s cs h k a = subst (λ (x : Option Holding). KeptIn cs p x) a.0 (k p)
found_now o (Drop t) s cs h k a = tt

events_push : (n : ℕ) (s : List BatchName) (cs : List Holding) (done : List Entry) (e : Entry) (b : Bool) → (e.by == n) ≡ b → AllFound s cs (events_by n done) → FoundIn s cs e.event → AllFound s cs (events_by n (done ++ e ∷ []))
events_push n s cs done e b is f one = subst (AllFound s cs) (sym (events_by-append n done (e ∷ []))) (go b is)
  where
    go : (b : Bool) → (e.by == n) ≡ b → AllFound s cs (events_by n done ++ (if e.by == n then e.event ∷ [] else []))
    go true is = rw is (all_push s cs (events_by n done) e.event f one)
    go false is = rw is (subst (AllFound s cs) (sym (append-nil (events_by n done))) f)

known_push : (done : List Entry) (e : Entry) → Known done → IsAnswer (after_all empty done) e.event → Known (done ++ e ∷ [])
known_push done e h a =
    let o : Object = after_all empty done in
    let now : after_all empty (done ++ e ∷ []) ≡ after o e.event = after_all-append empty done (e ∷ []) in
    let one = found_more (sent_in done) (sent_by e.event) (copied_in done) (copied_by e.event) e.event (found_now o e.event (sent_in done) (copied_in done) h.stands h.kept a) in
    record {
      stands = λ name is. subst (λ (s : List BatchName). IsIn s name) (sym (sent_push done e))
          (stands_push o e.event (sent_in done) name (h.stands name) (subst (λ (x : Object). x.stands name ≡ true) now is));
      kept = λ p. subst (λ (cs : List Holding). KeptIn cs p ((after_all empty (done ++ e ∷ [])).kept p)) (sym (copied_push done e))
          (subst (λ (x : Object). KeptIn (copied_in done ++ copied_by e.event) p (x.kept p)) (sym now) (kept_push o e.event (copied_in done) p (h.kept p)));
      found = λ n. subst (λ (s : List BatchName). AllFound s (copied_in (done ++ e ∷ [])) (events_by n (done ++ e ∷ []))) (sym (sent_push done e))
          (subst (λ (cs : List Holding). AllFound (sent_in done ++ sent_by e.event) cs (events_by n (done ++ e ∷ []))) (sym (copied_push done e))
          (events_push n (sent_in done ++ sent_by e.event) (copied_in done ++ copied_by e.event) done e (e.by == n) refl
          (all_found_more (sent_in done) (sent_by e.event) (copied_in done) (copied_by e.event) (events_by n done) (h.found n)) one));
    }

known_start : Known []
unfolding sent_in copied_in AllFound
known_start = record { stands = λ name is. absurd (cc); kept = λ p. tt; found = λ n. tt }

-- ---- the start
start_row : (x : Node) (n k : ℕ) → k < n → slice_get (replicate n x) k ≡ Some x
start_row x zero k lt = absurd (omega arith)
start_row x (suc n) zero lt = refl
start_row x (suc n) (suc k) lt = start_row x n k (omega (arith, lt))

start_at : (j : Job) (replicas a n p k : ℕ) → p < n → k < replicas → slice_get (get_or (map (λ q. replicate replicas (start_node j.plan q)) (range_with_len a n)) p []) k ≡ Some (start_node j.plan (a + p))
start_at j replicas a zero p k lt few = absurd (omega arith)
start_at j replicas a (suc n) zero k lt few =
    let same : a ≡ a + 0 = omega arith in
    subst (λ (q : ℕ). slice_get (replicate replicas (start_node j.plan a)) k ≡ Some (start_node j.plan q)) same (start_row (start_node j.plan a) replicas k few)
start_at j replicas a (suc n) (suc p) k lt few =
    let same : (a + 1) + p ≡ a + suc p = omega arith in
    subst (λ (q : ℕ). slice_get (get_or (map (λ r. replicate replicas (start_node j.plan r)) (range_with_len (a + 1) n)) p []) k ≡ Some (start_node j.plan q)) same
    (start_at j replicas (a + 1) n p k (omega (arith, lt)) few)

starts : (j : Job) (replicas : ℕ) (id : NodeId) → id.part < j.plan.parts → id.replica < replicas → node_at (start_world j.plan replicas) id ≡ Some (holds (start_holding j.plan id.part))
unfolding node_at start_world
starts j replicas id below few =
    let same : 0 + id.part ≡ id.part = omega arith in
    subst (λ (q : ℕ). slice_get (get_or (map (λ r. replicate replicas (start_node j.plan r)) (range_with_len 0 j.plan.parts)) id.part []) id.replica ≡ Some (start_node j.plan q)) same
    (start_at j replicas 0 j.plan.parts id.part id.replica below few)

-- ---- a world whose nodes keep nothing
record Holder (w : World) (id : NodeId) : Type 0 where
  held : Holding
  node : node_at w id ≡ Some (holds held)

abbrev AllHold : Job → ℕ → World → Type 0
AllHold j replicas w = (id : NodeId) → id.part < j.plan.parts → id.replica < replicas → Holder w id

hold_then : (j : Job) (replicas : ℕ) (w : World) (id : NodeId) (c : Holding) (a : Does j w id c) → AllHold j replicas w → AllHold j replicas (run_of j w a.events)
hold_then j replicas w id c a h other below few = elim (same_or_other other id) [
  | inl same ↦ record { held = c; node = ap (node_at (run_of j w a.events)) same ∙ a.node }
  | inr ne ↦ let one = h other below few in record { held = one.held; node = a.others other ne ∙ one.node }
]

same_nodes : (u w : World) → u.nodes ≡ w.nodes → (id : NodeId) → node_at u id ≡ node_at w id
unfolding node_at
same_nodes u w e id = ap (λ rows. slice_get (get_or rows id.part []) id.replica) e

hold_same : (j : Job) (replicas : ℕ) (u w : World) → u.nodes ≡ w.nodes → AllHold j replicas w → AllHold j replicas u
hold_same j replicas u w e h id below few = let one = h id below few in record { held = one.held; node = same_nodes u w e id ∙ one.node }

-- ---- a world as far as the history has come
record Come (j : Job) (replicas : ℕ) (done : List Entry) (w : World) : Type 0 where
  events : List Happening
  ran : run_of j (start_world j.plan replicas) events ≡ w
  sent : w.sent ≡ sent_in done
  copies : w.copies ≡ copied_in done
  nodes : AllHold j replicas w

come_world : (j : Job) (replicas : ℕ) (done : List Entry) (w : World) → Come j replicas done w → IsWorld j w
come_world j replicas done w h = subst (IsWorld j) h.ran (run_stays j (start_world j.plan replicas) h.events (start_is_world j replicas))

come_start : (j : Job) (replicas : ℕ) → Come j replicas [] (start_world j.plan replicas)
unfolding sent_in copied_in start_world
come_start j replicas = record {
  events = [];
  ran = run_of-none j (start_world j.plan replicas);
  sent = refl;
  copies = refl;
  nodes = λ id below few. record { held = start_holding j.plan id.part; node = starts j replicas id below few };
}

-- what the node of a caller does again
again : (j : Job) (replicas : ℕ) (done : List Entry) (w : World) (id : NodeId) (steps : List Step) (made : List HistoryEvent) → Come j replicas done w → id.part < j.plan.parts → id.replica < replicas →
    AreOwnSteps j id.part (start_holding j.plan id.part) steps → calls_among steps ≡ made → AllFound (sent_in done) (copied_in done) made → Does j w id (after_steps j id.part (start_holding j.plan id.part) steps)
again j replicas done w id steps made h below few own is f =
    let one = h.nodes id below few in
    replays j w id one.held steps (come_world j replicas done w h) one.node own
    (subst (λ (s : List BatchName). AllFound s w.copies (calls_among steps)) (sym h.sent) (subst (λ (cs : List Holding). AllFound (sent_in done) cs (calls_among steps)) (sym h.copies) (subst (AllFound (sent_in done) (copied_in done)) (sym is) f)))

-- a call by which nothing is sent or copied
silent : (j : Job) (replicas : ℕ) (done : List Entry) (w : World) (e : Entry) → Come j replicas done w → sent_by e.event ≡ [] → copied_by e.event ≡ [] → Come j replicas (done ++ e ∷ []) w
silent j replicas done w e h s c = record {
  events = h.events;
  ran = h.ran;
  sent = h.sent ∙ sym (sent_push done e ∙ (ap (λ (l : List BatchName). sent_in done ++ l) s ∙ append-nil (sent_in done)));
  copies = h.copies ∙ sym (copied_push done e ∙ (ap (λ (l : List Holding). copied_in done ++ l) c ∙ append-nil (copied_in done)));
  nodes = h.nodes;
}

-- further events, and one of them at the end that sends or copies
come_then : (j : Job) (replicas : ℕ) (done : List Entry) (w : World) (e : Entry) (id : NodeId) (c : Holding) (last : Happening) (u : World) (h : Come j replicas done w) (a : Does j w id c) →
    run_of j (run_of j w a.events) (last ∷ []) ≡ u → u.sent ≡ w.sent ++ sent_by e.event → u.copies ≡ w.copies ++ copied_by e.event → u.nodes ≡ (run_of j w a.events).nodes →
    Come j replicas (done ++ e ∷ []) u
come_then j replicas done w e id c last u h a is sent copies nodes = record {
  events = h.events ++ (a.events ++ last ∷ []);
  ran = run_of-append j (start_world j.plan replicas) h.events (a.events ++ last ∷ [])
      ∙ (ap (λ (x : World). run_of j x (a.events ++ last ∷ [])) h.ran ∙ (run_of-append j w a.events (last ∷ []) ∙ is));
  sent = sent ∙ (ap (λ (l : List BatchName). l ++ sent_by e.event) h.sent ∙ sym (sent_push done e));
  copies = copies ∙ (ap (λ (l : List Holding). l ++ copied_by e.event) h.copies ∙ sym (copied_push done e));
  nodes = hold_same j replicas u (run_of j w a.events) nodes (hold_then j replicas w id c a h.nodes);
}

sends : (j : Job) (w : World) (id : NodeId) (c : Holding) (name : BatchName) → node_at w id ≡ Some (holds c) → IsOwnName j c name → run_of j w (event.Send id name.target ∷ []) ≡ record w { sent = w.sent ++ name ∷ [] }
sends j w id c name at own =
    let q : ℕ = name.target in
    let told : (nat_lt q j.plan.parts && not (q == c.partition)) ≡ true = and_from (nat_lt q j.plan.parts) (not (q == c.partition)) (lt-ltb q j.plan.parts own.target) (not_from_false (q == c.partition) (ne_eqb q c.partition own.other)) in
    let named : name_to (holds c) q ≡ name = λ i. record { superstep = sym own.superstep i; source = sym own.source i; target = q } in
    run_of-one j w (event.Send id q)
    ∙ (found j w (holds c) (event.Send id q) at
    ∙ (send_out j w (holds c) q (nat_lt q j.plan.parts && not (q == c.partition)) refl told ∙ ap (λ (x : BatchName). record w { sent = w.sent ++ x ∷ [] }) named))
  where
    send_out : (j : Job) (w : World) (n : Node) (q : ℕ) (b : Bool) → (nat_lt q j.plan.parts && not (q == n.content.partition)) ≡ b → b ≡ true → world_in w (send_at j w n q) ≡ record w { sent = w.sent ++ name_to n q ∷ [] }
    send_out j w n q false is b = absurd (cc)
    send_out j w n q true is b = rw is refl

copies_one : (j : Job) (w : World) (id : NodeId) (c : Holding) → node_at w id ≡ Some (holds c) → run_of j w (event.Copy id ∷ []) ≡ record w { copies = w.copies ++ c ∷ [] }
copies_one j w id c at = run_of-one j w (event.Copy id) ∙ found j w (holds c) (event.Copy id) at

-- one call more
record ComeNext (j : Job) (replicas : ℕ) (done : List Entry) : Type 0 where
  world : World
  come : Come j replicas done world

posts : (j : Job) (replicas : ℕ) (done : List Entry) (w : World) (n : ℕ) (id : NodeId) (c : Holding) (name : BatchName) (r : Posted) → Come j replicas done w → Does j w id c → IsOwnName j c name →
    ComeNext j replicas (done ++ entry n (Post name r) ∷ [])
posts j replicas done w n id c name posted.Old h a own = record { world = w; come = silent j replicas done w (entry n (Post name posted.Old)) h refl refl }
posts j replicas done w n id c name posted.Known h a own = record { world = w; come = silent j replicas done w (entry n (Post name posted.Known)) h refl refl }
posts j replicas done w n id c name posted.New h a own =
    let v : World = run_of j w a.events in
    let u : World = record v { sent = v.sent ++ name ∷ [] } in
    record {
      world = u;
      come = come_then j replicas done w (entry n (Post name posted.New)) id c (event.Send id name.target) u h a (sends j v id c name a.node own)
          (ap (λ (l : List BatchName). l ++ name ∷ []) a.sent) (a.copies ∙ sym (append-nil w.copies)) refl;
    }

keeps : (j : Job) (replicas : ℕ) (done : List Entry) (w : World) (n : ℕ) (id : NodeId) (c d : Holding) (r : Kept) → Come j replicas done w → Does j w id c → d ≡ c →
    ComeNext j replicas (done ++ entry n (Keep d r) ∷ [])
keeps j replicas done w n id c d r h a own =
    let v : World = run_of j w a.events in
    let u : World = record v { copies = v.copies ++ d ∷ [] } in
    record {
      world = u;
      come = come_then j replicas done w (entry n (Keep d r)) id c (event.Copy id) u h a
          (copies_one j v id c a.node ∙ ap (λ (x : Holding). record v { copies = v.copies ++ x ∷ [] }) (sym own))
          (a.sent ∙ sym (append-nil w.sent)) (ap (λ (l : List Holding). l ++ d ∷ []) a.copies) refl;
    }

calls_one : (j : Job) (replicas : ℕ) (done : List Entry) (w : World) (n : ℕ) (id : NodeId) (c : Holding) (e : HistoryEvent) → Come j replicas done w → Does j w id c → IsOwnCall j c e →
    ComeNext j replicas (done ++ entry n e ∷ [])
calls_one j replicas done w n id c (Post name r) h a own = posts j replicas done w n id c name r h a own
calls_one j replicas done w n id c (Fetch name) h a own = record { world = w; come = silent j replicas done w (entry n (Fetch name)) h refl refl }
calls_one j replicas done w n id c (Keep d r) h a own = keeps j replicas done w n id c d r h a own
calls_one j replicas done w n id c (Recall p s d) h a own = record { world = w; come = silent j replicas done w (entry n (Recall p s d)) h refl refl }
calls_one j replicas done w n id c (Drop s) h a own = record { world = w; come = silent j replicas done w (entry n (Drop s)) h refl refl }

own_events : (n : ℕ) (done rest : List Entry) (e : HistoryEvent) → events_by n (done ++ entry n e ∷ rest) ≡ events_by n done ++ e ∷ events_by n rest
own_events n done rest e = events_by-append n done (entry n e ∷ rest) ∙ ap (λ (b : Bool). events_by n done ++ (if b then e ∷ events_by n rest else events_by n rest)) (eq-eqb n n refl)

come_push : (j : Job) (replicas : ℕ) (done rest : List Entry) (w : World) (n : ℕ) (e : HistoryEvent) → 0 < replicas → Come j replicas done w → Known done → AreOfNode j (events_by n (done ++ entry n e ∷ rest)) →
    ComeNext j replicas (done ++ entry n e ∷ [])
come_push j replicas done rest w n e some h known node =
    let p : ℕ = node.part in
    let id : NodeId = record { part = p; replica = 0 } in
    let b = cut j p (start_holding j.plan p) node.steps (events_by n done) e (events_by n rest) node.path.own (node.path.calls ∙ own_events n done rest e) in
    let a = again j replicas done w id b.steps (events_by n done) h node.path.below some b.own b.calls (known.found n) in
    calls_one j replicas done w n id (after_steps j p (start_holding j.plan p) b.steps) e h a b.may

record Whole (j : Job) (replicas : ℕ) (all : List Entry) : Type 0 where
  world : World
  come : Come j replicas all world
  known : Known all

come_all : (j : Job) (replicas : ℕ) (done rest all : List Entry) (w : World) → 0 < replicas → all ≡ done ++ rest → ((n : ℕ) → AreOfNode j (events_by n all)) → AreAnswers (after_all empty done) rest →
    Come j replicas done w → Known done → Whole j replicas all
come_all j replicas done [] all w some is nodes legal h known =
    let same : done ≡ all = sym (is ∙ append-nil done) in
    record { world = w; come = subst (λ (l : List Entry). Come j replicas l w) same h; known = subst Known same known }
come_all j replicas done (e ∷ rest) all w some is nodes legal h known =
    let next = come_push j replicas done rest w e.by e.event some h known (subst (λ (l : List Entry). AreOfNode j (events_by e.by l)) is (nodes e.by)) in
    come_all j replicas (done ++ e ∷ []) rest all next.world some (is ∙ sym (append_assoc done (e ∷ []) rest)) nodes
    (subst (λ (o : Object). AreAnswers o rest) (sym (after_all-append empty done (e ∷ []))) legal.1) next.come (known_push done e known legal.0)

comes : (j : Job) (w : World) (id : NodeId) (c d : Holding) (a : Does j w id c) → c ≡ d → ComesTo j w id a.events d
comes j w id c d a is = record { sent = a.sent; copies = a.copies; content = ap (option_map (λ n. n.content)) a.node ∙ ap (λ (x : Holding). Some x) is }

can_hold : (replicas : ℕ) (h : History) (w : World) (n : ℕ) (id : NodeId) (steps : List Step) (c : Holding) → Come h.job replicas h.calls w → Known h.calls → id.replica < replicas →
    Reaches h.job id.part (calls_by n h) steps c → CanHold h.job w id c
can_hold replicas h w n id steps c come known few path =
    let a = again h.job replicas h.calls w id steps (calls_by n h) come path.below few path.own path.calls (known.found n) in
    record { events = a.events; comes = comes h.job w id (after_steps h.job id.part (start_holding h.job.plan id.part) steps) c a path.held }

pub histories_are_runs : HistoriesAreRuns
histories_are_runs replicas h some legal nodes =
    let start : World = start_world h.job.plan replicas in
    let whole = come_all h.job replicas [] h.calls h.calls start some refl nodes legal (come_start h.job replicas) known_start in
    let come = whole.come in
    record {
      events = come.events;
      sent = ap (λ (w : World). w.sent) come.ran ∙ come.sent;
      copies = ap (λ (w : World). w.copies) come.ran ∙ come.copies;
      held = λ n id steps c few path.
          subst (λ (w : World). CanHold h.job w id c) (sym come.ran) (can_hold replicas h whole.world n id steps c come whole.known few path);
    }
