-- Runs of a world.
use Rattle.std.proofs.Common.{◌≡◌, ◌≢◌, ◌⊎◌, ℕ, zero, suc, ◌+◌, ◌-◌, ◌<◌, ◌≤◌, Bool, true, false, not, ◌==◌, ◌&&◌, nat_lt, if◌then◌else◌, List, [], ◌∷◌, ◌++◌, map, length, get_or, set, replicate, IfSome, option_map, refl, ap, sym, ◌∙◌, subst, inl, inr, arith}
use Rattle.std.specs.Prelude.{Option, None, Some, Result, Ok, Err, IsOk, unwrap_or}
use Rattle.std.specs.List.{AllByRecursion, range_with_len, remove, slice_get}
use Rattle.std.proofs.lemmas.Bool.{cases_eq, cases_lt, and_parts, le-ltb, lt-ltb, ltb-true, eqb-true, eqb-false, not-true}
use Rattle.std.proofs.lemmas.List.{length-append}
use Rattle.std.proofs.lemmas.List.Edits.{remove-append_left}
use Rattle.ball_model.specs.declared.names.BatchName.{BatchName}
use Rattle.ball_model.specs.declared.names.NodeId.{NodeId}
use Rattle.ball_model.specs.declared.names.Taken.{Taken}
use Rattle.ball_model.specs.declared.names.Taken.TheVariants as taken
use Rattle.ball_model.specs.declared.names.TakeError.{TakeError}
use Rattle.ball_model.specs.declared.names.CloseError.{CloseError}
use Rattle.ball_model.specs.declared.names.MergeError.{MergeError}
use Rattle.ball_model.specs.declared.names.MergeError.TheVariants as unmerged
use Rattle.ball_model.specs.declared.world.Event.{Event}
use Rattle.ball_model.specs.declared.world.Event.TheVariants as event
use Rattle.ball_model.specs.declared.world.Answer.{Answer}
use Rattle.ball_model.specs.declared.world.Answer.TheVariants as answer
use Rattle.ball_model.specs.declared.world.WorldError.{WorldError}
use Rattle.ball_model.specs.declared.world.WorldError.TheVariants as refused
use Rattle.ball_model.specs.PlanValue.{PlanValue}
use Rattle.ball_model.specs.Job.{Job}
use Rattle.ball_model.specs.Content.{Content, close_of}
use Rattle.ball_model.specs.Join.{Holding, content_in, join_of, merge_of}
use Rattle.ball_model.specs.Steps.{Take, Close, content_after_close}
use Rattle.ball_model.specs.Held.{start_holding, held_take_answer, held_after, IsHeldBy, IsName}
use Rattle.ball_model.specs.World.{Node, World, start_node, start_world, node_at, with_node, with_content, node_of, name_to, outcome_at, outcome_unless, recover_when, recover_at, deliver_at, taken_answer, answer_in, world_in, answer_of, after_event, run_of}
use Rattle.ball_model.specs.WorldLaws.{IsWorldNode, IsWorld, RunsStayWorlds, SentIsInTime, LossLeavesContents, SparesMessage, without_message, event_without, OthersStay, RepeatIsNotNew, RecoverTwiceIsOnce, RecoveredIsHad, SparesKept, SparesNode, RestartGivesKept, IsNoRestart, OnlyRestartGoesBack}
use Rattle.ball_model.proofs.HeldLemmas.{start_held, taken_held, closed_held, joined_held, held_alike, held_repeats, taken_grows, closed_grows, joined_grows, grows_through, IsHeard, taken_is_heard, heard_again, heard_grows}
use Rattle.ball_model.proofs.JoinLemmas.{join_repeats, join_associates}

-- ---- lists
set_same : {X : Type 0} (xs : List X) (k : ℕ) (n m : X) → slice_get xs k ≡ Some n → slice_get (set xs k m) k ≡ Some m
set_same [] k n m e = absurd (cc)
set_same (x ∷ xs) zero n m e = refl
set_same (x ∷ xs) (suc k) n m e = set_same xs k n m e

set_other : {X : Type 0} (xs : List X) (k i : ℕ) (m : X) → i ≢ k → slice_get (set xs k m) i ≡ slice_get xs i
set_other [] k i m ne = refl
set_other (x ∷ xs) zero zero m ne = absurd (ne refl)
set_other (x ∷ xs) zero (suc i) m ne = refl
set_other (x ∷ xs) (suc k) zero m ne = refl
set_other (x ∷ xs) (suc k) (suc i) m ne = set_other xs k i m (λ e. ne (ap suc e))

set_back : {X : Type 0} (xs : List X) (k : ℕ) (n : X) → slice_get xs k ≡ Some n → set xs k n ≡ xs
set_back [] k n e = absurd (cc)
set_back (x ∷ xs) zero n e = let same : x ≡ n = some_one x n e in ap (λ (y : _). y ∷ xs) (sym same)
  where
    some_one : {X : Type 0} (x n : X) → Some x ≡ Some n → x ≡ n
    some_one x n e = ap (λ o. unwrap_or o x) e
set_back (x ∷ xs) (suc k) n e = ap (λ ys. x ∷ ys) (set_back xs k n e)

-- a list of lists, where element k of list p is another
abbrev pub changed : {X : Type 0} → List (List X) → ℕ → ℕ → X → List (List X)
changed rows p k m = set rows p (set (get_or rows p []) k m)

pub changed_same : {X : Type 0} (rows : List (List X)) (p k : ℕ) (n m : X) → slice_get (get_or rows p []) k ≡ Some n → slice_get (get_or (changed rows p k m) p []) k ≡ Some m
changed_same [] p k n m e = absurd (cc)
changed_same (r ∷ rows) zero k n m e = set_same r k n m e
changed_same (r ∷ rows) (suc p) k n m e = changed_same rows p k n m e

pub changed_row : {X : Type 0} (rows : List (List X)) (p k i : ℕ) (m : X) → i ≢ k → slice_get (get_or (changed rows p k m) p []) i ≡ slice_get (get_or rows p []) i
changed_row [] p k i m ne = refl
changed_row (r ∷ rows) zero k i m ne = set_other r k i m ne
changed_row (r ∷ rows) (suc p) k i m ne = changed_row rows p k i m ne

pub changed_other : {X : Type 0} (rows : List (List X)) (p q k : ℕ) (row : List X) → q ≢ p → get_or (set rows p row) q [] ≡ get_or rows q []
changed_other [] p q k row ne = refl
changed_other (r ∷ rows) zero zero k row ne = absurd (ne refl)
changed_other (r ∷ rows) zero (suc q) k row ne = refl
changed_other (r ∷ rows) (suc p) zero k row ne = refl
changed_other (r ∷ rows) (suc p) (suc q) k row ne = changed_other rows p q k row (λ e. ne (ap suc e))

pub changed_back : {X : Type 0} (rows : List (List X)) (p k : ℕ) (n : X) → slice_get (get_or rows p []) k ≡ Some n → changed rows p k n ≡ rows
changed_back [] p k n e = absurd (cc)
changed_back (r ∷ rows) zero k n e = ap (λ (x : _). x ∷ rows) (set_back r k n e)
changed_back (r ∷ rows) (suc p) k n e = ap (λ (x : _). r ∷ x) (changed_back rows p k n e)

-- what holds of each element holds with one more
pub one_more : {X : Type 0} (P : X → Type 0) (xs : List X) (y : X) → ((m : ℕ) → IfSome (slice_get xs m) P) → P y → (m : ℕ) → IfSome (slice_get (xs ++ y ∷ []) m) P
one_more P [] y h at zero = at
one_more P [] y h at (suc m) = tt
one_more P (x ∷ xs) y h at zero = h 0
one_more P (x ∷ xs) y h at (suc m) = one_more P xs y (λ k. h (suc k)) at m

-- ---- nodes
pub id_same : (a b : NodeId) → a.part ≡ b.part → a.replica ≡ b.replica → a ≡ b
id_same a b p k = λ i. record { part = p i; replica = k i }

pub same_or_other : (a b : NodeId) → (a ≡ b) ⊎ (a ≢ b)
same_or_other a b = elim (cases_eq a.part b.part) [
  | inl p ↦ elim (cases_eq a.replica b.replica) [
    | inl k ↦ inl (id_same a b p k)
    | inr ne ↦ inr (λ e. ne (ap (λ (x : NodeId). x.replica) e))
  ]
  | inr ne ↦ inr (λ e. ne (ap (λ (x : NodeId). x.part) e))
]

pub node_same : (w : World) (id : NodeId) (n m : Node) → node_at w id ≡ Some n → node_at (with_node w id m) id ≡ Some m
unfolding node_at
node_same w id n m e = changed_same w.nodes id.part id.replica n m e

pub node_other : (w : World) (id at : NodeId) (m : Node) → at ≢ id → node_at (with_node w id m) at ≡ node_at w at
unfolding node_at
node_other w id at m ne = elim (cases_eq at.part id.part) [
  | inl p ↦
      subst (λ (q : ℕ). slice_get (get_or (changed w.nodes id.part id.replica m) q []) at.replica ≡ slice_get (get_or w.nodes q []) at.replica) (sym p)
      (changed_row w.nodes id.part id.replica at.replica m (λ k. ne (id_same at id p k)))
  | inr other ↦ ap (λ (row : List Node). slice_get row at.replica) (changed_other w.nodes id.part at.part id.replica (set (get_or w.nodes id.part []) id.replica m) other)
]

pub node_back : (w : World) (id : NodeId) (n : Node) → node_at w id ≡ Some n → with_node w id n ≡ w
unfolding node_at
node_back w id n e = ap (λ (rows : List (List Node)). record w { nodes = rows }) (changed_back w.nodes id.part id.replica n e)

-- ---- worlds of a job
-- a world with another node is one of the job where that node is
pub with_node_world : (j : Job) (w : World) (id : NodeId) (n m : Node) → IsWorld j w → node_at w id ≡ Some n → IsWorldNode j id.part m → IsWorld j (with_node w id m)
with_node_world j w id n m ok at fits = record {
  nodes = λ other. elim (same_or_other other id) [
    | inl same ↦ subst (λ (x : NodeId). IfSome (node_at (with_node w id m) x) (IsWorldNode j x.part)) (sym same) (subst (λ (o : Option Node). IfSome o (IsWorldNode j id.part)) (sym (node_same w id n m at)) fits)
    | inr ne ↦ subst (λ (o : Option Node). IfSome o (IsWorldNode j other.part)) (sym (node_other w id other m ne)) (ok.nodes other)
  ];
  sent = ok.sent;
  copies = ok.copies;
}

-- the node is one of its partition
pub node_is_one : (j : Job) (w : World) (id : NodeId) (n : Node) → IsWorld j w → node_at w id ≡ Some n → IsWorldNode j id.part n
node_is_one j w id n ok at = subst (λ (o : Option Node). IfSome o (IsWorldNode j id.part)) at (ok.nodes id)

with_content_world : (j : Job) (w : World) (id : NodeId) (n : Node) (h : Holding) → IsWorld j w → node_at w id ≡ Some n → IsHeldBy j id.part h → IsWorld j (with_content w id n h)
with_content_world j w id n h ok at fits = with_node_world j w id n (record n { content = h }) ok at (record { content = fits; kept = (node_is_one j w id n ok at).kept })

sent_world : (j : Job) (w : World) (id : NodeId) (n : Node) (q : ℕ) (b : Bool) → (nat_lt q j.plan.parts && not (q == n.content.partition)) ≡ b → IsWorld j w → node_at w id ≡ Some n → IsWorld j (world_in w (outcome_at j w n (event.Send id q)))
unfolding node_at
sent_world j w id n q false e ok at = rw e ok
sent_world j w id n q true e ok at =
    let both = and_parts (nat_lt q j.plan.parts) (not (q == n.content.partition)) e in
    let h = (node_is_one j w id n ok at).content in
    let name : IsName j.plan (name_to n q) = record {
      superstep = subst (λ (plan : PlanValue). n.content.superstep ≤ plan.limit) h.plan h.holding.content.superstep;
      source = subst (λ (p : ℕ). p < j.plan.parts) (sym h.partition) h.below;
      target = ltb-true q j.plan.parts both.0;
      other = λ same. eqb-false q n.content.partition (not-true (q == n.content.partition) both.1) (sym same);
    } in
    rw e (record { nodes = ok.nodes; sent = one_more (IsName j.plan) w.sent (name_to n q) ok.sent name; copies = ok.copies })

delivered_world : (j : Job) (w : World) (id : NodeId) (n : Node) (o : Option BatchName) → IfSome o (IsName j.plan) → IsWorld j w → node_at w id ≡ Some n → IsWorld j (world_in w (deliver_at j w id n o))
delivered_world j w id n None name ok at = ok
delivered_world j w id n (Some m) name ok at = with_content_world j w id n (held_after j n.content (Take m)) ok at (taken_held j id.part n.content m (node_is_one j w id n ok at).content name)

restarted_world : (j : Job) (w : World) (id : NodeId) (n : Node) (o : Option Holding) → IfSome o (IsHeldBy j id.part) → IsWorld j w → node_at w id ≡ Some n → IsWorld j (with_content w id n (unwrap_or o (start_holding j.plan n.content.partition)))
restarted_world j w id n None kept ok at =
    let h = (node_is_one j w id n ok at).content in
    with_content_world j w id n (start_holding j.plan n.content.partition) ok at
    (subst (λ (p : ℕ). IsHeldBy j id.part (start_holding j.plan p)) (sym h.partition) (start_held j id.part h.below))
restarted_world j w id n (Some h) kept ok at = with_content_world j w id n h ok at kept

-- a copy that may be merged is of the partition
pub own_copy : (a b : Bool) (r : Unit {0}) → (if not a then Err unmerged.OtherJob else (if not b then Err unmerged.NotMine else Ok tt)) ≡ Ok r → b ≡ true
own_copy false b r e = absurd (cc)
own_copy true false r e = absurd (cc)
own_copy true true r e = refl

-- it may be held there
copy_held : (j : Job) (p : ℕ) (n : Node) (d : Holding) (u : Unit {0}) → merge_of n.content.plan n.content.partition d.plan d.partition ≡ Ok u → IsHeldBy j d.partition d → IsHeldBy j p n.content → IsHeldBy j p d
copy_held j p n d u is copy held =
    let same : d.partition ≡ n.content.partition = eqb-true d.partition n.content.partition (own_copy _ (d.partition == n.content.partition) u is) in
    subst (λ (q : ℕ). IsHeldBy j q d) (same ∙ held.partition) copy

recovered_world : (j : Job) (w : World) (id : NodeId) (n : Node) (c : Holding) (r : Result (Unit {0}) MergeError) → merge_of n.content.plan n.content.partition c.plan c.partition ≡ r → IsHeldBy j c.partition c → IsWorld j w → node_at w id ≡ Some n → IsWorld j (world_in w (recover_when w id n c r))
recovered_world j w id n c (Err e) is copy ok at = ok
recovered_world j w id n c (Ok u) is copy ok at =
    let h = (node_is_one j w id n ok at).content in
    with_content_world j w id n (join_of n.content c) ok at (joined_held j id.part n.content c h (copy_held j id.part n c u is copy h))

recover_world : (j : Job) (w : World) (id : NodeId) (n : Node) (o : Option Holding) → IfSome o (λ h. IsHeldBy j h.partition h) → IsWorld j w → node_at w id ≡ Some n → IsWorld j (world_in w (recover_at w id n o))
recover_world j w id n None copy ok at = ok
recover_world j w id n (Some c) copy ok at = recovered_world j w id n c (merge_of n.content.plan n.content.partition c.plan c.partition) refl copy ok at

-- what an event at a node makes of a world of the job
stays_at : (j : Job) (w : World) (n : Node) (e : Event) → IsWorld j w → node_at w (node_of e) ≡ Some n → IsWorld j (world_in w (outcome_at j w n e))
unfolding node_at
stays_at j w n (event.Send id q) ok at = sent_world j w id n q (nat_lt q j.plan.parts && not (q == n.content.partition)) refl ok at
stays_at j w n (event.Deliver m id) ok at = delivered_world j w id n (slice_get w.sent m) (ok.sent m) ok at
stays_at j w n (event.Close id) ok at = with_content_world j w id n (held_after j n.content Close) ok at (closed_held j id.part n.content (node_is_one j w id n ok at).content)
stays_at j w n (event.Keep id) ok at = let h = (node_is_one j w id n ok at).content in with_node_world j w id n (record n { kept = Some n.content }) ok at (record { content = h; kept = h })
stays_at j w n (event.Restart id) ok at = restarted_world j w id n n.kept (node_is_one j w id n ok at).kept ok at
stays_at j w n (event.Copy id) ok at =
    let h = (node_is_one j w id n ok at).content in
    record { nodes = ok.nodes; sent = ok.sent; copies = one_more (λ (x : Holding). IsHeldBy j x.partition x) w.copies n.content ok.copies (subst (λ (p : ℕ). IsHeldBy j p n.content) (sym h.partition) h) }
stays_at j w n (event.Recover id c) ok at = recover_world j w id n (slice_get w.copies c) (ok.copies c) ok at
stays_at j w n (event.Show id) ok at = ok

stays_unless : (j : Job) (w : World) (e : Event) (o : Option Node) → node_at w (node_of e) ≡ o → IsWorld j w → IsWorld j (world_in w (outcome_unless j w e o))
stays_unless j w e None at ok = ok
stays_unless j w e (Some n) at ok = stays_at j w n e ok at

pub stays_world : (j : Job) (w : World) (e : Event) → IsWorld j w → IsWorld j (after_event j w e)
stays_world j w e ok = stays_unless j w e (node_at w (node_of e)) refl ok

pub run_stays : (j : Job) (w : World) (es : List Event) → IsWorld j w → IsWorld j (run_of j w es)
unfolding run_of
run_stays j w [] ok = ok
run_stays j w (e ∷ es) ok = run_stays j (after_event j w e) es (stays_world j w e ok)

-- ---- the start
alike_node : (j : Job) (p count k : ℕ) → p < j.plan.parts → IfSome (slice_get (replicate count (start_node j.plan p)) k) (IsWorldNode j p)
alike_node j p zero k lt = tt
alike_node j p (suc count) zero lt = record { content = start_held j p lt; kept = tt }
alike_node j p (suc count) (suc k) lt = alike_node j p count k lt

start_rows : (j : Job) (replicas a n p k : ℕ) → a + n ≤ j.plan.parts → IfSome (slice_get (get_or (map (λ q. replicate replicas (start_node j.plan q)) (range_with_len a n)) p []) k) (IsWorldNode j (a + p))
start_rows j replicas a zero p k within = tt
start_rows j replicas a (suc n) zero k within =
    let same : a + 0 ≡ a = omega arith in
    subst (λ (q : ℕ). IfSome (slice_get (replicate replicas (start_node j.plan a)) k) (IsWorldNode j q)) (sym same) (alike_node j a replicas k (omega (arith, within)))
start_rows j replicas a (suc n) (suc p) k within =
    let same : (a + 1) + p ≡ a + suc p = omega arith in
    subst (λ (q : ℕ). IfSome (slice_get (get_or (map (λ r. replicate replicas (start_node j.plan r)) (range_with_len (a + 1) n)) p []) k) (IsWorldNode j q)) same (start_rows j replicas (a + 1) n p k (omega (arith, within)))

pub start_is_world : (j : Job) (replicas : ℕ) → IsWorld j (start_world j.plan replicas)
unfolding start_world node_at
start_is_world j replicas = record {
  nodes = λ id. let same : 0 + id.part ≡ id.part = omega arith in
      subst (λ (q : ℕ). IfSome (slice_get (get_or (map (λ r. replicate replicas (start_node j.plan r)) (range_with_len 0 j.plan.parts)) id.part []) id.replica) (IsWorldNode j q)) same (start_rows j replicas 0 j.plan.parts id.part id.replica (omega arith));
  sent = λ m. tt;
  copies = λ c. tt;
}

-- ---- the laws
pub runs_stay_worlds : RunsStayWorlds
runs_stay_worlds j replicas es = run_stays j (start_world j.plan replicas) es (start_is_world j replicas)

in_time_if : (plan : PlanValue) (o : Option BatchName) → IfSome o (IsName plan) → IfSome o (λ name. name.superstep ≤ plan.limit)
in_time_if plan None h = tt
in_time_if plan (Some name) h = h.superstep

pub sent_is_in_time : SentIsInTime
sent_is_in_time j replicas m es = in_time_if j.plan (slice_get (run_of j (start_world j.plan replicas) es).sent m) ((runs_stay_worlds j replicas es).sent m)

-- ---- a message that is gone
get_below : {X : Type 0} (m : ℕ) (xs : List X) (k : ℕ) → k < m → slice_get (remove xs m) k ≡ slice_get xs k
get_below zero xs k lt = absurd (omega arith)
get_below (suc m) [] k lt = refl
get_below (suc m) (x ∷ xs) zero lt = refl
get_below (suc m) (x ∷ xs) (suc k) lt = get_below m xs k (omega arith)

get_above : {X : Type 0} (m : ℕ) (xs : List X) (k : ℕ) → m ≤ k → slice_get (remove xs m) k ≡ slice_get xs (suc k)
get_above zero [] k le = refl
get_above zero (x ∷ xs) k le = refl
get_above (suc m) [] k le = refl
get_above (suc m) (x ∷ xs) zero le = absurd (omega arith)
get_above (suc m) (x ∷ xs) (suc k) le = get_above m xs k (omega arith)

-- another message is found by its new number
get_other : {X : Type 0} (m other : ℕ) (xs : List X) → other ≢ m → slice_get (remove xs m) (if nat_lt m other then other - 1 else other) ≡ slice_get xs other
get_other m other xs ne = elim (cases_lt m other) [
  | inl lt ↦ let next : other ≡ suc (other - 1) = omega (arith, lt) in rw (lt-ltb m other lt) (get_above m xs (other - 1) (omega (arith, lt)) ∙ ap (slice_get xs) (sym next))
  | inr le ↦ rw (le-ltb m other le) (get_below m xs other (omega (arith, le, ne)))
]

-- what an event at a node makes of the world without the message is that of the world, without it
gone_at : (j : Job) (w : World) (m : ℕ) (n : Node) (e : Event) → m < length w.sent → SparesMessage m e →
    world_in (without_message m w) (outcome_at j (without_message m w) n (event_without m e)) ≡ without_message m (world_in w (outcome_at j w n e))
gone_at j w m n (event.Send at q) lt spares = sent (nat_lt q j.plan.parts && not (q == n.content.partition)) refl
  where
    sent : (b : Bool) → (nat_lt q j.plan.parts && not (q == n.content.partition)) ≡ b →
        world_in (without_message m w) (outcome_at j (without_message m w) n (event.Send at q)) ≡ without_message m (world_in w (outcome_at j w n (event.Send at q)))
    sent false is = rw is refl
    sent true is = rw is (ap (λ (l : List BatchName). record w { sent = l }) (sym (remove-append_left w.sent (name_to n q ∷ []) m lt)))
gone_at j w m n (event.Deliver other at) lt spares = rw (get_other m other w.sent spares) (taken (slice_get w.sent other))
  where
    taken : (o : Option BatchName) → world_in (without_message m w) (deliver_at j (without_message m w) at n o) ≡ without_message m (world_in w (deliver_at j w at n o))
    taken None = refl
    taken (Some name) = refl
gone_at j w m n (event.Close at) lt spares = refl
gone_at j w m n (event.Keep at) lt spares = refl
gone_at j w m n (event.Restart at) lt spares = refl
gone_at j w m n (event.Copy at) lt spares = refl
gone_at j w m n (event.Recover at c) lt spares = found (slice_get w.copies c)
  where
    joined : (h : Holding) (r : Result (Unit {0}) MergeError) → world_in (without_message m w) (recover_when (without_message m w) at n h r) ≡ without_message m (world_in w (recover_when w at n h r))
    joined h (Ok u) = refl
    joined h (Err e) = refl

    found : (o : Option Holding) → world_in (without_message m w) (recover_at (without_message m w) at n o) ≡ without_message m (world_in w (recover_at w at n o))
    found None = refl
    found (Some h) = joined h (merge_of n.content.plan n.content.partition h.plan h.partition)
gone_at j w m n (event.Show at) lt spares = refl

node_without : (m : ℕ) (e : Event) → node_of (event_without m e) ≡ node_of e
node_without m (event.Send at q) = refl
node_without m (event.Deliver other at) = refl
node_without m (event.Close at) = refl
node_without m (event.Keep at) = refl
node_without m (event.Restart at) = refl
node_without m (event.Copy at) = refl
node_without m (event.Recover at c) = refl
node_without m (event.Show at) = refl

nodes_without : (m : ℕ) (w : World) (id : NodeId) → node_at (without_message m w) id ≡ node_at w id
unfolding node_at
nodes_without m w id = refl

gone_after : (j : Job) (w : World) (m : ℕ) (e : Event) → m < length w.sent → SparesMessage m e →
    after_event j (without_message m w) (event_without m e) ≡ without_message m (after_event j w e)
gone_after j w m e lt spares = rw (node_without m e, nodes_without m w (node_of e)) (there (node_at w (node_of e)))
  where
    there : (o : Option Node) → world_in (without_message m w) (outcome_unless j (without_message m w) (event_without m e) o) ≡ without_message m (world_in w (outcome_unless j w e o))
    there None = refl
    there (Some n) = gone_at j w m n e lt spares

-- no message goes away
sent_at : (j : Job) (w : World) (n : Node) (e : Event) → length w.sent ≤ length (world_in w (outcome_at j w n e)).sent
sent_at j w n (event.Send at q) = more (nat_lt q j.plan.parts && not (q == n.content.partition)) refl
  where
    more : (b : Bool) → (nat_lt q j.plan.parts && not (q == n.content.partition)) ≡ b → length w.sent ≤ length (world_in w (outcome_at j w n (event.Send at q))).sent
    more false is = rw is (omega arith)
    more true is = rw is (omega (arith, length-append w.sent (name_to n q ∷ [])))
sent_at j w n (event.Deliver other at) = taken (slice_get w.sent other)
  where
    taken : (o : Option BatchName) → length w.sent ≤ length (world_in w (deliver_at j w at n o)).sent
    taken None = omega arith
    taken (Some name) = omega arith
sent_at j w n (event.Close at) = omega arith
sent_at j w n (event.Keep at) = omega arith
sent_at j w n (event.Restart at) = omega arith
sent_at j w n (event.Copy at) = omega arith
sent_at j w n (event.Recover at c) = found (slice_get w.copies c)
  where
    joined : (h : Holding) (r : Result (Unit {0}) MergeError) → length w.sent ≤ length (world_in w (recover_when w at n h r)).sent
    joined h (Ok u) = omega arith
    joined h (Err e) = omega arith

    found : (o : Option Holding) → length w.sent ≤ length (world_in w (recover_at w at n o)).sent
    found None = omega arith
    found (Some h) = joined h (merge_of n.content.plan n.content.partition h.plan h.partition)
sent_at j w n (event.Show at) = omega arith

sent_after : (j : Job) (w : World) (e : Event) → length w.sent ≤ length (after_event j w e).sent
sent_after j w e = there (node_at w (node_of e))
  where
    there : (o : Option Node) → length w.sent ≤ length (world_in w (outcome_unless j w e o)).sent
    there None = omega arith
    there (Some n) = sent_at j w n e

pub loss_leaves_contents : LossLeavesContents
unfolding run_of
loss_leaves_contents j w m [] lt spares = refl
loss_leaves_contents j w m (e ∷ es) lt spares =
    ap (λ (v : World). run_of j v (map (event_without m) es)) (gone_after j w m e lt spares.0)
    ∙ loss_leaves_contents j (after_event j w e) m es (let grows = sent_after j w e in omega (arith, lt, grows)) spares.1

-- ---- one event
-- it changes at most its own node
others_at : (j : Job) (w : World) (id : NodeId) (n : Node) (e : Event) → node_of e ≢ id → node_at (world_in w (outcome_at j w n e)) id ≡ node_at w id
unfolding node_at
others_at j w id n (event.Send at q) ne = others_sent (nat_lt q j.plan.parts && not (q == n.content.partition)) refl
  where
    others_sent : (b : Bool) → (nat_lt q j.plan.parts && not (q == n.content.partition)) ≡ b → node_at (world_in w (outcome_at j w n (event.Send at q))) id ≡ node_at w id
    others_sent false e = rw e refl
    others_sent true e = rw e refl
others_at j w id n (event.Deliver m at) ne = others_taken (slice_get w.sent m)
  where
    others_taken : (o : Option BatchName) → node_at (world_in w (deliver_at j w at n o)) id ≡ node_at w id
    others_taken None = refl
    others_taken (Some name) = node_other w at id (record n { content = held_after j n.content (Take name) }) (λ e. ne (sym e))
others_at j w id n (event.Close at) ne = node_other w at id (record n { content = held_after j n.content Close }) (λ e. ne (sym e))
others_at j w id n (event.Keep at) ne = node_other w at id (record n { kept = Some n.content }) (λ e. ne (sym e))
others_at j w id n (event.Restart at) ne = node_other w at id (record n { content = unwrap_or n.kept (start_holding j.plan n.content.partition) }) (λ e. ne (sym e))
others_at j w id n (event.Copy at) ne = refl
others_at j w id n (event.Recover at c) ne = others_merged (slice_get w.copies c)
  where
    others_when : (d : Holding) (r : Result (Unit {0}) MergeError) → node_at (world_in w (recover_when w at n d r)) id ≡ node_at w id
    others_when d (Err e) = refl
    others_when d (Ok u) = node_other w at id (record n { content = join_of n.content d }) (λ e. ne (sym e))

    others_merged : (o : Option Holding) → node_at (world_in w (recover_at w at n o)) id ≡ node_at w id
    others_merged None = refl
    others_merged (Some d) = others_when d (merge_of n.content.plan n.content.partition d.plan d.partition)
others_at j w id n (event.Show at) ne = refl

others_unless : (j : Job) (w : World) (id : NodeId) (e : Event) (o : Option Node) → node_of e ≢ id → node_at (world_in w (outcome_unless j w e o)) id ≡ node_at w id
others_unless j w id e None ne = refl
others_unless j w id e (Some n) ne = others_at j w id n e ne

pub others_stay : OthersStay
others_stay j w id e ne = others_unless j w id e (node_at w (node_of e)) ne

-- an event at a node that is there
found_event : (j : Job) (w : World) (n : Node) (e : Event) → node_at w (node_of e) ≡ Some n → after_event j w e ≡ world_in w (outcome_at j w n e)
found_event j w n e at = ap (λ o. world_in w (outcome_unless j w e o)) at

found_answer : (j : Job) (w : World) (n : Node) (e : Event) → node_at w (node_of e) ≡ Some n → answer_of j w e ≡ answer_in (outcome_at j w n e)
found_answer j w n e at = ap (λ o. answer_in (outcome_unless j w e o)) at

-- ---- a message that comes again
abbrev ok_answer : Answer → Result Answer WorldError
ok_answer a = Ok a

abbrev no_answer : WorldError → Result Answer WorldError
no_answer e = Err e

took_in : Result Taken TakeError → Result Answer WorldError → Result Taken TakeError
took_in r (Ok (answer.Took x)) = Ok x
took_in r other = r

took_back : (r : Result Taken TakeError) (t : Taken) → ok_answer (taken_answer r) ≡ ok_answer (answer.Took t) → r ≡ Ok t
unfolding took_in
took_back (Ok s) t e = ap (took_in (Ok s)) e
took_back (Err x) t e = ap (took_in (Err x)) e

-- ---- recovering twice
twice_idle : (j : Job) (w : World) (e : Event) → after_event j w e ≡ w → after_event j (after_event j w e) e ≡ after_event j w e
twice_idle j w e same = ap (λ (v : World). after_event j v e) same

joined_twice : (j : Job) (p : ℕ) (h c : Holding) → IsHeldBy j p h → IsHeldBy j p c → join_of (join_of h c) c ≡ join_of h c
joined_twice j p h c hb cb =
    let a = held_alike j p h c hb cb in
    let b = held_alike j p c c cb cb in
    join_associates h c c a b ∙ ap (join_of h) (join_repeats c b)

recover_when_twice : (j : Job) (w : World) (id : NodeId) (c : ℕ) (n : Node) (d : Holding) (r : Result (Unit {0}) MergeError) → node_at w id ≡ Some n → slice_get w.copies c ≡ Some d → merge_of n.content.plan n.content.partition d.plan d.partition ≡ r → IsWorld j w →
    after_event j (after_event j w (event.Recover id c)) (event.Recover id c) ≡ after_event j w (event.Recover id c)
recover_when_twice j w id c n d (Err e) at copy is ok =
    twice_idle j w (event.Recover id c)
    (found_event j w n (event.Recover id c) at ∙ ap (λ o. world_in w (recover_at w id n o)) copy ∙ ap (λ r. world_in w (recover_when w id n d r)) is)
recover_when_twice j w id c n d (Ok u) at copy is ok =
    let held = (node_is_one j w id n ok at).content in
    let made : IsHeldBy j d.partition d = subst (λ (o : Option Holding). IfSome o (λ h. IsHeldBy j h.partition h)) copy (ok.copies c) in
    let mine : IsHeldBy j id.part d = copy_held j id.part n d u is made held in
    let next : Node = record n { content = join_of n.content d } in
    let v : World = with_node w id next in
    let after : after_event j w (event.Recover id c) ≡ v = found_event j w n (event.Recover id c) at ∙ ap (λ o. world_in w (recover_at w id n o)) copy ∙ ap (λ r. world_in w (recover_when w id n d r)) is in
    let here : node_at v id ≡ Some next = node_same w id n next at in
    let again : after_event j v (event.Recover id c) ≡ with_node v id (record next { content = join_of (join_of n.content d) d }) = found_event j v next (event.Recover id c) here ∙ ap (λ o. world_in v (recover_at v id next o)) copy ∙ ap (λ r. world_in v (recover_when v id next d r)) is in
    ap (λ (x : World). after_event j x (event.Recover id c)) after
    ∙ again
    ∙ ap (λ (h : Holding). with_node v id (record next { content = h })) (joined_twice j id.part n.content d held mine)
    ∙ node_back v id next here
    ∙ sym after

recover_copy_twice : (j : Job) (w : World) (id : NodeId) (c : ℕ) (n : Node) (o : Option Holding) → node_at w id ≡ Some n → slice_get w.copies c ≡ o → IsWorld j w →
    after_event j (after_event j w (event.Recover id c)) (event.Recover id c) ≡ after_event j w (event.Recover id c)
recover_copy_twice j w id c n None at copy ok =
    twice_idle j w (event.Recover id c) (found_event j w n (event.Recover id c) at ∙ ap (λ o. world_in w (recover_at w id n o)) copy)
recover_copy_twice j w id c n (Some d) at copy ok = recover_when_twice j w id c n d (merge_of n.content.plan n.content.partition d.plan d.partition) at copy refl ok

pub recover_twice_is_once : RecoverTwiceIsOnce
recover_twice_is_once j w id c ok = by (node_at w id) refl
  where
    by : (o : Option Node) → node_at w id ≡ o → after_event j (after_event j w (event.Recover id c)) (event.Recover id c) ≡ after_event j w (event.Recover id c)
    by None at = twice_idle j w (event.Recover id c) (ap (λ o. world_in w (outcome_unless j w (event.Recover id c) o)) at)
    by (Some n) at = recover_copy_twice j w id c n (slice_get w.copies c) at refl ok

-- ---- what a node had, it has until it restarts
-- the node has nothing less than that content: joining it changes nothing
record HasAll (w : World) (id : NodeId) (h : Holding) : Type 0 where
  node : Node
  at : node_at w id ≡ Some node
  all : join_of node.content h ≡ node.content

all_with : (w : World) (id : NodeId) (n : Node) (h d : Holding) → node_at w id ≡ Some n → join_of d h ≡ d → HasAll (with_content w id n d) id h
all_with w id n h d at all = record { node = record n { content = d }; at = node_same w id n (record n { content = d }) at; all = all }

all_still : (w : World) (id : NodeId) (n : Node) (h : Holding) → node_at w id ≡ Some n → join_of n.content h ≡ n.content → HasAll w id h
all_still w id n h at all = record { node = n; at = at; all = all }

all_taken : (j : Job) (w : World) (id : NodeId) (n : Node) (h : Holding) (m : ℕ) (o : Option BatchName) → IfSome o (IsName j.plan) → IsHeldBy j id.part n.content → IsHeldBy j id.part h → node_at w id ≡ Some n → join_of n.content h ≡ n.content →
    HasAll (world_in w (deliver_at j w id n o)) id h
all_taken j w id n h m None named held mine at all = all_still w id n h at all
all_taken j w id n h m (Some name) named held mine at all =
    let d = held_after j n.content (Take name) in
    all_with w id n h d at
    (grows_through j id.part h n.content d mine held (taken_held j id.part n.content name held named) all (taken_grows j id.part n.content name held named))

all_merged_when : (j : Job) (w : World) (id : NodeId) (n : Node) (h d : Holding) (r : Result (Unit {0}) MergeError) → merge_of n.content.plan n.content.partition d.plan d.partition ≡ r → IsHeldBy j d.partition d → IsHeldBy j id.part n.content → IsHeldBy j id.part h → node_at w id ≡ Some n → join_of n.content h ≡ n.content →
    HasAll (world_in w (recover_when w id n d r)) id h
all_merged_when j w id n h d (Err e) is copy held mine at all = all_still w id n h at all
all_merged_when j w id n h d (Ok u) is copy held mine at all =
    let own : IsHeldBy j id.part d = copy_held j id.part n d u is copy held in
    let g = join_of n.content d in
    all_with w id n h g at
    (grows_through j id.part h n.content g mine held (joined_held j id.part n.content d held own) all (joined_grows j id.part n.content d held own))

all_merged : (j : Job) (w : World) (id : NodeId) (n : Node) (h : Holding) (o : Option Holding) → IfSome o (λ d. IsHeldBy j d.partition d) → IsHeldBy j id.part n.content → IsHeldBy j id.part h → node_at w id ≡ Some n → join_of n.content h ≡ n.content →
    HasAll (world_in w (recover_at w id n o)) id h
all_merged j w id n h None copy held mine at all = all_still w id n h at all
all_merged j w id n h (Some d) copy held mine at all = all_merged_when j w id n h d (merge_of n.content.plan n.content.partition d.plan d.partition) refl copy held mine at all

all_at : (j : Job) (w : World) (n : Node) (h : Holding) (e : Event) → SparesNode (node_of e) e → IsWorld j w → IsHeldBy j (node_of e).part h → node_at w (node_of e) ≡ Some n → join_of n.content h ≡ n.content → HasAll (world_in w (outcome_at j w n e)) (node_of e) h
unfolding node_at
all_at j w n h (event.Send id q) spares ok mine at all = by (nat_lt q j.plan.parts && not (q == n.content.partition)) refl
  where
    by : (b : Bool) → (nat_lt q j.plan.parts && not (q == n.content.partition)) ≡ b → HasAll (world_in w (outcome_at j w n (event.Send id q))) id h
    by false e = rw e (all_still w id n h at all)
    by true e = rw e (record { node = n; at = at; all = all })
all_at j w n h (event.Deliver m id) spares ok mine at all = all_taken j w id n h m (slice_get w.sent m) (ok.sent m) (node_is_one j w id n ok at).content mine at all
all_at j w n h (event.Close id) spares ok mine at all =
    let held = (node_is_one j w id n ok at).content in
    let d = held_after j n.content Close in
    all_with w id n h d at (grows_through j id.part h n.content d mine held (closed_held j id.part n.content held) all (closed_grows j id.part n.content held))
all_at j w n h (event.Keep id) spares ok mine at all = record { node = record n { kept = Some n.content }; at = node_same w id n (record n { kept = Some n.content }) at; all = all }
all_at j w n h (event.Restart id) spares ok mine at all = absurd (spares refl)
all_at j w n h (event.Copy id) spares ok mine at all = record { node = n; at = at; all = all }
all_at j w n h (event.Recover id c) spares ok mine at all = all_merged j w id n h (slice_get w.copies c) (ok.copies c) (node_is_one j w id n ok at).content mine at all
all_at j w n h (event.Show id) spares ok mine at all = all_still w id n h at all

all_step : (j : Job) (w : World) (id : NodeId) (h : Holding) (e : Event) → SparesNode id e → IsWorld j w → IsHeldBy j id.part h → HasAll w id h → HasAll (after_event j w e) id h
all_step j w id h e spares ok mine k = elim (same_or_other (node_of e) id) [
  | inl same ↦
      let spared : SparesNode (node_of e) e = subst (λ (x : NodeId). SparesNode x e) (sym same) spares in
      let held : IsHeldBy j (node_of e).part h = subst (λ (x : NodeId). IsHeldBy j x.part h) (sym same) mine in
      let at : node_at w (node_of e) ≡ Some k.node = subst (λ (x : NodeId). node_at w x ≡ Some k.node) (sym same) k.at in
      subst (λ (x : NodeId). HasAll (after_event j w e) x h) same
      (subst (λ (v : World). HasAll v (node_of e) h) (sym (found_event j w k.node e at)) (all_at j w k.node h e spared ok held at k.all))
  | inr ne ↦ record { node = k.node; at = others_stay j w id e ne ∙ k.at; all = k.all }
]

all_run : (j : Job) (w : World) (id : NodeId) (h : Holding) (es : List Event) → AllByRecursion (SparesNode id) es → IsWorld j w → IsHeldBy j id.part h → HasAll w id h → HasAll (run_of j w es) id h
unfolding run_of
all_run j w id h [] spares ok mine k = k
all_run j w id h (e ∷ es) spares ok mine k = all_run j (after_event j w e) id h es spares.1 (stays_world j w e ok) mine (all_step j w id h e spares.0 ok mine k)

-- ---- messages and copies never go away
still_there : {X : Type 0} (xs : List X) (y x : X) (m : ℕ) → slice_get xs m ≡ Some x → slice_get (xs ++ y ∷ []) m ≡ Some x
still_there [] y x m e = absurd (cc)
still_there (z ∷ xs) y x zero e = e
still_there (z ∷ xs) y x (suc m) e = still_there xs y x m e

-- a message and a copy that are there
record AreThere (w : World) (m : ℕ) (name : Option BatchName) (c : ℕ) (copy : Option Holding) : Type 0 where
  sent : IfSome name (λ x. slice_get w.sent m ≡ Some x)
  copied : IfSome copy (λ x. slice_get w.copies c ≡ Some x)

more_sent : (xs : List BatchName) (y : BatchName) (m : ℕ) (o : Option BatchName) → IfSome o (λ x. slice_get xs m ≡ Some x) → IfSome o (λ x. slice_get (xs ++ y ∷ []) m ≡ Some x)
more_sent xs y m None h = tt
more_sent xs y m (Some x) h = still_there xs y x m h

more_copied : (xs : List Holding) (y : Holding) (m : ℕ) (o : Option Holding) → IfSome o (λ x. slice_get xs m ≡ Some x) → IfSome o (λ x. slice_get (xs ++ y ∷ []) m ≡ Some x)
more_copied xs y m None h = tt
more_copied xs y m (Some x) h = still_there xs y x m h

there_at : (j : Job) (w : World) (n : Node) (e : Event) (m c : ℕ) (name : Option BatchName) (copy : Option Holding) → AreThere w m name c copy → AreThere (world_in w (outcome_at j w n e)) m name c copy
there_at j w n (event.Send id q) m c name copy k = by (nat_lt q j.plan.parts && not (q == n.content.partition)) refl
  where
    by : (b : Bool) → (nat_lt q j.plan.parts && not (q == n.content.partition)) ≡ b → AreThere (world_in w (outcome_at j w n (event.Send id q))) m name c copy
    by false e = rw e k
    by true e = rw e (record { sent = more_sent w.sent (name_to n q) m name k.sent; copied = k.copied })
there_at j w n (event.Deliver r id) m c name copy k = by (slice_get w.sent r)
  where
    by : (o : Option BatchName) → AreThere (world_in w (deliver_at j w id n o)) m name c copy
    by None = k
    by (Some x) = record { sent = k.sent; copied = k.copied }
there_at j w n (event.Close id) m c name copy k = record { sent = k.sent; copied = k.copied }
there_at j w n (event.Keep id) m c name copy k = record { sent = k.sent; copied = k.copied }
there_at j w n (event.Restart id) m c name copy k = record { sent = k.sent; copied = k.copied }
there_at j w n (event.Copy id) m c name copy k = record { sent = k.sent; copied = more_copied w.copies n.content c copy k.copied }
there_at j w n (event.Recover id r) m c name copy k = by (slice_get w.copies r)
  where
    when : (d : Holding) (r : Result (Unit {0}) MergeError) → AreThere (world_in w (recover_when w id n d r)) m name c copy
    when d (Err e) = k
    when d (Ok u) = record { sent = k.sent; copied = k.copied }

    by : (o : Option Holding) → AreThere (world_in w (recover_at w id n o)) m name c copy
    by None = k
    by (Some d) = when d (merge_of n.content.plan n.content.partition d.plan d.partition)
there_at j w n (event.Show id) m c name copy k = k

there_unless : (j : Job) (w : World) (e : Event) (o : Option Node) (m c : ℕ) (name : Option BatchName) (copy : Option Holding) → AreThere w m name c copy → AreThere (world_in w (outcome_unless j w e o)) m name c copy
there_unless j w e None m c name copy k = k
there_unless j w e (Some n) m c name copy k = there_at j w n e m c name copy k

there_run : (j : Job) (w : World) (es : List Event) (m c : ℕ) (name : Option BatchName) (copy : Option Holding) → AreThere w m name c copy → AreThere (run_of j w es) m name c copy
unfolding run_of
there_run j w [] m c name copy k = k
there_run j w (e ∷ es) m c name copy k = there_run j (after_event j w e) es m c name copy (there_unless j w e (node_at w (node_of e)) m c name copy k)

-- ---- a message that comes again
repeat_in : (j : Job) (w : World) (id : NodeId) (m : ℕ) (g : Holding) (name : BatchName) → IsWorld j w → IsHeldBy j id.part g → IsHeard j name g → HasAll w id g → slice_get w.sent m ≡ Some name →
    (second : Taken) × (answer_of j w (event.Deliver m id) ≡ Ok (answer.Took second)) × (second ≢ taken.New)
repeat_in j w id m g name ok mine heard k sent =
    let n = k.node in
    let held = (node_is_one j w id n ok k.at).content in
    let again = heard_again j n.content name (heard_grows j id.part g n.content name mine held k.all heard) in (
      again.0,
      found_answer j w n (event.Deliver m id) k.at
          ∙ ap (λ o. answer_in (deliver_at j w id n o)) sent
          ∙ ap (λ r. Ok (taken_answer r)) again.1,
      again.2,
    )

repeat_at : (j : Job) (w : World) (id : NodeId) (m : ℕ) (first : Taken) (es : List Event) (n : Node) (o : Option BatchName) → node_at w id ≡ Some n → slice_get w.sent m ≡ o → IsWorld j w →
    answer_of j w (event.Deliver m id) ≡ Ok (answer.Took first) → AllByRecursion (SparesNode id) es →
    (second : Taken) × (answer_of j (run_of j (after_event j w (event.Deliver m id)) es) (event.Deliver m id) ≡ Ok (answer.Took second)) × (second ≢ taken.New)
repeat_at j w id m first es n None at sent ok is spares =
    absurd (let e : no_answer refused.NoMessage ≡ ok_answer (answer.Took first) = sym (found_answer j w n (event.Deliver m id) at ∙ ap (λ o. answer_in (deliver_at j w id n o)) sent) ∙ is in cc)
repeat_at j w id m first es n (Some name) at sent ok is spares =
    let named : IsName j.plan name = subst (λ (o : Option BatchName). IfSome o (IsName j.plan)) sent (ok.sent m) in
    let held = (node_is_one j w id n ok at).content in
    let answered : held_take_answer j n.content name ≡ Ok first = took_back (held_take_answer j n.content name) first (sym (found_answer j w n (event.Deliver m id) at ∙ ap (λ o. answer_in (deliver_at j w id n o)) sent) ∙ is) in
    let g = held_after j n.content (Take name) in
    let mine : IsHeldBy j id.part g = taken_held j id.part n.content name held named in
    let v : World = with_content w id n g in
    let after : after_event j w (event.Deliver m id) ≡ v = found_event j w n (event.Deliver m id) at ∙ ap (λ o. world_in w (deliver_at j w id n o)) sent in
    let here : HasAll v id g = all_with w id n g g at (held_repeats j id.part g mine) in
    let is_one : IsWorld j v = subst (IsWorld j) after (stays_world j w (event.Deliver m id) ok) in
    let there : AreThere v m (Some name) 0 None = record { sent = sent; copied = tt } in
    subst (λ (x : World). (second : Taken) × (answer_of j (run_of j x es) (event.Deliver m id) ≡ Ok (answer.Took second)) × (second ≢ taken.New)) (sym after)
    (repeat_in j (run_of j v es) id m g name (run_stays j v es is_one) mine (taken_is_heard j id.part n.content name first held named answered)
    (all_run j v id g es spares is_one mine here) (there_run j v es m 0 (Some name) None there).sent)

pub repeat_is_not_new : RepeatIsNotNew
repeat_is_not_new j w id m first es ok is spares = by (node_at w id) refl
  where
    by : (o : Option Node) → node_at w id ≡ o → (second : Taken) × (answer_of j (run_of j (after_event j w (event.Deliver m id)) es) (event.Deliver m id) ≡ Ok (answer.Took second)) × (second ≢ taken.New)
    by None at = absurd (let e : no_answer refused.NoNode ≡ ok_answer (answer.Took first) = sym (ap (λ o. answer_in (outcome_unless j w (event.Deliver m id) o)) at) ∙ is in cc)
    by (Some n) at = repeat_at j w id m first es n (slice_get w.sent m) at refl ok is spares

-- ---- a copy that comes again
-- nothing comes of a copy of which the node has all, or which it refuses
had_when : (j : Job) (w : World) (id : NodeId) (n : Node) (d : Holding) (r : Result (Unit {0}) MergeError) → node_at w id ≡ Some n → join_of n.content d ≡ n.content → world_in w (recover_when w id n d r) ≡ w
had_when j w id n d (Err e) at all = refl
had_when j w id n d (Ok u) at all = ap (λ (h : Holding). with_node w id (record n { content = h })) all ∙ node_back w id n at

-- the answer to a copy is the same at all times
same_merge : (j : Job) (p : ℕ) (n m d : Holding) → IsHeldBy j p n → IsHeldBy j p m → merge_of n.plan n.partition d.plan d.partition ≡ merge_of m.plan m.partition d.plan d.partition
same_merge j p n m d nb mb =
    ap (λ (plan : PlanValue). merge_of plan n.partition d.plan d.partition) (nb.plan ∙ sym mb.plan)
    ∙ ap (λ (q : ℕ). merge_of m.plan q d.plan d.partition) (nb.partition ∙ sym mb.partition)

had_again : (j : Job) (w : World) (id : NodeId) (c : ℕ) (h d : Holding) (r : Result (Unit {0}) MergeError) → IsWorld j w → HasAll w id h → slice_get w.copies c ≡ Some d → IsHeldBy j id.part h → merge_of h.plan h.partition d.plan d.partition ≡ r → ((u : Unit {0}) → r ≡ Ok u → h ≡ d) → after_event j w (event.Recover id c) ≡ w
had_again j w id c h d r ok k copy mine is same =
    let n = k.node in
    let held = (node_is_one j w id n ok k.at).content in
    let told : merge_of n.content.plan n.content.partition d.plan d.partition ≡ r = same_merge j id.part n.content h d held mine ∙ is in
    found_event j w n (event.Recover id c) k.at
    ∙ ap (λ o. world_in w (recover_at w id n o)) copy
    ∙ ap (λ r. world_in w (recover_when w id n d r)) told
    ∙ by r same
  where
    by : (r : Result (Unit {0}) MergeError) → ((u : Unit {0}) → r ≡ Ok u → h ≡ d) → world_in w (recover_when w id k.node d r) ≡ w
    by (Err e) same = refl
    by (Ok u) same = had_when j w id k.node d (Ok u) k.at (subst (λ (x : Holding). join_of k.node.content x ≡ k.node.content) (same u refl) k.all)

had_when_ok : (j : Job) (w : World) (id : NodeId) (c : ℕ) (es : List Event) (n : Node) (d : Holding) (r : Result (Unit {0}) MergeError) → node_at w id ≡ Some n → slice_get w.copies c ≡ Some d → merge_of n.content.plan n.content.partition d.plan d.partition ≡ r → IsWorld j w → AllByRecursion (SparesNode id) es →
    after_event j (run_of j (after_event j w (event.Recover id c)) es) (event.Recover id c) ≡ run_of j (after_event j w (event.Recover id c)) es
had_when_ok j w id c es n d (Err e) at copy is ok spares =
    let held = (node_is_one j w id n ok at).content in
    let after : after_event j w (event.Recover id c) ≡ w = found_event j w n (event.Recover id c) at ∙ ap (λ o. world_in w (recover_at w id n o)) copy ∙ ap (λ r. world_in w (recover_when w id n d r)) is in
    let here : HasAll w id n.content = all_still w id n n.content at (held_repeats j id.part n.content held) in
    let there : AreThere w 0 None c (Some d) = record { sent = tt; copied = copy } in
    subst (λ (x : World). after_event j (run_of j x es) (event.Recover id c) ≡ run_of j x es) (sym after)
    (had_again j (run_of j w es) id c n.content d (Err e) (run_stays j w es ok) (all_run j w id n.content es spares ok held here)
    (there_run j w es 0 c None (Some d) there).copied held is (λ u bad. absurd (cc)))
had_when_ok j w id c es n d (Ok u) at copy is ok spares =
    let held = (node_is_one j w id n ok at).content in
    let made : IsHeldBy j d.partition d = subst (λ (o : Option Holding). IfSome o (λ h. IsHeldBy j h.partition h)) copy (ok.copies c) in
    let own : IsHeldBy j id.part d = copy_held j id.part n d u is made held in
    let g = join_of n.content d in
    let v : World = with_content w id n g in
    let after : after_event j w (event.Recover id c) ≡ v = found_event j w n (event.Recover id c) at ∙ ap (λ o. world_in w (recover_at w id n o)) copy ∙ ap (λ r. world_in w (recover_when w id n d r)) is in
    let here : HasAll v id d = all_with w id n d g at (joined_twice j id.part n.content d held own) in
    let is_one : IsWorld j v = subst (IsWorld j) after (stays_world j w (event.Recover id c) ok) in
    let there : AreThere v 0 None c (Some d) = record { sent = tt; copied = copy } in
    subst (λ (x : World). after_event j (run_of j x es) (event.Recover id c) ≡ run_of j x es) (sym after)
    (had_again j (run_of j v es) id c d d (merge_of d.plan d.partition d.plan d.partition) (run_stays j v es is_one) (all_run j v id d es spares is_one own here)
    (there_run j v es 0 c None (Some d) there).copied own refl (λ u is. refl))

had_copy : (j : Job) (w : World) (id : NodeId) (c : ℕ) (es : List Event) (n : Node) (o : Option Holding) → node_at w id ≡ Some n → slice_get w.copies c ≡ o → IsWorld j w → IsOk (answer_in (recover_at w id n o)) → AllByRecursion (SparesNode id) es →
    after_event j (run_of j (after_event j w (event.Recover id c)) es) (event.Recover id c) ≡ run_of j (after_event j w (event.Recover id c)) es
had_copy j w id c es n None at copy ok answered spares = absurd (cc)
had_copy j w id c es n (Some d) at copy ok answered spares = had_when_ok j w id c es n d (merge_of n.content.plan n.content.partition d.plan d.partition) at copy refl ok spares

pub recovered_is_had : RecoveredIsHad
recovered_is_had j w id c es ok answered spares = by (node_at w id) refl answered
  where
    by : (o : Option Node) → node_at w id ≡ o → IsOk (answer_in (outcome_unless j w (event.Recover id c) o)) → after_event j (run_of j (after_event j w (event.Recover id c)) es) (event.Recover id c) ≡ run_of j (after_event j w (event.Recover id c)) es
    by None at is = absurd (cc)
    by (Some n) at is = had_copy j w id c es n (slice_get w.copies c) at refl ok is spares

-- ---- what is kept
-- the node keeps that content
record HasKept (w : World) (id : NodeId) (h : Holding) : Type 0 where
  node : Node
  at : node_at w id ≡ Some node
  kept : node.kept ≡ Some h

kept_with : (w : World) (id : NodeId) (n : Node) (h d : Holding) → node_at w id ≡ Some n → n.kept ≡ Some h → HasKept (with_content w id n d) id h
kept_with w id n h d at kept = record { node = record n { content = d }; at = node_same w id n (record n { content = d }) at; kept = kept }

kept_still : (w : World) (id : NodeId) (n : Node) (h : Holding) → node_at w id ≡ Some n → n.kept ≡ Some h → HasKept w id h
kept_still w id n h at kept = record { node = n; at = at; kept = kept }

kept_at : (j : Job) (w : World) (n : Node) (h : Holding) (e : Event) → SparesKept (node_of e) e → node_at w (node_of e) ≡ Some n → n.kept ≡ Some h → HasKept (world_in w (outcome_at j w n e)) (node_of e) h
unfolding node_at
kept_at j w n h (event.Send id q) spares at kept = by (nat_lt q j.plan.parts && not (q == n.content.partition)) refl
  where
    by : (b : Bool) → (nat_lt q j.plan.parts && not (q == n.content.partition)) ≡ b → HasKept (world_in w (outcome_at j w n (event.Send id q))) id h
    by false e = rw e (kept_still w id n h at kept)
    by true e = rw e (record { node = n; at = at; kept = kept })
kept_at j w n h (event.Deliver m id) spares at kept = by (slice_get w.sent m)
  where
    by : (o : Option BatchName) → HasKept (world_in w (deliver_at j w id n o)) id h
    by None = kept_still w id n h at kept
    by (Some name) = kept_with w id n h (held_after j n.content (Take name)) at kept
kept_at j w n h (event.Close id) spares at kept = kept_with w id n h (held_after j n.content Close) at kept
kept_at j w n h (event.Keep id) spares at kept = absurd (spares refl)
kept_at j w n h (event.Restart id) spares at kept = kept_with w id n h (unwrap_or n.kept (start_holding j.plan n.content.partition)) at kept
kept_at j w n h (event.Copy id) spares at kept = record { node = n; at = at; kept = kept }
kept_at j w n h (event.Recover id c) spares at kept = by (slice_get w.copies c)
  where
    when : (d : Holding) (r : Result (Unit {0}) MergeError) → HasKept (world_in w (recover_when w id n d r)) id h
    when d (Err e) = kept_still w id n h at kept
    when d (Ok u) = kept_with w id n h (join_of n.content d) at kept

    by : (o : Option Holding) → HasKept (world_in w (recover_at w id n o)) id h
    by None = kept_still w id n h at kept
    by (Some d) = when d (merge_of n.content.plan n.content.partition d.plan d.partition)
kept_at j w n h (event.Show id) spares at kept = kept_still w id n h at kept

kept_step : (j : Job) (w : World) (id : NodeId) (h : Holding) (e : Event) → SparesKept id e → HasKept w id h → HasKept (after_event j w e) id h
kept_step j w id h e spares k = elim (same_or_other (node_of e) id) [
  | inl same ↦
      let spared : SparesKept (node_of e) e = subst (λ (x : NodeId). SparesKept x e) (sym same) spares in
      let at : node_at w (node_of e) ≡ Some k.node = subst (λ (x : NodeId). node_at w x ≡ Some k.node) (sym same) k.at in
      subst (λ (x : NodeId). HasKept (after_event j w e) x h) same
      (subst (λ (v : World). HasKept v (node_of e) h) (sym (found_event j w k.node e at)) (kept_at j w k.node h e spared at k.kept))
  | inr ne ↦ record { node = k.node; at = others_stay j w id e ne ∙ k.at; kept = k.kept }
]

kept_all : (j : Job) (w : World) (id : NodeId) (h : Holding) (es : List Event) → AllByRecursion (SparesKept id) es → HasKept w id h → HasKept (run_of j w es) id h
unfolding run_of
kept_all j w id h [] spares k = k
kept_all j w id h (e ∷ es) spares k = kept_all j (after_event j w e) id h es spares.1 (kept_step j w id h e spares.0 k)

restarted : (j : Job) (w : World) (id : NodeId) (h : Holding) → HasKept w id h → option_map (λ (m : Node). m.content) (node_at (after_event j w (event.Restart id)) id) ≡ Some h
restarted j w id h k =
    let n = k.node in
    let d = unwrap_or n.kept (start_holding j.plan n.content.partition) in
    let given : d ≡ h = ap (λ o. unwrap_or o (start_holding j.plan n.content.partition)) k.kept in
    ap (λ (v : World). option_map (λ (m : Node). m.content) (node_at v id)) (found_event j w n (event.Restart id) k.at)
    ∙ ap (option_map (λ (m : Node). m.content)) (node_same w id n (record n { content = d }) k.at)
    ∙ ap Some given

pub restart_gives_kept : RestartGivesKept
restart_gives_kept j w id n es at spares =
    let v : World = with_node w id (record n { kept = Some n.content }) in
    let after : after_event j w (event.Keep id) ≡ v = found_event j w n (event.Keep id) at in
    let first : HasKept v id n.content = record { node = record n { kept = Some n.content }; at = node_same w id n (record n { kept = Some n.content }) at; kept = refl } in
    restarted j (run_of j (after_event j w (event.Keep id)) es) id n.content
    (kept_all j (after_event j w (event.Keep id)) id n.content es spares (subst (λ (x : World). HasKept x id n.content) (sym after) first))

-- ---- supersteps
abbrev Rises : ℕ → Option Node → Type 0
Rises t o = IfSome o (λ m. t ≤ m.content.superstep)

rise_with : (w : World) (id : NodeId) (n : Node) (d : Holding) → node_at w id ≡ Some n → n.content.superstep ≤ d.superstep → Rises n.content.superstep (node_at (with_content w id n d) id)
rise_with w id n d at le = subst (Rises n.content.superstep) (sym (node_same w id n (record n { content = d }) at)) le

rise_still : (w : World) (id : NodeId) (n : Node) → node_at w id ≡ Some n → Rises n.content.superstep (node_at w id)
rise_still w id n at = let le : n.content.superstep ≤ n.content.superstep = omega arith in subst (Rises n.content.superstep) (sym at) le

rise_close : (r : Result ℕ CloseError) (c : Content) → c.superstep ≤ (content_after_close r c).superstep
rise_close (Ok t) c = omega arith
rise_close (Err e) c = omega arith

rise_at : (j : Job) (w : World) (n : Node) (e : Event) → IsNoRestart e → node_at w (node_of e) ≡ Some n → Rises n.content.superstep (node_at (world_in w (outcome_at j w n e)) (node_of e))
unfolding node_at
rise_at j w n (event.Send id q) stays at = by (nat_lt q j.plan.parts && not (q == n.content.partition)) refl
  where
    by : (b : Bool) → (nat_lt q j.plan.parts && not (q == n.content.partition)) ≡ b → Rises n.content.superstep (node_at (world_in w (outcome_at j w n (event.Send id q))) id)
    by false e = rw e (rise_still w id n at)
    by true e = rw e (rise_still w id n at)
rise_at j w n (event.Deliver m id) stays at = by (slice_get w.sent m)
  where
    by : (o : Option BatchName) → Rises n.content.superstep (node_at (world_in w (deliver_at j w id n o)) id)
    by None = rise_still w id n at
    by (Some name) = let le : n.content.superstep ≤ n.content.superstep = omega arith in rise_with w id n (held_after j n.content (Take name)) at le
rise_at j w n (event.Close id) stays at = rise_with w id n (held_after j n.content Close) at (rise_close (close_of j n.content.partition (content_in n.content)) (content_in n.content))
rise_at j w n (event.Keep id) stays at = let le : n.content.superstep ≤ n.content.superstep = omega arith in subst (Rises n.content.superstep) (sym (node_same w id n (record n { kept = Some n.content }) at)) le
rise_at j w n (event.Restart id) stays at = absurd stays
rise_at j w n (event.Copy id) stays at = rise_still w id n at
rise_at j w n (event.Recover id c) stays at = by (slice_get w.copies c)
  where
    when : (d : Holding) (r : Result (Unit {0}) MergeError) → Rises n.content.superstep (node_at (world_in w (recover_when w id n d r)) id)
    when d (Err e) = rise_still w id n at
    when d (Ok u) = rise_with w id n (join_of n.content d) at (omega arith)

    by : (o : Option Holding) → Rises n.content.superstep (node_at (world_in w (recover_at w id n o)) id)
    by None = rise_still w id n at
    by (Some d) = when d (merge_of n.content.plan n.content.partition d.plan d.partition)
rise_at j w n (event.Show id) stays at = rise_still w id n at

pub only_restart_goes_back : OnlyRestartGoesBack
only_restart_goes_back j w id n e stays at = elim (same_or_other (node_of e) id) [
  | inl same ↦
      let here : node_at w (node_of e) ≡ Some n = subst (λ (x : NodeId). node_at w x ≡ Some n) (sym same) at in
      subst (λ (x : NodeId). Rises n.content.superstep (node_at (after_event j w e) x)) same
      (subst (λ (v : World). Rises n.content.superstep (node_at v (node_of e))) (sym (found_event j w n e here)) (rise_at j w n e stays here))
  | inr ne ↦ subst (Rises n.content.superstep) (sym (others_stay j w id e ne)) (rise_still w id n at)
]
