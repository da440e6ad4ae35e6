-- The start of a world.
use Rattle.std.proofs.Common.{◌≡◌, ℕ, zero, suc, ◌+◌, ◌<◌, ◌≤◌, List, [], ◌∷◌, ◌++◌, length, get_or, map, replicate, refl, ap, sym, ◌∙◌, subst, inl, inr, arith}
use Rattle.std.specs.Prelude.{Option, None, Some, IfSome, unwrap_or}
use Rattle.std.specs.List.{range_with_len, slice_get}
use Rattle.std.proofs.lemmas.Bool.{cases_lt}
use Rattle.std.proofs.lemmas.List.{length-append, length-map}
use Rattle.std.proofs.lemmas.List.FromFn.{length-range_with_len, get_or-map-range_with_len}
use Rattle.std.proofs.lemmas.Option.{slice_get-get_or, slice_get_past, unwrap_or-slice_get}
use Rattle.ball_model.specs.declared.names.NodeId.{NodeId}
use Rattle.ball_model.specs.Job.{Job, IsJob}
use Rattle.ball_model.specs.State.{State}
use Rattle.ball_model.specs.World.{Node, node_at, start_node, start_world}
use Rattle.ball_model.proofs.WorldLemmas.{one_more, start_is_world}
use Rattle.world.specs.Shows.{SeenMessage, SeenNode, Agree, ShowsNode, Shows, AreStart, AreFirstNodes}
use Rattle.world.proofs.ShowsLemmas.{agree_as}

pub node_more : (j : Job) (p n : ℕ) (nodes : List SeenNode) (s : SeenNode) → AreStart j p n nodes → ShowsNode j (start_node j.plan p) s → AreStart j p (n + 1) (nodes ++ s ∷ [])
node_more j p n nodes s before shows = record {
  count = length-append nodes (s ∷ []) ∙ ap (λ m. m + 1) before.count;
  each = one_more (ShowsNode j (start_node j.plan p)) nodes s before.each shows;
}

-- each further row is of the partition of its number
row_at_end : (j : Job) (replicas a : ℕ) (rows : List (List SeenNode)) (row : List SeenNode) → ((p : ℕ) → IfSome (slice_get rows p) (AreStart j (a + p) replicas)) → AreStart j (a + length rows) replicas row → (p : ℕ) → IfSome (slice_get (rows ++ row ∷ []) p) (AreStart j (a + p) replicas)
row_at_end j replicas a [] row h new zero = new
row_at_end j replicas a [] row h new (suc p) = tt
row_at_end j replicas a (r ∷ rows) row h new zero = h 0
row_at_end j replicas a (r ∷ rows) row h new (suc p) =
    let same : (a + 1) + p ≡ a + suc p = omega arith in
    let last : a + length (r ∷ rows) ≡ (a + 1) + length rows = omega arith in
    subst (λ (q : ℕ). IfSome (slice_get (rows ++ row ∷ []) p) (AreStart j q replicas)) same
    (row_at_end j replicas (a + 1) rows row
    (λ k. let on : a + suc k ≡ (a + 1) + k = omega arith in subst (λ (q : ℕ). IfSome (slice_get rows k) (AreStart j q replicas)) on (h (suc k)))
    (subst (λ (q : ℕ). AreStart j q replicas row) last new) p)

pub row_more : (j : Job) (n replicas : ℕ) (rows : List (List SeenNode)) (row : List SeenNode) → AreFirstNodes j n replicas rows → AreStart j n replicas row → AreFirstNodes j (n + 1) replicas (rows ++ row ∷ [])
row_more j n replicas rows row before new = record {
  count = length-append rows (row ∷ []) ∙ ap (λ m. m + 1) before.count;
  each = λ p.
      let plain : (q : ℕ) → 0 + q ≡ q = λ q. omega arith in
      subst (λ (q : ℕ). IfSome (slice_get (rows ++ row ∷ []) p) (AreStart j q replicas)) (plain p)
      (row_at_end j replicas 0 rows row
      (λ k. subst (λ (q : ℕ). IfSome (slice_get rows k) (AreStart j q replicas)) (sym (plain k)) (before.each k))
      (subst (λ (q : ℕ). AreStart j q replicas row) (sym before.count ∙ sym (plain (length rows))) new) p);
}

-- ---- what the start shows
one_of : {X : Type 0} (x : X) (n k : ℕ) → k < n → slice_get (replicate n x) k ≡ Some x
one_of x zero k lt = absurd (omega (arith, lt))
one_of x (suc n) zero lt = refl
one_of x (suc n) (suc k) lt = one_of x n k (omega (arith, lt))

none_of : {X : Type 0} (x : X) (n k : ℕ) → n ≤ k → slice_get (replicate n x) k ≡ None
none_of x zero k le = refl
none_of x (suc n) zero le = absurd (omega (arith, le))
none_of x (suc n) (suc k) le = none_of x n k (omega (arith, le))

at_index : {X : Type 0} (P : X → Type 0) (o : Option X) (x : X) → IfSome o P → o ≡ Some x → P x
at_index P o x h e = subst (λ (q : Option _). IfSome q P) e h

-- an element that is there, or none
within : {X : Type 0} (xs : List X) (k : ℕ) → k < length xs → slice_get xs k ≡ None → ⊥
within [] k lt e = omega (arith, lt)
within (x ∷ xs) zero lt e = let wrong = e in cc
within (x ∷ xs) (suc k) lt e = within xs k (omega (arith, lt)) e

node_agrees : (j : Job) (n : Node) (nodes : List SeenNode) (k : ℕ) (o : Option SeenNode) → slice_get nodes k ≡ o → k < length nodes → IfSome o (ShowsNode j n) → Agree (ShowsNode j) (Some n) o
node_agrees j n nodes k None e lt h = within nodes k lt e
node_agrees j n nodes k (Some s) e lt h = h

nodes_agree : (j : Job) (p replicas k : ℕ) (nodes : List SeenNode) → AreStart j p replicas nodes → Agree (ShowsNode j) (slice_get (replicate replicas (start_node j.plan p)) k) (slice_get nodes k)
nodes_agree j p replicas k nodes are = elim (cases_lt k replicas) [
  | inl inside ↦
      agree_as (ShowsNode j) (slice_get (replicate replicas (start_node j.plan p)) k) (Some (start_node j.plan p)) (slice_get nodes k) (slice_get nodes k) (one_of (start_node j.plan p) replicas k inside) refl
      (node_agrees j (start_node j.plan p) nodes k (slice_get nodes k) refl (omega (arith, are.count, inside)) (are.each k))
  | inr past ↦
      agree_as (ShowsNode j) (slice_get (replicate replicas (start_node j.plan p)) k) None (slice_get nodes k) None (none_of (start_node j.plan p) replicas k (omega arith)) (slice_get_past nodes k (omega (arith, are.count))) tt
]

abbrev rows_of : Job → ℕ → List (List Node)
rows_of j replicas = map (λ p. replicate replicas (start_node j.plan p)) (range_with_len 0 j.plan.parts)

no_row_of : (j : Job) (replicas p : ℕ) → j.plan.parts ≤ p → get_or (rows_of j replicas) p [] ≡ []
no_row_of j replicas p past =
    let long : length (rows_of j replicas) ≡ j.plan.parts = length-map (range_with_len 0 j.plan.parts) (λ q. replicate replicas (start_node j.plan q)) ∙ length-range_with_len 0 j.plan.parts in
    sym (unwrap_or-slice_get (rows_of j replicas) p []) ∙ ap (λ o. unwrap_or o []) (slice_get_past (rows_of j replicas) p (omega (arith, long, past)))

start_agrees : (j : Job) (replicas : ℕ) (rows : List (List SeenNode)) (id : NodeId) → AreFirstNodes j j.plan.parts replicas rows →
    Agree (ShowsNode j) (slice_get (get_or (rows_of j replicas) id.part []) id.replica) (slice_get (get_or rows id.part []) id.replica)
start_agrees j replicas rows id are = elim (cases_lt id.part j.plan.parts) [
  | inl inside ↦
      let row : List SeenNode = get_or rows id.part [] in
      let there : slice_get rows id.part ≡ Some row = slice_get-get_or rows id.part [] (omega (arith, are.count, inside)) in
      let start : AreStart j id.part replicas row = at_index (AreStart j id.part replicas) (slice_get rows id.part) row (are.each id.part) there in
      let first : get_or (rows_of j replicas) id.part [] ≡ replicate replicas (start_node j.plan id.part) = get_or-map-range_with_len (λ q. replicate replicas (start_node j.plan q)) 0 j.plan.parts id.part id.part [] inside (omega arith) in
      agree_as (ShowsNode j) (slice_get (get_or (rows_of j replicas) id.part []) id.replica) (slice_get (replicate replicas (start_node j.plan id.part)) id.replica) (slice_get row id.replica) (slice_get row id.replica)
      (ap (λ (l : List Node). slice_get l id.replica) first) refl (nodes_agree j id.part replicas id.replica row start)
  | inr past ↦
      let gone : get_or rows id.part [] ≡ [] = sym (unwrap_or-slice_get rows id.part []) ∙ ap (λ o. unwrap_or o []) (slice_get_past rows id.part (omega (arith, are.count))) in
      agree_as (ShowsNode j) (slice_get (get_or (rows_of j replicas) id.part []) id.replica) None (slice_get (get_or rows id.part []) id.replica) None
      (ap (λ (l : List Node). slice_get l id.replica) (no_row_of j replicas id.part (omega arith))) (ap (λ (l : List SeenNode). slice_get l id.replica) gone) tt
]

pub start_shown : (j : Job) (replicas : ℕ) (rows : List (List SeenNode)) → IsJob j → AreFirstNodes j j.plan.parts replicas rows →
    Shows j (start_world j.plan replicas) (record { plan = j.plan; nodes = rows; messages = []; copies = [] })
unfolding start_world node_at
start_shown j replicas rows job are = record {
  job = job;
  plan = refl;
  world = start_is_world j replicas;
  nodes = λ id. start_agrees j replicas rows id are;
  messages = refl;
  copies = λ c. tt;
  count = refl;
}

-- with nothing sent and nothing copied
pub start_with : (j : Job) (replicas : ℕ) (rows : List (List SeenNode)) (messages : List SeenMessage) (copies : List State) → messages ≡ [] → copies ≡ [] → IsJob j → AreFirstNodes j j.plan.parts replicas rows →
    Shows j (start_world j.plan replicas) (record { plan = j.plan; nodes = rows; messages = messages; copies = copies })
start_with j replicas rows messages copies none nil job are =
    subst (λ (cs : List State). Shows j (start_world j.plan replicas) (record { plan = j.plan; nodes = rows; messages = messages; copies = cs })) (sym nil)
    (subst (λ (ms : List SeenMessage). Shows j (start_world j.plan replicas) (record { plan = j.plan; nodes = rows; messages = ms; copies = [] })) (sym none) (start_shown j replicas rows job are))
