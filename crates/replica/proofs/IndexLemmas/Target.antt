-- Where the index of a part leads.
use Rattle.std.proofs.Common.{◌≡◌, ◌≢◌, ℕ, zero, suc, ◌+◌, ◌<◌, ◌≤◌, Bool, true, false, ◌&&◌, ◌||◌, ◌==◌, List, [], ◌∷◌, map, length, get_or, if◌then◌else◌, refl, ap, arith, sym, ◌∙◌, inl, inr}
use Rattle.std.proofs.Math.Bool.{or-false}
use Rattle.replica.proofs.Names.{list_any, filter, flat_map, range_with_len, cases_lt, eq-eqb, get_or-map-range_with_len, length-map-range_with_len, Job, IsJob, PartValue, part_of, own_vertices, get_or-map, get_or_past, list_any_at, list_any-append}
use Rattle.ball_model.specs.Graph.{is_edge, preds_of}
use Rattle.ball_model.proofs.PathLemmas.{edge_below}
use Rattle.ball_model.proofs.AccumulatedLemmas.{any_pred}
use Rattle.graph.proofs.LinksLemmas.{any_elsewhere, any_here}
use Rattle.replica.specs.Spread.{stands_in, LeadInside}
use Rattle.replica.specs.Index.{first_edges, all_edges, targets_from, targets_of}

-- ---- the edges to own vertices
-- the edges to own vertex k
abbrev pub edges_to : List (List ℕ) → ℕ → List (ℕ × ℕ)
edges_to preds k = map (λ y. (y, k)) (get_or preds k [])

any_beyond : (preds : List (List ℕ)) (a n z i : ℕ) → i < a → list_any (λ (e : ℕ × ℕ). (e.0 == z) && (e.1 == i)) (flat_map (edges_to preds) (range_with_len a n)) ≡ false
any_beyond preds a zero z i lt = refl
any_beyond preds a (suc n) z i lt =
    grind (arith, any_beyond preds (a + 1) n z i (omega arith), list_any-append, any_elsewhere)

any_within : (preds : List (List ℕ)) (a n z i : ℕ) → a ≤ i → i < a + n → list_any (λ (e : ℕ × ℕ). (e.0 == z) && (e.1 == i)) (flat_map (edges_to preds) (range_with_len a n)) ≡ stands_in (get_or preds i []) z
any_within preds a zero z i low high = absurd (omega arith)
any_within preds a (suc n) z i low high =
    list_any-append (λ (e : ℕ × ℕ). (e.0 == z) && (e.1 == i)) (edges_to preds a) (flat_map (edges_to preds) (range_with_len (a + 1) n))
    ∙ elim (cases_lt a i) [
      | inl later ↦ let apart : a ≢ i = omega arith in rw (any_elsewhere (get_or preds a []) z a i apart) (any_within preds (a + 1) n z i (omega arith) (omega arith))
      | inr at ↦
          let same : a ≡ i = omega arith in
          rw (same, any_here (get_or preds i []) z i, any_beyond preds (i + 1) n z i (omega arith)) (or-false (stands_in (get_or preds i []) z))
    ]

any_past : (preds : List (List ℕ)) (a n z i : ℕ) → a + n ≤ i → list_any (λ (e : ℕ × ℕ). (e.0 == z) && (e.1 == i)) (flat_map (edges_to preds) (range_with_len a n)) ≡ false
any_past preds a zero z i le = refl
any_past preds a (suc n) z i le =
    grind (arith, any_past preds (a + 1) n z i (omega arith), list_any-append, any_elsewhere)

edges_are : (preds : List (List ℕ)) (z i : ℕ) → list_any (λ (e : ℕ × ℕ). (e.0 == z) && (e.1 == i)) (all_edges preds) ≡ stands_in (get_or preds i []) z
unfolding first_edges
edges_are preds z i = grind (arith, any_within, any_past, get_or_past)

-- ---- the index
any_one : (b : Bool) (i : ℕ) (e : ℕ × ℕ) (rest : List (ℕ × ℕ)) (r : Bool) → list_any (λ y. y == i) (map (λ f. f.1) rest) ≡ r →
    list_any (λ y. y == i) (map (λ f. f.1) (if b then (e ∷ rest) else rest)) ≡ ((b && (e.1 == i)) || r)
any_one b i e rest r h = grind arith

any_targets : (es : List (ℕ × ℕ)) (z i : ℕ) → stands_in (targets_from es z) i ≡ list_any (λ (e : ℕ × ℕ). (e.0 == z) && (e.1 == i)) es
any_targets [] z i = refl
any_targets (e ∷ es) z i = any_one (e.0 == z) i e (filter (λ f. f.0 == z) es) _ (any_targets es z i)

pub targets-at : (part : PartValue) (z : ℕ) (d : List ℕ) → z < part.plan.vertices → get_or (targets_of part) z d ≡ targets_from (all_edges part.preds) z
unfolding targets_of
targets-at part z d lt = get_or-map-range_with_len (λ z. targets_from (all_edges part.preds) z) 0 part.plan.vertices z z d lt (omega arith)

pub length-targets : (part : PartValue) → length (targets_of part) ≡ part.plan.vertices
unfolding targets_of
length-targets part = length-map-range_with_len (λ z. targets_from (all_edges part.preds) z) 0 part.plan.vertices

-- the index leads from a vertex to those that have it as a predecessor
pub targets-in : (part : PartValue) (z i : ℕ) (d : List ℕ) → z < part.plan.vertices → stands_in (get_or (targets_of part) z d) i ≡ stands_in (get_or part.preds i []) z
targets-in part z i d lt = ap (λ places. stands_in places i) (targets-at part z d lt) ∙ any_targets (all_edges part.preds) z i ∙ edges_are part.preds z i

-- and nowhere from what is no vertex
pub targets-none : (part : PartValue) (z : ℕ) → part.plan.vertices ≤ z → get_or (targets_of part) z [] ≡ []
targets-none part z le = get_or_past (targets_of part) z [] (omega (arith, length-targets part))

-- each place is one of the part's
pub targets-inside : (part : PartValue) → LeadInside (length part.preds) (targets_of part)
targets-inside part z d lt k e less =
    let places = get_or (targets_of part) z d in
    let i = get_or places k e in
    let there : stands_in places i ≡ true = list_any_at (λ y. y == i) places k e less (eq-eqb i i refl) in
    let pred : stands_in (get_or part.preds i []) z ≡ true = sym (targets-in part z i d (omega (arith, length-targets part))) ∙ there in
    grind (arith, cases_lt, get_or_past)

-- ---- the index of a job's partition
preds-at : (j : Job) (p i : ℕ) → i < length (own_vertices j p) → get_or (part_of j p).preds i [] ≡ preds_of j.graph (get_or (own_vertices j p) i 0)
unfolding part_of
preds-at j p i lt = get_or-map (λ x. preds_of j.graph x) (own_vertices j p) i 0 [] lt

-- it leads from a vertex to those of the partition that it has an edge to
pub targets-edge : (j : Job) (p z i : ℕ) → IsJob j → i < length (own_vertices j p) → stands_in (get_or (targets_of (part_of j p)) z []) i ≡ is_edge j.graph z (get_or (own_vertices j p) i 0)
unfolding part_of
targets-edge j p z i job lt =
    grind (arith, targets-in, preds-at, any_pred, targets-none, edge_below)
