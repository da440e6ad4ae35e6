-- All accumulators of a partition.
use Rattle.std.proofs.Common.{◌≡◌, ◌≢◌, ℕ, ◌+◌, ◌<◌, ◌%◌, Bool, true, false, ◌&&◌, ◌||◌, ◌==◌, List, [], ◌∷◌, map, length, get_or, refl, ap, ap₂, arith, sym, ◌∙◌, inl, inr}
use Rattle.std.specs.List.{list_any, range_with_len, zip, AllByRecursion}
use Rattle.std.proofs.Math.Nat.{mod-lt}
use Rattle.std.proofs.lemmas.Bool.{cases_eq, and_parts, or_left, or_right, eqb-true, eq-eqb}
use Rattle.std.proofs.lemmas.List.{length-map, get_or-map}
use Rattle.ball_model.specs.Graph.{IsGraph, is_edge}
use Rattle.ball_model.specs.Counter.{ball_counter, max_each}
use Rattle.ball_model.specs.Change.{changed_at}
use Rattle.ball_model.specs.PlanValue.{mixing_of, vertices_of}
use Rattle.ball_model.specs.Job.{Job}
use Rattle.ball_model.specs.State.{own_vertices, rows_of}
use Rattle.ball_model.specs.Accumulated.{accumulated_row, accumulated_of}
use Rattle.ball_model.proofs.PathLemmas.{any_filter, range_any, edge_below}
use Rattle.ball_model.proofs.CounterLemmas.{range_all}
use Rattle.ball_model.proofs.AccumulatedLemmas.{accumulated-none, accumulated-all, accumulated-same, accumulated-or}

map_alike : {X : Type 0} (f g : ℕ → X) (xs : List ℕ) → AllByRecursion (λ x. f x ≡ g x) xs → map f xs ≡ map g xs
map_alike f g [] h = refl
map_alike f g (x ∷ xs) h = rw (h.0, map_alike f g xs h.1) refl

-- what holds of each vertex holds of those of a partition
pub all_own : (P : ℕ → Type 0) (n parts p : ℕ) → ((x : ℕ) → x < n → P x) → AllByRecursion P (vertices_of n parts p)
unfolding vertices_of
all_own P n parts p h = range_all P (λ v. v % parts == p) 0 n n (omega arith) h

-- where nothing is heard, the accumulators are the rows
pub accumulated_of-none : (j : Job) (p t : ℕ) → accumulated_of j p t (λ z. false) ≡ rows_of j p t
unfolding accumulated_of rows_of
accumulated_of-none j p t =
    map_alike (λ x. accumulated_row (mixing_of j.plan) j.graph x t (λ z. false)) (λ x. ball_counter (mixing_of j.plan) j.graph x t) (own_vertices j p)
    (all_own (λ x. accumulated_row (mixing_of j.plan) j.graph x t (λ z. false) ≡ ball_counter (mixing_of j.plan) j.graph x t) j.graph.vertices j.plan.parts p (λ x lt. accumulated-none (mixing_of j.plan) j.graph x t))

-- where all is heard, they are the rows at the next superstep
pub accumulated_of-all : (j : Job) (p t : ℕ) → IsGraph j.graph → accumulated_of j p t (λ z. true) ≡ rows_of j p (t + 1)
unfolding accumulated_of rows_of
accumulated_of-all j p t ok =
    map_alike (λ x. accumulated_row (mixing_of j.plan) j.graph x t (λ z. true)) (λ x. ball_counter (mixing_of j.plan) j.graph x (t + 1)) (own_vertices j p)
    (all_own (λ x. accumulated_row (mixing_of j.plan) j.graph x t (λ z. true) ≡ ball_counter (mixing_of j.plan) j.graph x (t + 1)) j.graph.vertices j.plan.parts p (λ x lt. accumulated-all (mixing_of j.plan) j.graph x t ok lt))

-- only changed vertices with an edge to an own one count
pub accumulated_of-same : (j : Job) (p t : ℕ) (a b : ℕ → Bool) → ((x z : ℕ) → list_any (λ v. v == x) (own_vertices j p) ≡ true → is_edge j.graph z x ≡ true → changed_at (mixing_of j.plan) j.graph z t ≡ true → a z ≡ b z) →
    accumulated_of j p t a ≡ accumulated_of j p t b
unfolding accumulated_of
accumulated_of-same j p t a b same =
    map_alike (λ x. accumulated_row (mixing_of j.plan) j.graph x t a) (λ x. accumulated_row (mixing_of j.plan) j.graph x t b) (own_vertices j p)
    (each (own_vertices j p) (λ x member. accumulated-same (mixing_of j.plan) j.graph x t a b (λ z edge changed. same x z member edge changed)))
  where
    each : {P : ℕ → Type 0} (xs : List ℕ) → ((x : ℕ) → list_any (λ v. v == x) xs ≡ true → P x) → AllByRecursion P xs
    each [] h = tt
    each (x ∷ xs) h = (h x (or_left (x == x) _ (eq-eqb x x refl)), each xs (λ y e. h y (or_right (x == y) _ e)))

-- two tests that agree on all vertices
pub accumulated_of-alike : (j : Job) (p t : ℕ) (a b : ℕ → Bool) → IsGraph j.graph → ((z : ℕ) → z < j.graph.vertices → a z ≡ b z) → accumulated_of j p t a ≡ accumulated_of j p t b
accumulated_of-alike j p t a b ok same = accumulated_of-same j p t a b (λ x z member edge changed. same z (edge_below j.graph z x ok edge).0)

-- where every source but p is heard, and p itself, they are the rows at the next superstep
pub accumulated_of-level : (j : Job) (p t : ℕ) (mask : ℕ → Bool) → IsGraph j.graph → 0 < j.plan.parts → ((q : ℕ) → q < j.plan.parts → q ≢ p → mask q ≡ true) →
    accumulated_of j p t (λ z. mask (z % j.plan.parts) || (z % j.plan.parts == p)) ≡ rows_of j p (t + 1)
accumulated_of-level j p t mask ok some all =
    sym (accumulated_of-alike j p t (λ z. true) (λ z. mask (z % j.plan.parts) || (z % j.plan.parts == p)) ok
    (λ z lt. elim (cases_eq (z % j.plan.parts) p) [
      | inl own ↦ sym (or_right (mask (z % j.plan.parts)) (z % j.plan.parts == p) (ap (λ k. k == p) own ∙ eq-eqb p p refl))
      | inr other ↦ sym (or_left (mask (z % j.plan.parts)) (z % j.plan.parts == p) (all (z % j.plan.parts) (mod-lt z some) other))
    ]))
    ∙ accumulated_of-all j p t ok

-- there is one for each own vertex
pub length-accumulated_of : (j : Job) (p t : ℕ) (heard : ℕ → Bool) → length (accumulated_of j p t heard) ≡ length (own_vertices j p)
unfolding accumulated_of
length-accumulated_of j p t heard = simp length-map refl

pub accumulated_of-at : (j : Job) (p t : ℕ) (heard : ℕ → Bool) (i : ℕ) (d : List ℕ) → i < length (own_vertices j p) →
    get_or (accumulated_of j p t heard) i d ≡ accumulated_row (mixing_of j.plan) j.graph (get_or (own_vertices j p) i 0) t heard
unfolding accumulated_of
accumulated_of-at j p t heard i d lt = get_or-map (λ x. accumulated_row (mixing_of j.plan) j.graph x t heard) (own_vertices j p) i 0 d lt

-- the accumulators of what either heard are the maximum
pub accumulated_of-or : (j : Job) (p t : ℕ) (a b : ℕ → Bool) →
    map (λ r. max_each r.0 r.1) (zip (accumulated_of j p t a) (accumulated_of j p t b)) ≡ accumulated_of j p t (λ z. a z || b z)
unfolding accumulated_of
accumulated_of-or j p t a b = by_vertex (own_vertices j p)
  where
    by_vertex : (xs : List ℕ) → map (λ r. max_each r.0 r.1) (zip (map (λ x. accumulated_row (mixing_of j.plan) j.graph x t a) xs) (map (λ x. accumulated_row (mixing_of j.plan) j.graph x t b) xs)) ≡ map (λ x. accumulated_row (mixing_of j.plan) j.graph x t (λ z. a z || b z)) xs
    by_vertex [] = refl
    by_vertex (x ∷ xs) = ap₂ (λ row rest. row ∷ rest) (accumulated-or (mixing_of j.plan) j.graph x t a b) (by_vertex xs)

-- an own vertex is of the partition
pub own_is : (n parts p x : ℕ) → list_any (λ v. v == x) (vertices_of n parts p) ≡ true → x % parts ≡ p
unfolding vertices_of
own_is n parts p x e =
    let found = range_any (λ k. (k % parts == p) && (k == x)) 0 n (sym (any_filter (λ v. v == x) (λ v. v % parts == p) (range_with_len 0 n)) ∙ e) in
    let both = and_parts (found.0 % parts == p) (found.0 == x) found.3 in
    sym (ap (λ k. k % parts) (eqb-true found.0 x both.1)) ∙ eqb-true (found.0 % parts) p both.0
