-- Where change comes from, and that it does not come back.
use Rattle.std.proofs.Common.{◌≡◌, ℕ, zero, suc, ◌+◌, ◌<◌, ◌≤◌, Bool, true, false, List, [], ◌∷◌, refl, ap, arith, ◌∙◌, inl, inr, subst, IsTrue}
use Rattle.std.specs.List.{list_any, range_with_len, filter, fold, AllByRecursion}
use Rattle.std.proofs.lemmas.Slice.Eq.{bytes_eq-Decides}
use Rattle.std.proofs.lemmas.Bool.{cases_lt, false_from_ne_true, not_from_true}
use Rattle.ball_model.specs.Graph.{Graph, IsGraph, is_edge, preds_of}
use Rattle.ball_model.specs.Counter.{Mixing, ball_counter, max_each}
use Rattle.ball_model.specs.Change.{changed_at, any_changed}
use Rattle.ball_model.proofs.PathLemmas.{any_range, edge_below}
use Rattle.ball_model.proofs.CounterLemmas.{kept_one}
use Rattle.ball_model.proofs.ChangeLemmas.{changed_suffice, changed_next, filter_passes}

-- with no changed predecessor a vertex stays as it is
unchanged_next : (m : Mixing) (g : Graph) (x t : ℕ) → IsGraph g → x < g.vertices → filter (λ z. changed_at m g z t) (preds_of g x) ≡ [] → changed_at m g x (t + 1) ≡ false
unchanged_next m g x t ok lt none =
    let same : ball_counter m g x (t + 1) ≡ ball_counter m g x t =
    changed_suffice m g x t ok lt ∙ ap (λ (l : List ℕ). fold (λ acc z. max_each acc (ball_counter m g z t)) (ball_counter m g x t) l) none in
    changed_next m g x t ∙ not_from_true _ ((bytes_eq-Decides (ball_counter m g x (t + 1)) (ball_counter m g x t)).1 same)

-- what a filtered list of predecessors holds
pred_in : (q p : ℕ → Bool) (xs : List ℕ) → AllByRecursion (λ z. p z ≡ true) xs → AllByRecursion (λ z. p z ≡ true) (filter q xs)
pred_in q p [] h = h
pred_in q p (x ∷ xs) h = kept_one (q x) (λ z. p z ≡ true) x (filter q xs) (λ e. h.0) (pred_in q p xs h.1)

-- a vertex that is changed at t + 1 has a predecessor that is changed at t
pub change_source : (m : Mixing) (g : Graph) (x t : ℕ) → IsGraph g → x < g.vertices → IsTrue (changed_at m g x (t + 1)) →
    (z : ℕ) × IsTrue (is_edge g z x) × IsTrue (changed_at m g z t)
change_source m g x t ok lt changed = by_list (filter q (preds_of g x)) refl
  where
    q : ℕ → Bool
    q z = changed_at m g z t

    by_list : (l : List ℕ) → filter q (preds_of g x) ≡ l → (z : ℕ) × IsTrue (is_edge g z x) × IsTrue (changed_at m g z t)
    by_list [] at = absurd (let still : changed_at m g x (t + 1) ≡ false = unchanged_next m g x t ok lt at in let is : changed_at m g x (t + 1) ≡ true = changed in cc)
    by_list (z ∷ rest) at =
        let edges = subst (λ (l : List ℕ). AllByRecursion (λ z. is_edge g z x ≡ true) l) at (pred_in q (λ z. is_edge g z x) (preds_of g x) (filter_passes (λ z. is_edge g z x) (range_with_len 0 g.vertices))) in
        let marks = subst (λ (l : List ℕ). AllByRecursion (λ z. q z ≡ true) l) at (filter_passes q (preds_of g x)) in
        (z, edges.0, marks.0)

-- where no number of a range passes, none is found
pub none_of : (p : ℕ → Bool) (a n : ℕ) → ((k : ℕ) → a ≤ k → k < a + n → p k ≡ false) → list_any p (range_with_len a n) ≡ false
none_of p a zero h = refl
none_of p a (suc n) h = rw (h a (omega arith) (omega arith)) (none_of p (a + 1) n (λ k low high. h k (omega arith) (omega arith)))

pub none_in : (p : ℕ → Bool) (a n k : ℕ) → list_any p (range_with_len a n) ≡ false → a ≤ k → k < a + n → p k ≡ false
none_in p a n k e low high = false_from_ne_true (p k) (λ at. let h = any_range p a n k low high at in cc)

-- no vertex is changed one superstep later
quiet_next : (m : Mixing) (g : Graph) (t : ℕ) → IsGraph g → any_changed m g t ≡ false → any_changed m g (t + 1) ≡ false
unfolding any_changed
quiet_next m g t ok quiet =
    none_of (λ x. changed_at m g x (t + 1)) 0 g.vertices
    (λ x low high. by_bool x (omega arith) (changed_at m g x (t + 1)) refl)
  where
    by_bool : (x : ℕ) → x < g.vertices → (b : Bool) → changed_at m g x (t + 1) ≡ b → changed_at m g x (t + 1) ≡ false
    by_bool x lt false at = at
    by_bool x lt true at =
        let from = change_source m g x t ok lt at in
        let below = (edge_below g from.0 x ok from.1).0 in
        absurd (let still = none_in (λ z. changed_at m g z t) 0 g.vertices from.0 quiet (omega arith) (omega arith) in let is : changed_at m g from.0 t ≡ true = from.2 in cc)

-- once no vertex is changed, none is changed later
pub quiet_stays : (m : Mixing) (g : Graph) (t s : ℕ) → IsGraph g → any_changed m g t ≡ false → t ≤ s → any_changed m g s ≡ false
quiet_stays m g t zero ok quiet le = let e : t ≡ 0 = omega arith in subst (λ (k : ℕ). any_changed m g k ≡ false) e quiet
quiet_stays m g t (suc s) ok quiet le =
    elim (cases_lt t (suc s)) [
      | inl below ↦ let e : s + 1 ≡ suc s = omega arith in subst (λ (k : ℕ). any_changed m g k ≡ false) e (quiet_next m g s ok (quiet_stays m g t s ok quiet (omega arith)))
      | inr here ↦ let e : t ≡ suc s = omega arith in subst (λ (k : ℕ). any_changed m g k ≡ false) e quiet
    ]
