-- The list of the vertices that changed.
use Rattle.std.proofs.Common.{◌≡◌, ℕ, zero, suc, ◌+◌, ◌<◌, ◌≤◌, Bool, true, false, List, [], ◌∷◌, ◌++◌, length, length-append, get_or, take, if◌then◌else◌, refl, ap, arith, sym, subst, ◌∙◌, inl, inr}
use Rattle.replica.proofs.Names.{cases_eq, common_steps, range_with_len, filter, append-nil, get_or_past, State, All-get_or, IsNextMarked, at_next}
use Rattle.std.proofs.lemmas.List.Elements.{filter_passes}
use Rattle.ball_model.proofs.PartLemmas.{range_more}
use Rattle.replica.proofs.SentLemmas.Sent.{count_next}
use Rattle.replica.specs.Sent.{AreChangedVertices, changed_first}

-- ---- the marked places among n from a on

abbrev listed : List Bool → ℕ → ℕ → List ℕ
listed marks a n = filter (λ i. get_or marks i false) (range_with_len a n)

begins_if : (marks : List Bool) (a : ℕ) (b : Bool) (rest : List ℕ) → get_or marks a false ≡ b → a < length marks → IsNextMarked marks (a + 1) (get_or rest 0 (length marks)) → IsNextMarked marks a (get_or (if b then a ∷ rest else rest) 0 (length marks))
begins_if marks a true rest is lt next = record { low = omega arith; high = omega arith; blank = λ k low less. absurd (omega arith); marked = λ less. is }
begins_if marks a false rest is lt next = record {
  low = omega (arith, next.low);
  high = next.high;
  blank = λ k low less. elim (cases_eq k a) [ inl same ↦ ap (λ (i : ℕ). get_or marks i false) same ∙ is | inr other ↦ next.blank k (omega (arith, other)) less ];
  marked = next.marked;
}

-- the list begins with the first of them
begins : (marks : List Bool) (a n : ℕ) → a + n ≡ length marks → IsNextMarked marks a (get_or (listed marks a n) 0 (length marks))
begins marks a zero whole = record { low = omega (arith, whole); high = omega arith; blank = λ k low less. absurd (omega (arith, whole)); marked = λ less. absurd (omega arith) }
begins marks a (suc n) whole = begins_if marks a (get_or marks a false) (listed marks (a + 1) n) refl (omega (arith, whole)) (begins marks (a + 1) n (omega (arith, whole)))

goes_if : (marks : List Bool) (a k : ℕ) (b : Bool) (rest : List ℕ) → IsNextMarked marks (a + 1) (get_or rest 0 (length marks)) → ((i : ℕ) → i < length rest → IsNextMarked marks (get_or rest i 0 + 1) (get_or rest (i + 1) (length marks))) →
    k < length (if b then a ∷ rest else rest) → IsNextMarked marks (get_or (if b then a ∷ rest else rest) k 0 + 1) (get_or (if b then a ∷ rest else rest) (k + 1) (length marks))
goes_if marks a zero true rest next each lt = next
goes_if marks a (suc k) true rest next each lt =
    let e : suc (k + 1) ≡ suc k + 1 = omega arith in
    subst (λ (m : ℕ). IsNextMarked marks (get_or rest k 0 + 1) (get_or (a ∷ rest) m (length marks))) e (each k (omega (arith, lt)))
goes_if marks a k false rest next each lt = each k lt

-- behind each of them stands the next
goes : (marks : List Bool) (a n k : ℕ) → a + n ≡ length marks → k < length (listed marks a n) → IsNextMarked marks (get_or (listed marks a n) k 0 + 1) (get_or (listed marks a n) (k + 1) (length marks))
goes marks a zero k whole lt = absurd (omega (arith, lt))
goes marks a (suc n) k whole lt =
    let less : (a + 1) + n ≡ length marks = omega (arith, whole) in
    goes_if marks a k (get_or marks a false) (listed marks (a + 1) n) (begins marks (a + 1) n less) (λ i below. goes marks (a + 1) n i less below) lt

-- ---- the vertices that changed

-- up to the first one no vertex changed
pub changed_begin : (v : State) (vertices : List ℕ) → AreChangedVertices v vertices → IsNextMarked v.marks 0 (get_or vertices 0 (length v.part.preds))
unfolding changed_first
changed_begin v vertices are = rw (are.list, ← are.marks) (begins v.marks 0 (length v.marks) (omega arith))

-- nor from behind one of them up to the next
pub changed_go : (v : State) (vertices : List ℕ) (k : ℕ) → AreChangedVertices v vertices → k < length vertices → IsNextMarked v.marks (get_or vertices k 0 + 1) (get_or vertices (k + 1) (length v.part.preds))
unfolding changed_first
changed_go v vertices k are lt = rw (are.list, ← are.marks) (goes v.marks 0 (length v.marks) k (omega arith) (rw (are.list, ← are.marks) at lt))

mark_inside : (marks : List Bool) (i : ℕ) → get_or marks i false ≡ true → i < length marks
mark_inside marks i on = grind (arith, get_or_past)

-- vertex i of the partition changed
pub record ChangedAt (v : State) (i : ℕ) : Type 0 where
  pub place : i < length v.part.preds
  pub mark : get_or v.marks i false ≡ true

-- each of them changed
pub changed_at : (v : State) (vertices : List ℕ) (k : ℕ) → AreChangedVertices v vertices → k < length vertices → ChangedAt v (get_or vertices k 0)
unfolding changed_first
changed_at v vertices k are lt =
    let n : ℕ = length v.part.preds in
    let on : get_or v.marks (get_or vertices k 0) false ≡ true = rw are.list (All-get_or (λ i. get_or v.marks i false ≡ true) (listed v.marks 0 n) k 0 (rw are.list at lt) (filter_passes (λ i. get_or v.marks i false) (range_with_len 0 n))) in
    record { place = omega (arith, mark_inside v.marks (get_or vertices k 0) on, are.marks); mark = on }

-- ---- the list is made

pub first_none : (v : State) → changed_first v 0 ≡ []
unfolding changed_first
first_none v = refl

pub first_more : (v : State) (n : ℕ) → changed_first v (n + 1) ≡ changed_first v n ++ (if get_or v.marks n false then n ∷ [] else [])
unfolding changed_first
first_more v n = grind (arith, range_more, common_steps)

first_same : (v : State) (n : ℕ) → get_or v.marks n false ≡ false → changed_first v (n + 1) ≡ changed_first v n
first_same v n off = first_more v n ∙ rw off (append-nil (changed_first v n))

-- one that changed is put behind the others
pub first_push : (v : State) (n : ℕ) → get_or v.marks n false ≡ true → changed_first v (n + 1) ≡ changed_first v n ++ n ∷ []
first_push v n on = first_more v n ∙ rw on refl

-- up to the next one that changed
pub first_over : (v : State) (from next : ℕ) (vertices : List ℕ) → IsNextMarked v.marks from next → vertices ≡ changed_first v from → vertices ≡ changed_first v next
first_over v from next vertices is = at_next (λ n. vertices ≡ changed_first v n) v.marks from next is (λ k low lt off so_far. so_far ∙ sym (first_same v k off))

length_if : (b : Bool) (n : ℕ) → length (if b then n ∷ [] else []) ≡ length (filter (λ mark. mark) (b ∷ []))
length_if b n = grind arith

-- so many of the first n are listed as are marked
pub first_count : (v : State) (n : ℕ) → n ≤ length v.marks → length (changed_first v n) ≡ length (filter (λ mark. mark) (take n v.marks))
first_count v zero le = ap (length {A = ℕ}) (first_none v)
first_count v (suc n) le =
    let e : n + 1 ≡ suc n = omega arith in
    subst (λ (k : ℕ). length (changed_first v k) ≡ length (filter (λ mark. mark) (take k v.marks))) e
    (omega (arith, ap (length {A = ℕ}) (first_more v n), length-append (changed_first v n) (if get_or v.marks n false then n ∷ [] else []), first_count v n (omega (arith, le)), length_if (get_or v.marks n false) n, count_next v.marks n (omega (arith, le))))
