-- Which vertices are counted: all, or those that a list names.
use Rattle.std.proofs.Common.{◌≡◌, ℕ, zero, suc, ◌+◌, ◌<◌, ◌≤◌, Bool, true, false, ◌==◌, List, [], ◌∷◌, length, get_or, refl, arith, ap, sym, subst, ◌∙◌, inl, inr, eq-eqb}
use Rattle.std.specs.List.{list_any, range_with_len, filter, AllByRecursion}
use Rattle.std.proofs.lemmas.Bool.{cases_Bool, cases_eq, eqb-true, ne_eqb, or_cases}
use Rattle.std.proofs.lemmas.List.FromFn.{length-range_with_len}
use Rattle.std.proofs.lemmas.Slice.Eq.{bytes_eq-Decides}
use Rattle.ball_model.specs.Graph.{Graph, IsGraph, is_counted, counts_all, counted_vertices}
use Rattle.ball_model.specs.Input.{Network}
use Rattle.ball_model.specs.Counting.{names, named_vertices, counted_network}
use Rattle.ball_model.specs.InputLaws.{IsNamed}

abbrev Passes : (ℕ → Bool) → List ℕ → Type 0
Passes p xs = AllByRecursion (λ x. p x ≡ true) xs

filter_le : (p : ℕ → Bool) (xs : List ℕ) → length (filter p xs) ≤ length xs
filter_le p [] = omega arith
filter_le p (x ∷ xs) = elim (cases_Bool (p x)) [
  | inl e ↦ rw e (omega (arith, filter_le p xs))
  | inr e ↦ rw e (omega (arith, filter_le p xs))
]

-- where a filter keeps as many, all pass
all_pass : (p : ℕ → Bool) (xs : List ℕ) → length (filter p xs) ≡ length xs → Passes p xs
all_pass p [] e = tt
all_pass p (x ∷ xs) e = elim (cases_Bool (p x)) [
  | inl pass ↦
      let kept = rw pass at e in
      (pass, all_pass p xs (omega arith))
  | inr out ↦
      let kept = rw out at e in
      absurd (omega (arith, filter_le p xs))
]

-- where all pass, a filter keeps all
all_kept : (p : ℕ → Bool) (xs : List ℕ) → Passes p xs → filter p xs ≡ xs
all_kept p [] all = refl
all_kept p (x ∷ xs) all = rw all.0 (ap (λ (l : List ℕ). x ∷ l) (all_kept p xs all.1))

of_range : (p : ℕ → Bool) (a n v : ℕ) → Passes p (range_with_len a n) → a ≤ v → v < a + n → p v ≡ true
of_range p a zero v all low below = absurd (omega arith)
of_range p a (suc n) v all low below = elim (cases_eq a v) [
  | inl here ↦ subst (λ k. p k ≡ true) here all.0
  | inr other ↦ of_range p (a + 1) n v all.1 (omega arith) (omega arith)
]

to_range : (p : ℕ → Bool) (a n : ℕ) → ((v : ℕ) → a ≤ v → v < a + n → p v ≡ true) → Passes p (range_with_len a n)
to_range p a zero each = tt
to_range p a (suc n) each = (each a (omega arith) (omega arith), to_range p (a + 1) n (λ v low below. each v (omega arith) (omega arith)))

-- what is below a range is not kept of it
none_below : (p : ℕ → Bool) (a n v : ℕ) → v < a → list_any (λ k. k == v) (filter p (range_with_len a n)) ≡ false
none_below p a zero v lt = refl
none_below p a (suc n) v lt = elim (cases_Bool (p a)) [
  | inl e ↦ rw (e, ne_eqb a v (λ same. omega arith)) (none_below p (a + 1) n v (omega arith))
  | inr e ↦ rw e (none_below p (a + 1) n v (omega arith))
]

-- a number of a range is kept exactly where it passes
pub is_kept : (p : ℕ → Bool) (a n v : ℕ) → a ≤ v → v < a + n → list_any (λ k. k == v) (filter p (range_with_len a n)) ≡ p v
is_kept p a zero v low below = absurd (omega arith)
is_kept p a (suc n) v low below = elim (cases_eq a v) [
  | inl here ↦ elim (cases_Bool (p a)) [
    | inl e ↦ let same : p v ≡ true = ap p (sym here) ∙ e in rw (e, same, eq-eqb a v here) refl
    | inr e ↦ let same : p v ≡ false = ap p (sym here) ∙ e in rw (e, same) (none_below p (a + 1) n v (omega arith))
  ]
  | inr other ↦ elim (cases_Bool (p a)) [
    | inl e ↦ rw (e, ne_eqb a v other) (is_kept p (a + 1) n v (omega arith) (omega arith))
    | inr e ↦ rw e (is_kept p (a + 1) n v (omega arith) (omega arith))
  ]
]

-- all are counted exactly where each vertex is
pub each_counted : (g : Graph) → IsGraph g → counts_all g ≡ true → (v : ℕ) → v < g.vertices → is_counted g v ≡ true
unfolding counted_vertices
each_counted g ok all v below =
    let test : ℕ → Bool = λ k. is_counted g k in
    let n = g.vertices in
    let many : length g.counted ≡ n = eqb-true (length g.counted) n all in
    let full : length (filter test (range_with_len 0 n)) ≡ length (range_with_len 0 n) = sym (ap length ok.counted) ∙ many ∙ sym (length-range_with_len 0 n) in
    of_range test 0 n v (all_pass test (range_with_len 0 n) full) (omega arith) (omega arith)

pub all_counted : (g : Graph) → IsGraph g → ((v : ℕ) → v < g.vertices → is_counted g v ≡ true) → counts_all g ≡ true
unfolding counted_vertices
all_counted g ok each =
    let test : ℕ → Bool = λ k. is_counted g k in
    let n = g.vertices in
    let full : filter test (range_with_len 0 n) ≡ range_with_len 0 n = all_kept test (range_with_len 0 n) (to_range test 0 n (λ v low below. each v (omega arith))) in
    eq-eqb (length g.counted) n (ap length (ok.counted ∙ full) ∙ length-range_with_len 0 n)

-- a record that names a label is that label
names_is : (label : List ℕ) (record' : List (List ℕ)) → names label record' ≡ true → record' ≡ label ∷ []
names_is label [] e = absurd (let bad : false ≡ true = e in cc)
names_is label (a ∷ []) e =
    let same : a ≡ label = (bytes_eq-Decides a label).0 e in ap (λ (l : List ℕ). l ∷ []) same
names_is label (a ∷ b ∷ more) e = absurd (let bad : false ≡ true = e in cc)

names_own : (label : List ℕ) → names label (label ∷ []) ≡ true
names_own label = (bytes_eq-Decides label label).1 refl

named_by : (label : List ℕ) (records : List (List (List ℕ))) → list_any (names label) records ≡ true → IsNamed records label
named_by label [] e = absurd (let bad : false ≡ true = e in cc)
named_by label (r ∷ rs) e = elim (or_cases (names label r) (list_any (names label) rs) e) [
  | inl here ↦ (0, omega arith, names_is label r here)
  | inr later ↦ let rest = named_by label rs later in (suc rest.0, omega (arith, rest.1), rest.2)
]

names_at : (label : List ℕ) (records : List (List (List ℕ))) (i : ℕ) → i < length records → get_or records i [] ≡ label ∷ [] → list_any (names label) records ≡ true
names_at label [] i lt e = absurd (omega arith)
names_at label (r ∷ rs) zero lt e = let here : names label r ≡ true = ap (names label) e ∙ names_own label in rw here refl
names_at label (r ∷ rs) (suc i) lt e = elim (cases_Bool (names label r)) [
  | inl here ↦ rw here refl
  | inr other ↦ rw other (names_at label rs i (omega arith) e)
]

-- a vertex is counted exactly where some record is its label
pub counted_named : (network : Network) (records : List (List (List ℕ))) (v : ℕ) → v < length network.labels
    → is_counted (counted_network network records).graph v ≡ list_any (names (get_or network.labels v [])) records
unfolding named_vertices
counted_named network records v below =
    is_kept (λ k. list_any (names (get_or network.labels k [])) records) 0 (length network.labels) v (omega arith) (omega arith)

pub named_is : (network : Network) (records : List (List (List ℕ))) (v : ℕ) → v < length network.labels
    → is_counted (counted_network network records).graph v ≡ true → IsNamed records (get_or network.labels v [])
named_is network records v below e = named_by (get_or network.labels v []) records (sym (counted_named network records v below) ∙ e)

pub is_named : (network : Network) (records : List (List (List ℕ))) (v : ℕ) → v < length network.labels
    → IsNamed records (get_or network.labels v []) → is_counted (counted_network network records).graph v ≡ true
is_named network records v below named = counted_named network records v below ∙ names_at (get_or network.labels v []) records named.0 named.1 named.2

pub all_named : (labels : List (List ℕ)) (records : List (List (List ℕ))) → ((v : ℕ) → v < length labels → IsNamed records (get_or labels v []))
    → named_vertices labels records ≡ range_with_len 0 (length labels)
unfolding named_vertices
all_named labels records each =
    let test : ℕ → Bool = λ v. list_any (names (get_or labels v [])) records in
    all_kept test (range_with_len 0 (length labels)) (to_range test 0 (length labels) (λ v low below.
    let named = each v (omega arith) in names_at (get_or labels v []) records named.0 named.1 named.2))
