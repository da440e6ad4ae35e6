-- A label's number, by the keys of a set and by their texts; labels that are all different.
use Rattle.std.proofs.Common.{rules, ◌<◌, get_or, arith, subst, ◌≡◌, ◌∙◌, ℕ, ◌+◌, List, [], ◌∷◌, ◌++◌, Bool, true, false, refl, sym, ap, inl, inr, map, Some, None, zero, suc, ◌≤◌, not}
use Rattle.std.specs.Prelude.{if◌then◌else◌, cond, nat_lt, length}
use Rattle.std.specs.List.{list_any, position, position_or_len, filter, flat_map}
use Rattle.std.proofs.lemmas.Bool.{cases_Bool, not_from_true}
use Rattle.std.proofs.lemmas.List.{map-append, length-append, get_or_append_left}
use Rattle.std.specs.Str.{bytes_eq}
use Rattle.std.specs.Cmp.Lexicographic.{same_text}
use Rattle.std.proofs.lemmas.List.Sums.{passes_at_first}
use Rattle.std.proofs.Math.Seq.{get_or-append_seam}
use Rattle.std.specs.Cmp.{both_ways}
use Rattle.graph.specs.Labels.{with_label}
use Rattle.ball_model.proofs.BoolLemmas.{by_cases}
use Rattle.std.proofs.lemmas.List.Folds.{list_any_at}
use Rattle.std.proofs.lemmas.Map.Views.{any-filter_same}
use Rattle.ball_model.specs.Input.{distinct, labels_of}

pub place-map : {X Y : Type 0} (p : Y → Bool) (g : X → Y) (xs : List X) → position_or_len (λ x. p (g x)) xs ≡ position_or_len p (map g xs)
place-map p g [] = refl
place-map p g (x ∷ xs) = elim (cases_Bool (p (g x))) [
  | inl e ↦ rw e refl
  | inr e ↦ rw e (ap (λ n. 1 + n) (place-map p g xs))
]

pub any-map : {X Y : Type 0} (p : Y → Bool) (g : X → Y) (xs : List X) → list_any (λ x. p (g x)) xs ≡ list_any p (map g xs)
any-map p g [] = refl
any-map p g (x ∷ xs) = elim (cases_Bool (p (g x))) [
  | inl e ↦ rw e refl
  | inr e ↦ rw e (any-map p g xs)
]

some-place : (b : Bool) (n i : ℕ) → cond b (Some n) None ≡ Some i → i ≡ n
some-place true n i e = cc e
some-place false n i e = cc e

-- the place that a search found
pub place-found : {X : Type 0} (p : X → Bool) (xs : List X) (i : ℕ) → position p xs ≡ Some i → i ≡ position_or_len p xs
place-found p xs i e = some-place (nat_lt (position_or_len p xs) (length xs)) (position_or_len p xs) i e

pub map-insert : {X Y : Type 0} (b : Bool) (g : X → Y) (xs : List X) (x : X) → map g (if b then xs else xs ++ x ∷ []) ≡ (if b then map g xs else map g xs ++ g x ∷ [])
map-insert true g xs x = refl
map-insert false g xs x = map-append g xs (x ∷ [])

-- the texts of a set after an insert
pub texts-insert : {V : Type 0} (l : List ℕ) (text : V → List ℕ) (ks new : List V) (v : V) → text v ≡ l
    → new ≡ (if list_any (λ k. bytes_eq (text v) (text k)) ks then ks else ks ++ v ∷ [])
    → map text new ≡ (if list_any (bytes_eq l) (map text ks) then map text ks else map text ks ++ l ∷ [])
texts-insert l text ks new v e keys =
    rw keys (map-insert (list_any (λ k. bytes_eq (text v) (text k)) ks) text ks v ∙ rw (e, any-map (bytes_eq l) text ks) refl)

pub text_same : (x : List ℕ) → bytes_eq x x ≡ true
text_same x = search rules

pub text-flip : (x y : List ℕ) → bytes_eq x y ≡ bytes_eq y x
text-flip x y =
    both_ways (bytes_eq x y) (bytes_eq y x)
    (λ t. let e : x ≡ y = same_text x y (sym t) in subst (λ (z : List ℕ). bytes_eq z x ≡ true) e (text_same x))
    (λ t. let e : y ≡ x = same_text y x (sym t) in subst (λ (z : List ℕ). bytes_eq z y ≡ true) e (text_same y))

pub any-flip : (l : List ℕ) (xs : List (List ℕ)) → list_any (bytes_eq l) xs ≡ list_any (λ k. bytes_eq k l) xs
any-flip l [] = refl
any-flip l (x ∷ xs) = rw (text-flip l x, any-flip l xs) refl

-- the labels with this one, by the test of the set
pub with-label : (l : List ℕ) (xs : List (List ℕ)) → (if list_any (bytes_eq l) xs then xs else xs ++ l ∷ []) ≡ with_label xs l
with-label l xs = rw (any-flip l xs) refl

-- the first place of a text that a list has
pub place-within : (p : List ℕ → Bool) (xs : List (List ℕ)) → list_any p xs ≡ true → position_or_len p xs < length xs
place-within p [] e = absurd (cc)
place-within p (x ∷ xs) e =
    by_cases (p x) _
    (λ t. rw t (omega arith))
    (λ f. rw f (omega (arith, place-within p xs (rw f at e))))

pub place-none : (p : List ℕ → Bool) (xs : List (List ℕ)) → list_any p xs ≡ false → position_or_len p xs ≡ length xs
place-none p [] e = refl
place-none p (x ∷ xs) e =
    by_cases (p x) _
    (λ t. absurd (let bad = rw t at e in cc))
    (λ f. rw f (omega (arith, place-none p xs (rw f at e))))

pub present : (l : List ℕ) (xs : List (List ℕ)) → list_any (bytes_eq l) xs ≡ true → (position_or_len (bytes_eq l) xs < length xs) × (get_or xs (position_or_len (bytes_eq l) xs) [] ≡ l)
present l xs e =
    let within = place-within (bytes_eq l) xs e in
    (within, sym (same_text l (get_or xs (position_or_len (bytes_eq l) xs) []) (sym (passes_at_first (bytes_eq l) xs [] within))))

-- the place of a label among the labels with it
pub label-at : (l : List ℕ) (xs : List (List ℕ)) (i : ℕ) → i ≡ position_or_len (bytes_eq l) xs → (i < length (with_label xs l)) × (get_or (with_label xs l) i [] ≡ l)
label-at l xs i e =
    by_cases (list_any (bytes_eq l) xs) _
    (λ t. let flipped : list_any (λ k. bytes_eq k l) xs ≡ true = sym (any-flip l xs) ∙ t in rw (flipped, e) (present l xs t))
    (λ f.
    let flipped : list_any (λ k. bytes_eq k l) xs ≡ false = sym (any-flip l xs) ∙ f in
    let at : i ≡ length xs = e ∙ place-none (bytes_eq l) xs f in
    rw (flipped, at) (omega (arith, length-append xs (l ∷ [])), get_or-append_seam xs l [] []))

-- a label more leaves the others in their places
kept_if : (b : Bool) (labels : List (List ℕ)) (y : List ℕ) (k : ℕ) → k < length labels → get_or (if b then labels else labels ++ y ∷ []) k [] ≡ get_or labels k []
kept_if true labels y k lt = refl
kept_if false labels y k lt = get_or_append_left labels (y ∷ []) [] k lt

pub with_label-at : (labels : List (List ℕ)) (y : List ℕ) (k : ℕ) → k < length labels → get_or (with_label labels y) k [] ≡ get_or labels k []
with_label-at labels y k lt = kept_if (list_any (λ l. bytes_eq l y) labels) labels y k lt

longer_if : (b : Bool) (labels : List (List ℕ)) (y : List ℕ) → length labels ≤ length (if b then labels else labels ++ y ∷ [])
longer_if true labels y = omega arith
longer_if false labels y = omega (arith, length-append labels (y ∷ []))

pub with_label-longer : (labels : List (List ℕ)) (y : List ℕ) → length labels ≤ length (with_label labels y)
with_label-longer labels y = longer_if (list_any (λ l. bytes_eq l y) labels) labels y

-- labels that are all different
unfoldable pub Apart : List (List ℕ) → Type 0
Apart [] = Unit {0}
Apart (x ∷ xs) = (list_any (λ l. bytes_eq x l) xs ≡ false) × Apart xs

none_kept : (p q : List ℕ → Bool) (xs : List (List ℕ)) → list_any p xs ≡ false → list_any p (filter q xs) ≡ false
none_kept p q [] e = refl
none_kept p q (x ∷ xs) e =
    by_cases (p x) _
    (λ t. absurd (let bad = rw t at e in cc))
    (λ off.
    let rest = rw off at e in
    by_cases (q x) _
    (λ t. rw (t, off) (none_kept p q xs rest))
    (λ f. rw f (none_kept p q xs rest)))

apart_kept : (q : List ℕ → Bool) (xs : List (List ℕ)) → Apart xs → Apart (filter q xs)
unfolding Apart
apart_kept q [] h = tt
apart_kept q (x ∷ xs) h =
    by_cases (q x) _
    (λ t. rw t (none_kept (λ l. bytes_eq x l) q xs h.0, apart_kept q xs h.1))
    (λ f. rw f (apart_kept q xs h.1))

others : (p : List ℕ → Bool) (xs : List (List ℕ)) → list_any p (filter (λ y. not (p y)) xs) ≡ false
others p xs = any-filter_same p (λ y. not (p y)) false (λ k on. not_from_true (p k) on) xs

pub apart-distinct : (xs : List (List ℕ)) → Apart (distinct xs)
unfolding distinct Apart
apart-distinct [] = tt
apart-distinct (x ∷ xs) = (others (λ y. bytes_eq x y) (distinct xs), apart_kept (λ y. not (bytes_eq x y)) (distinct xs) (apart-distinct xs))

pub apart-labels : (records : List (List (List ℕ))) → Apart (labels_of records)
unfolding labels_of
apart-labels records = apart-distinct (flat_map (λ s. s) records)

none_at : (p : List ℕ → Bool) (xs : List (List ℕ)) (i : ℕ) → list_any p xs ≡ false → i < length xs → p (get_or xs i []) ≡ false
none_at p xs i e lt =
    by_cases (p (get_or xs i [])) _
    (λ t. absurd (let bad : true ≡ false = sym (list_any_at p xs i [] lt t) ∙ e in cc))
    (λ f. f)

-- equal labels stand at one place
pub apart-at : (xs : List (List ℕ)) (i j : ℕ) → Apart xs → i < length xs → j < length xs → get_or xs i [] ≡ get_or xs j [] → i ≡ j
unfolding Apart
apart-at [] i j h lo hi e = absurd (omega arith)
apart-at (x ∷ xs) zero zero h lo hi e = refl
apart-at (x ∷ xs) zero (suc j) h lo hi e =
    absurd (let bad : true ≡ false = sym (text_same x) ∙ ap (λ (y : List ℕ). bytes_eq x y) e ∙ none_at (λ l. bytes_eq x l) xs j h.0 (omega arith) in cc)
apart-at (x ∷ xs) (suc i) zero h lo hi e =
    absurd (let bad : true ≡ false = sym (text_same x) ∙ ap (λ (y : List ℕ). bytes_eq x y) (sym e) ∙ none_at (λ l. bytes_eq x l) xs i h.0 (omega arith) in cc)
apart-at (x ∷ xs) (suc i) (suc j) h lo hi e = ap suc (apart-at xs i j h.1 (omega arith) (omega arith) e)
