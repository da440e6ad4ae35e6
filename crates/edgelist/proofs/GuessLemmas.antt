-- Keys of short labels, and the entries with their numbers.
use Rattle.std.proofs.Common.{◌≡◌, ◌≢◌, ◌∙◌, ℕ, ◌+◌, ◌-◌, ◌*◌, ◌^◌, ◌<◌, ◌≤◌, true, false, ◌==◌, ◌&&◌, List, [], ◌∷◌, ◌++◌, length, get_or, set, take, drop, replicate, refl, ap, ap₂, arith, sym, subst, pow_mono}
use Rattle.std.specs.Prelude.{min, Option, None, Some}
use Rattle.std.specs.List.{list_any, All}
use Rattle.std.specs.Str.{bytes_eq}
use Rattle.std.proofs.lemmas.Nat.{pow-add}
use Rattle.std.proofs.lemmas.List.Folds.{list_any_at}
use Rattle.std.proofs.lemmas.List.Elements.{All-head, All-tail, All-take, All-drop, All-from_get_or}
use Rattle.std.proofs.lemmas.List.{length-take, length-drop, take-append-drop, get_or_default, get_or-set_same, get_or-set_other}
use Rattle.std.proofs.lemmas.Bool.{eqb-true, eq-eqb}
use Rattle.graph.specs.Finding.{StandsAt}
use Rattle.edgelist.specs.Guessing.{bytes_after, key_of, IsShort, IsKey, HasKey, IsGuess, AreGuesses, entry_key, blank_entry}
use Rattle.csv.specs.Records.{field_at}
use Rattle.edgelist.specs.declared.numbering.LabelGuess.{LabelGuess}
use Rattle.edgelist.specs.declared.key.LabelKey.{LabelKey}
use Rattle.graph.specs.Labels.{with_label}
use Rattle.edgelist.specs.Reading.{fields_with}
use Rattle.ball_model.proofs.BoolLemmas.{by_cases}
use Rattle.graph.proofs.LabelLemmas.{text_same}
use Rattle.graph.proofs.RangeLemmas.{copies-at}

abbrev IsByte : ℕ → Type 0
IsByte b = b < 256

-- lists that are as long give the same number only where they are the same
same-after : (v w : ℕ) (xs ys : List ℕ) → length xs ≡ length ys → All IsByte xs → All IsByte ys → bytes_after v xs ≡ bytes_after w ys → (v ≡ w) × (xs ≡ ys)
unfolding bytes_after
same-after v w [] [] long p q is = (is, refl)
same-after v w [] (y ∷ ys) long p q is = absurd (omega (arith, long))
same-after v w (x ∷ xs) [] long p q is = absurd (omega (arith, long))
same-after v w (x ∷ xs) (y ∷ ys) long p q is =
    let later : (v * 256 + x ≡ w * 256 + y) × (xs ≡ ys) = same-after (v * 256 + x) (w * 256 + y) xs ys (omega (arith, long)) (All-tail IsByte x xs p) (All-tail IsByte y ys q) is in
    let small : (x < 256) × (y < 256) = (All-head IsByte x xs p, All-head IsByte y ys q) in
    let same_digit : x ≡ y = omega (arith, later.0, small.0, small.1) in
    (omega (arith, later.0, small.0, small.1), rw (same_digit, later.1) refl)

-- short labels with the same key are the same
key-same : (a b : List ℕ) → IsShort a → IsShort b → key_of a ≡ key_of b → a ≡ b
key-same a b short_a short_b is =
    let low : bytes_after 0 (take 8 a) ≡ bytes_after 0 (take 8 b) = ap (λ (w : LabelKey). w.low) is in
    let high : bytes_after 0 (drop 8 a) * 256 + length a + 1 ≡ bytes_after 0 (drop 8 b) * 256 + length b + 1 = ap (λ (w : LabelKey). w.high) is in
    let long : length a ≡ length b = omega (arith, high, short_a.few, short_b.few) in
    let bytes_a : All IsByte a = All-from_get_or IsByte a 0 (λ i lt. short_a.bytes i) in
    let bytes_b : All IsByte b = All-from_get_or IsByte b 0 (λ i lt. short_b.bytes i) in
    let first = same-after 0 0 (take 8 a) (take 8 b) (length-take 8 a ∙ ap (λ n. min 8 n) long ∙ sym (length-take 8 b)) (All-take IsByte 8 a bytes_a) (All-take IsByte 8 b bytes_b) low in
    let rest = same-after 0 0 (drop 8 a) (drop 8 b) (length-drop 8 a ∙ ap (λ n. n - 8) long ∙ sym (length-drop 8 b)) (All-drop IsByte 8 a bytes_a) (All-drop IsByte 8 b bytes_b) (omega (arith, high, long)) in
    sym (take-append-drop 8 a) ∙ ap₂ (λ (xs ys : List ℕ). xs ++ ys) first.1 rest.1 ∙ take-append-drop 8 b

-- a byte more
pub digits-step : (w b i : ℕ) → w < 2 ^ (8 * i) → b < 256 → w * 256 + b < 2 ^ (8 * (i + 1))
digits-step w b i small byte =
    let at : 8 * (i + 1) ≡ 8 * i + 8 = omega arith in
    rw (at, pow-add 2 (8 * i) 8) (omega (arith, small, byte))

pub digits-fit : (i n : ℕ) → i ≤ n → 2 ^ (8 * i) ≤ 2 ^ (8 * n)
digits-fit i n le = pow_mono {i = 8 * i} {j = 8 * n} (omega (arith, le))

-- keys are the same where the test of their numbers says so
same-numbers : (a b : LabelKey) → ((a.low == b.low) && (a.high == b.high)) ≡ true → a ≡ b
same-numbers a b t =
    by_cases (a.low == b.low) _
    (λ low.
    let high : (a.high == b.high) ≡ true = rw low at t in
    let make : ℕ → ℕ → LabelKey = λ l h. record { low = l; high = h } in
    ap₂ make (eqb-true a.low b.low low) (eqb-true a.high b.high high))
    (λ f. absurd (let bad = rw f at t in cc))

-- an entry of the key of a label has its number
pub tells-one : (labels : List (List ℕ)) (label : List ℕ) (entry : LabelGuess) → IsShort label → StandsAt labels label entry.number → entry_key entry ≡ key_of label → IsGuess labels entry
tells-one labels label entry short stands told other shorter is =
    subst (λ (l : List ℕ). StandsAt labels l entry.number) (sym (key-same other label shorter short (is ∙ told))) stands

-- a blank entry is of no label
tells-none : (labels : List (List ℕ)) → IsGuess labels blank_entry
tells-none labels label short is = absurd (let none : bytes_after 0 (drop 8 label) * 256 + length label + 1 ≡ 0 = ap (λ (w : LabelKey). w.high) is in omega (arith, none))

pub told-blank : (labels : List (List ℕ)) (n : ℕ) → AreGuesses labels (replicate n blank_entry)
told-blank labels n = record { each = λ i. rw (copies-at n i blank_entry) (tells-none labels) }

pub told-set : (labels : List (List ℕ)) (entries : List LabelGuess) (i : ℕ) (e : LabelGuess) → i < length entries → AreGuesses labels entries → IsGuess labels e → AreGuesses labels (set entries i e)
told-set labels entries i e lt told tells = record {
  each = λ k. by_cases (k == i) _
      (λ t.
      let at : k ≡ i = eqb-true k i t in
      let now : get_or (set entries i e) k blank_entry ≡ e = rw at (get_or-set_same entries i e blank_entry lt) in
      rw now tells)
      (λ f.
      let apart : k ≢ i = λ bad. absurd (let no_ : true ≡ false = sym (eq-eqb i i refl) ∙ ap (λ (j : ℕ). j == i) (sym bad) ∙ f in cc) in
      let kept : get_or (set entries i e) k blank_entry ≡ get_or entries k blank_entry = rw get_or-set_other refl in
      rw kept (told.each k));
}

-- an entry with the key of a label has its number
pub told-at : (labels : List (List ℕ)) (entries : List LabelGuess) (label : List ℕ) (key : LabelKey) (i : ℕ) (e d : LabelGuess) → e ≡ get_or entries i d → i < length entries → AreGuesses labels entries → IsShort label → key ≡ key_of label
    → ((e.low == key.low) && (e.high == key.high)) ≡ true → StandsAt labels label e.number
told-at labels entries label key i e d is lt told short key_is t =
    let here : e ≡ get_or entries i blank_entry = is ∙ get_or_default entries i d blank_entry lt in
    let tells : IsGuess labels e = rw here (told.each i) in
    tells label short (sym key_is ∙ sym (same-numbers (entry_key e) key t))

-- the labels have the one that stands at a number
pub with-label-at : (labels : List (List ℕ)) (label : List ℕ) (i : ℕ) → StandsAt labels label i → labels ≡ with_label labels label
with-label-at labels label i stands =
    let known : list_any (λ k. bytes_eq k label) labels ≡ true = list_any_at (λ k. bytes_eq k label) labels i [] stands.within (rw stands.is (text_same label)) in
    rw known refl

-- a record of no fields has no keys
pub no-key : (fs : List (List ℕ)) (i : ℕ) (w : LabelKey) → fs ≡ [] → HasKey fs i w
unfolding field_at
no-key fs i w is = subst (λ (r : List (List ℕ)). HasKey r i w) (sym is) tt

-- the keys of a record are those of its labels
pub source-key : (fs : List (List ℕ)) (s : List ℕ) (t : Option (List ℕ)) (w : LabelKey) → fs ≡ fields_with s t → HasKey fs 0 w → IsKey s w
unfolding field_at
source-key fs s None w is has = subst (λ (r : List (List ℕ)). HasKey r 0 w) is has
source-key fs s (Some t) w is has = subst (λ (r : List (List ℕ)). HasKey r 0 w) is has

-- and the other way round
pub has-source : (fs : List (List ℕ)) (s : List ℕ) (t : Option (List ℕ)) (w : LabelKey) → fs ≡ fields_with s t → IsKey s w → HasKey fs 0 w
unfolding field_at
has-source fs s None w is key = subst (λ (r : List (List ℕ)). HasKey r 0 w) (sym is) key
has-source fs s (Some t) w is key = subst (λ (r : List (List ℕ)). HasKey r 0 w) (sym is) key

pub has-no-target : (fs : List (List ℕ)) (s : List ℕ) (w : LabelKey) → fs ≡ s ∷ [] → HasKey fs 1 w
unfolding field_at
has-no-target fs s w is = subst (λ (r : List (List ℕ)). HasKey r 1 w) (sym is) tt

pub has-target : (fs : List (List ℕ)) (s t : List ℕ) (w : LabelKey) → fs ≡ s ∷ t ∷ [] → IsKey t w → HasKey fs 1 w
unfolding field_at
has-target fs s t w is key = subst (λ (r : List (List ℕ)). HasKey r 1 w) (sym is) key

pub target-key : (fs : List (List ℕ)) (s t : List ℕ) (w : LabelKey) → fs ≡ s ∷ t ∷ [] → HasKey fs 1 w → IsKey t w
unfolding field_at
target-key fs s t w is has = subst (λ (r : List (List ℕ)). HasKey r 1 w) is has
