-- Records that were cut into their fields.
use Rattle.std.proofs.Common.{◌≡◌, ◌∙◌, ℕ, ◌-◌, ◌<◌, ◌≤◌, true, false, List, [], ◌∷◌, ◌++◌, length, map, take, drop, get_or, refl, ap, arith, tests, sym, subst, Some, None}
use Rattle.std.specs.Prelude.{Option, slice_range, nat_lt}
use Rattle.std.specs.List.{All}
use Rattle.std.proofs.lemmas.List.{append_assoc, drop-append-le, get_or-map, length-append, length-drop, length-map, length-take-le, map-append, take-append-le, take_all}
use Rattle.std.proofs.lemmas.List.Elements.{All-from_get_or, All-head, All-push, All-tail}
use Rattle.std.proofs.Math.Seq.{drop-append_seam, take-append_seam}
use Rattle.ball_model.proofs.BoolLemmas.{by_cases}
use Rattle.edgelist.specs.Cutting.{Extends, IsCut, cut_fields, field_or_none, second_of}
use Rattle.edgelist.specs.Guessing.{HasKey, IsKey}
use Rattle.edgelist.specs.Reading.{fields_with}
use Rattle.edgelist.specs.Records.{HasForm}
use Rattle.edgelist.specs.declared.cut.CutRecord.{CutRecord}
use Rattle.edgelist.specs.declared.key.LabelKey.{LabelKey}
use Rattle.edgelist.proofs.GuessLemmas.{has-no-target, has-source, has-target, source-key, target-key}

-- ---- where a field stands

range-kept : (b more : List ℕ) (i j : ℕ) → i ≤ j → j ≤ length b → slice_range (b ++ more) i j ≡ slice_range b i j
range-kept b more i j le within =
    ap (λ (l : List ℕ). take (j - i) l) (drop-append-le i b more (omega (arith, le, within)))
    ∙ take-append-le (j - i) (drop i b) more (omega (arith, le, within, length-drop i b))

range-first : (b s t : List ℕ) (i j : ℕ) → i ≡ length b → j ≡ length (b ++ s) → slice_range ((b ++ s) ++ t) i j ≡ s
range-first b s t i j at end =
    let long : j - i ≡ length s = omega (arith, at, end, length-append b s) in
    rw (long, at, append_assoc b s t, drop-append_seam b (s ++ t)) (take-append_seam s t)

range-second : (c t : List ℕ) (j k : ℕ) → j ≡ length c → k ≡ length (c ++ t) → slice_range (c ++ t) j k ≡ t
range-second c t j k at end =
    let long : k - j ≡ length t = omega (arith, at, end, length-append c t) in
    rw (long, at, drop-append_seam c t) (take_all (length t) t (omega arith))

-- ---- records stay where they are

fields-kept : (b more : List ℕ) (r : CutRecord) → IsCut b r → cut_fields (b ++ more) r ≡ cut_fields b r
fields-kept b more r h =
    let first = range-kept b more r.start r.middle (let lt = h.first in omega (arith, lt)) (let le = h.second in let most = h.within in omega (arith, le, most)) in
    let second = range-kept b more r.middle r.end h.second h.within in
    rw (first, second) refl

cut-kept : (b more : List ℕ) (r : CutRecord) → IsCut b r → IsCut (b ++ more) r
cut-kept b more r h =
    let lt = h.first in
    let le = h.second in
    let most = h.within in
    record {
      first = h.first;
      second = h.second;
      within = omega (arith, most, length-append b more);
      source = subst (λ (l : List ℕ). IsKey l r.source) (sym (range-kept b more r.start r.middle (omega (arith, lt)) (omega (arith, le, most)))) h.source;
      target = λ more_is. subst (λ (l : List ℕ). IsKey l r.target) (sym (range-kept b more r.middle r.end h.second h.within)) (h.target more_is);
    }

pub all-kept : (b c : List ℕ) (rs : List CutRecord) → Extends b c → All (IsCut b) rs → All (IsCut c) rs
all-kept b c rs e all k d lt = rw e.is (cut-kept b e.more (get_or rs k d) (all k d lt))

map-kept : (b more : List ℕ) (rs : List CutRecord) → All (IsCut b) rs → map (cut_fields (b ++ more)) rs ≡ map (cut_fields b) rs
map-kept b more [] all = refl
map-kept b more (r ∷ rs) all = rw (fields-kept b more r (All-head (IsCut b) r rs all), map-kept b more rs (All-tail (IsCut b) r rs all)) refl

-- a record more
pub all-pushed : (b c : List ℕ) (rs : List CutRecord) (r : CutRecord) → Extends b c → All (IsCut b) rs → IsCut c r → All (IsCut c) (rs ++ r ∷ [])
all-pushed b c rs r e all one = All-push (IsCut c) rs r (all-kept b c rs e all) one

pub fields-pushed : (b c : List ℕ) (rs : List CutRecord) (r : CutRecord) (row : List (List ℕ)) → Extends b c → All (IsCut b) rs → cut_fields c r ≡ row →
    map (cut_fields c) (rs ++ r ∷ []) ≡ map (cut_fields b) rs ++ row ∷ []
fields-pushed b c rs r row e all is =
    map-append (cut_fields c) rs (r ∷ [])
    ∙ ap (λ (f : List (List ℕ)). map (cut_fields c) rs ++ f ∷ []) is
    ∙ ap (λ (fs : List (List (List ℕ))). fs ++ row ∷ []) (rw e.is (map-kept b e.more rs all))

-- ---- a record that is put behind the bytes

abbrev made : ℕ → ℕ → ℕ → LabelKey → LabelKey → CutRecord
made i j k v w = record { start = i; middle = j; end = k; source = v; target = w }

empty-second : (s : List ℕ) → HasForm (fields_with s (Some [])) → ⊥
empty-second [] bad = let wrong : false ≡ true = bad in cc
empty-second (x ∷ s) bad = let wrong : false ≡ true = bad in cc

pub cut-fields-made : (b s : List ℕ) (o : Option (List ℕ)) (i j k : ℕ) (v w : LabelKey) → HasForm (fields_with s o) → i ≡ length b → j ≡ length (b ++ s) → k ≡ length ((b ++ s) ++ field_or_none o) →
    cut_fields ((b ++ s) ++ field_or_none o) (made i j k v w) ≡ fields_with s o
cut-fields-made b s None i j k v w form at middle end =
    let none : nat_lt j k ≡ false = search (tests, arith, middle, end, length-append (b ++ s) []) in
    rw (none, range-first b s [] i j at middle) refl
cut-fields-made b s (Some []) i j k v w form at middle end = absurd (empty-second s form)
cut-fields-made b s (Some (x ∷ t)) i j k v w form at middle end =
    let some : nat_lt j k ≡ true = search (tests, arith, middle, end, length-append (b ++ s) (x ∷ t)) in
    rw (some, range-first b s (x ∷ t) i j at middle, range-second (b ++ s) (x ∷ t) j k middle end) refl

filled : (s : List ℕ) (o : Option (List ℕ)) → HasForm (fields_with s o) → 0 < length s
filled [] None bad = absurd (let wrong : false ≡ true = bad in cc)
filled [] (Some t) bad = absurd (let wrong : false ≡ true = bad in cc)
filled (x ∷ s) o form = omega arith

key-of-second : (b s : List ℕ) (o : Option (List ℕ)) (j k : ℕ) (row : List (List ℕ)) (w : LabelKey) → j ≡ length (b ++ s) → k ≡ length ((b ++ s) ++ field_or_none o) → row ≡ fields_with s o → HasKey row 1 w → j < k →
    IsKey (slice_range ((b ++ s) ++ field_or_none o) j k) w
key-of-second b s None j k row w middle end is has lt = absurd (omega (arith, middle, end, length-append (b ++ s) []))
key-of-second b s (Some t) j k row w middle end is has lt = rw (range-second (b ++ s) t j k middle end) (target-key row s t w is has)

pub cut-made : (b s : List ℕ) (o : Option (List ℕ)) (i j k : ℕ) (row : List (List ℕ)) (v w : LabelKey) → HasForm (fields_with s o) → i ≡ length b → j ≡ length (b ++ s) → k ≡ length ((b ++ s) ++ field_or_none o) →
    row ≡ fields_with s o → HasKey row 0 v → HasKey row 1 w → IsCut ((b ++ s) ++ field_or_none o) (made i j k v w)
cut-made b s o i j k row v w form at middle end is first second =
    let some = filled s o form in
    record {
      first = omega (arith, at, middle, some, length-append b s);
      second = omega (arith, middle, end, length-append (b ++ s) (field_or_none o));
      within = omega (arith, end);
      source = rw (range-first b s (field_or_none o) i j at middle) (source-key row s o v is first);
      target = λ lt. key-of-second b s o j k row w middle end is second lt;
    }

-- ---- a record that was cut

pub at-record : (b : List ℕ) (rs : List CutRecord) (i : ℕ) (r : CutRecord) → i < length rs → r ≡ get_or rs i r → get_or (map (cut_fields b) rs) i [] ≡ cut_fields b r
at-record b rs i r lt here = get_or-map (cut_fields b) rs i r [] lt ∙ ap (cut_fields b) (sym here)

pub record-cut : (b : List ℕ) (rs : List CutRecord) (i : ℕ) (r : CutRecord) → i < length rs → r ≡ get_or rs i r → All (IsCut b) rs → IsCut b r
record-cut b rs i r lt here all = subst (IsCut b) (sym here) (all i r lt)

long-range : (b : List ℕ) (i j : ℕ) → i < j → j ≤ length b → 0 < length (slice_range b i j)
long-range b i j lt within =
    let long : length (take (j - i) (drop i b)) ≡ j - i = length-take-le (j - i) (drop i b) (omega (arith, lt, within, length-drop i b)) in
    omega (arith, lt, long)

form-one : (s : List ℕ) → 0 < length s → HasForm (s ∷ [])
form-one [] lt = absurd (omega arith)
form-one (x ∷ s) lt = refl

form-two : (s t : List ℕ) → 0 < length s → 0 < length t → HasForm (s ∷ t ∷ [])
form-two [] t lt some = absurd (omega arith)
form-two (x ∷ s) [] lt some = absurd (omega arith)
form-two (x ∷ s) (y ∷ t) lt some = refl

-- its form, and the keys of its fields
form-cut : (b : List ℕ) (r : CutRecord) → IsCut b r → HasForm (cut_fields b r)
form-cut b r h =
    let lt = h.first in
    let le = h.second in
    let most = h.within in
    let first = long-range b r.start r.middle h.first (omega (arith, le, most)) in
    by_cases (nat_lt r.middle r.end) _
    (λ t. let more : r.middle < r.end = search (tests, arith, t) in rw t (form-two (slice_range b r.start r.middle) (slice_range b r.middle r.end) first (long-range b r.middle r.end more h.within)))
    (λ f. rw f (form-one (slice_range b r.start r.middle) first))

pub form-all : (b : List ℕ) (rs : List CutRecord) → All (IsCut b) rs → All HasForm (map (cut_fields b) rs)
form-all b [] all = All-from_get_or HasForm [] [] (λ i lt. absurd (omega arith))
form-all b (r ∷ rs) all =
    All-from_get_or HasForm (map (cut_fields b) (r ∷ rs)) [] (λ i lt.
    let long : length (map (cut_fields b) (r ∷ rs)) ≡ length (r ∷ rs) = simp length-map in
    let within : i < length (r ∷ rs) = omega (arith, lt, long) in
    subst HasForm (sym (get_or-map (cut_fields b) (r ∷ rs) i r [] within)) (form-cut b (get_or (r ∷ rs) i r) (all i r within)))

pub first-key : (b : List ℕ) (r : CutRecord) (fs : List (List ℕ)) → fs ≡ cut_fields b r → IsCut b r → HasKey fs 0 r.source
first-key b r fs is h = has-source fs (slice_range b r.start r.middle) (second_of b r) r.source is h.source

pub second-key : (b : List ℕ) (r : CutRecord) (fs : List (List ℕ)) → fs ≡ cut_fields b r → IsCut b r → HasKey fs 1 r.target
second-key b r fs is h =
    by_cases (nat_lt r.middle r.end) _
    (λ t.
    let more : r.middle < r.end = search (tests, arith, t) in
    has-target fs (slice_range b r.start r.middle) (slice_range b r.middle r.end) r.target (rw t at is) (h.target more))
    (λ f. has-no-target fs (slice_range b r.start r.middle) r.target (rw f at is))
