-- Places by their lowest 32 bits.
use Rattle.std.proofs.Common.{◌≡◌, ℕ, zero, suc, ◌+◌, ◌-◌, ◌*◌, ◌/◌, ◌%◌, ◌^◌, ◌<◌, ◌≤◌, true, cond, leb, List, [], ◌∷◌, ◌++◌, length, get_or, refl, ap, subst, ◌∙◌, arith, length-append}
use Rattle.std.specs.Prelude.{replicate}
use Rattle.std.specs.List.{AllByRecursion}
use Rattle.std.proofs.lemmas.Bool.{le-leb, lt-leb}
use Rattle.std.proofs.lemmas.List.Sums.{sum_by-cons, sum_by-append}
use Rattle.gapcode.specs.Places.{marks_up_to, places_from, AreMarks}

passed-cons : (i mark : ℕ) (marks : List ℕ) → marks_up_to i (mark ∷ marks) ≡ cond (leb mark i) 1 0 + marks_up_to i marks
passed-cons i mark marks = sum_by-cons (λ m. cond (leb m i) 1 0) mark marks

passed-all : (i n : ℕ) (marks : List ℕ) → n ≤ i + 1 → AllByRecursion (λ mark. mark < n) marks → marks_up_to i marks ≡ length marks
passed-all i n [] le h = refl
passed-all i n (mark ∷ marks) le h =
    let one : leb mark i ≡ true = le-leb mark i (omega (arith, h.0)) in
    passed-cons i mark marks ∙ rw one (omega (arith, passed-all i n marks le h.1))

passed-late : (i k mark : ℕ) → i < mark → marks_up_to i (replicate k mark) ≡ 0
passed-late i zero mark lt = refl
passed-late i (suc k) mark lt =
    passed-cons i mark (replicate k mark) ∙ rw (lt-leb mark i lt) (omega (arith, passed-late i k mark lt))

passed-now : (i k : ℕ) → marks_up_to i (replicate k i) ≡ k
passed-now i zero = refl
passed-now i (suc k) =
    passed-cons i i (replicate k i) ∙ rw (le-leb i i (omega arith)) (omega (arith, passed-now i k))

passed-append : (i : ℕ) (xs ys : List ℕ) → marks_up_to i (xs ++ ys) ≡ marks_up_to i xs + marks_up_to i ys
passed-append i xs ys = sum_by-append (λ m. cond (leb m i) 1 0) xs ys

-- ---- the places

pub length-places : (i : ℕ) (marks lows : List ℕ) → length (places_from i marks lows) ≡ length lows
unfolding places_from
length-places i marks [] = refl
length-places i marks (low ∷ lows) = ap suc (length-places (i + 1) marks lows)

pub place-at : (i k : ℕ) (marks lows : List ℕ) → k < length lows → get_or (places_from i marks lows) k 0 ≡ get_or lows k 0 + 4294967296 * marks_up_to (i + k) marks
unfolding places_from
place-at i k marks [] lt = absurd (omega arith)
place-at i zero marks (low ∷ lows) lt = let e : i + 0 ≡ i = omega arith in rw e refl
place-at i (suc k) marks (low ∷ lows) lt = let e : i + suc k ≡ i + 1 + k = omega arith in rw e (place-at (i + 1) k marks lows (omega arith))

places-late : (i k mark : ℕ) (marks lows : List ℕ) → i + length lows ≤ mark → places_from i (marks ++ replicate k mark) lows ≡ places_from i marks lows
unfolding places_from
places-late i k mark marks [] le = refl
places-late i k mark marks (low ∷ lows) le =
    let same : marks_up_to i (marks ++ replicate k mark) ≡ marks_up_to i marks = passed-append i marks (replicate k mark) ∙ omega (arith, passed-late i k mark (omega arith)) in
    rw (same, places-late (i + 1) k mark marks lows (omega arith)) refl

places-append : (i low : ℕ) (marks lows : List ℕ) → places_from i marks (lows ++ low ∷ []) ≡ places_from i marks lows ++ (low + 4294967296 * marks_up_to (i + length lows) marks) ∷ []
unfolding places_from
places-append i low marks [] = let e : i + 0 ≡ i = omega arith in rw e refl
places-append i low marks (l ∷ lows) =
    let e : i + suc (length lows) ≡ i + 1 + length lows = omega arith in
    rw (e, places-append (i + 1) low marks lows) refl

-- ---- one place

pub at_is : (lows marks : List ℕ) (i low count : ℕ) → i < length lows → low ≡ get_or lows i 0 → count ≡ marks_up_to i marks → count < 2 ^ 64
    → low + count * 4294967296 % 340282366920938463463374607431768211456 ≡ get_or (places_from 0 marks lows) i 0
at_is lows marks i low count lt is many small =
    let e : 0 + i ≡ i = omega arith in
    let at = place-at 0 i marks lows lt in
    omega (arith, subst (λ (k : ℕ). get_or (places_from 0 marks lows) i 0 ≡ get_or lows i 0 + 4294967296 * marks_up_to k marks) e at, is, many, small)

-- ---- one place more

pub marks_few : (place : ℕ) (lows marks : List ℕ) → AreMarks lows marks → get_or (places_from 0 marks lows) (length (places_from 0 marks lows) - 1) 0 ≤ place → length marks ≤ place / 4294967296
marks_few place lows [] ok le = omega arith
marks_few place [] (mark ∷ marks) ok le = absurd (omega (arith, ok.0))
marks_few place (low ∷ lows) (mark ∷ marks) ok le =
    let ms = mark ∷ marks in
    let ls = low ∷ lows in
    let last = length (places_from 0 ms ls) - 1 in
    let long = length-places 0 ms ls in
    let at = place-at 0 last ms ls (omega (arith, long)) in
    let all = passed-all (0 + last) (length ls) ms (omega (arith, long)) ok in
    omega (arith, at, all, le)

more_marks : (n m k mark : ℕ) (marks : List ℕ) → n ≤ m → mark < m → AllByRecursion (λ x. x < n) marks → AllByRecursion (λ x. x < m) (marks ++ replicate k mark)
more_marks n m zero mark [] le lt ok = tt
more_marks n m (suc k) mark [] le lt ok = (lt, more_marks n m k mark [] le lt tt)
more_marks n m k mark (x ∷ marks) le lt ok = (omega (arith, ok.0), more_marks n m k mark marks le lt ok.1)

pub push_marks : (lows marks : List ℕ) (low k : ℕ) → AreMarks lows marks → AreMarks (lows ++ low ∷ []) (marks ++ replicate k (length lows))
push_marks lows marks low k ok =
    let long : length (lows ++ low ∷ []) ≡ length lows + 1 = length-append lows (low ∷ []) in
    more_marks (length lows) (length (lows ++ low ∷ [])) k (length lows) marks (omega arith) (omega arith) ok

pub push_is : (lows marks : List ℕ) (place : ℕ) → AreMarks lows marks → get_or (places_from 0 marks lows) (length (places_from 0 marks lows) - 1) 0 ≤ place
    → places_from 0 (marks ++ replicate (place / 4294967296 - length marks) (length lows)) (lows ++ (place % 4294967296) ∷ []) ≡ places_from 0 marks lows ++ place ∷ []
push_is lows marks place ok le =
    let k = place / 4294967296 - length marks in
    let i = length lows in
    let ms = marks ++ replicate k i in
    let few = marks_few place lows marks ok le in
    let e : 0 + i ≡ i = omega arith in
    let all : marks_up_to i ms ≡ place / 4294967296 = passed-append i marks (replicate k i) ∙ omega (arith, passed-all i i marks (omega arith) ok, passed-now i k) in
    let last : place % 4294967296 + 4294967296 * marks_up_to (0 + i) ms ≡ place = rw (e, all) (omega arith) in
    places-append 0 (place % 4294967296) ms lows ∙ rw (last, places-late 0 k i marks lows (omega arith)) refl
