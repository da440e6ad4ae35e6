-- Rows that are raised by others, all at once or piece by piece.
use Rattle.std.proofs.Common.{◌≡◌, ◌∙◌, ◌+◌, ◌-◌, ◌^◌, ◌<◌, ◌≤◌, ℕ, zero, suc, List, [], ◌∷◌, ◌++◌, Bool, false, map, length, take, drop, get_or, set, refl, sym, ap, arith, take-take, drop-cons, inl, inr}
use Rattle.std.specs.Prelude.{◌↔◌, ◌||◌, nat_lt, max, cond}
use Rattle.std.specs.List.{All, range_with_len}
use Rattle.std.specs.Simd.Lanes.{chunk, put_chunk, sel_l, top, zip2}
use Rattle.std.proofs.lemmas.Bool.{cases_Bool, ltb-true, ltb-false}
use Rattle.std.proofs.lemmas.Grind.{same_number_lists}
use Rattle.std.proofs.lemmas.List.{map-append, take_all, take_more}
use Rattle.std.proofs.lemmas.List.FromFn.{get_or-map-range_with_len}
use Rattle.std.proofs.lemmas.Simd.{length-chunk, map-map}
use mir.Syntax.{w8}
use mir.Val.{bits, hbits}
use Rattle.ball_model.specs.Counter.{max_each}
use Rattle.registers.specs.Laws.{max_each-associates, max_each-repeats}
use Rattle.registers.specs.Raised.{raised_over, RaisesPiece, rows_at}
use Rattle.registers.proofs.LaneLemmas.{max-lanes}
use Rattle.registers.proofs.MaxLemmas.{length-max_each}
use Rattle.registers.proofs.UptoLemmas.{rises, rises-chunk, upto, upto-all, upto-chunk, upto-drop}

-- ---- a row that is raised by others
pub raised-here : (row : List ℕ) → raised_over row [] ≡ row
unfolding raised_over
raised-here row = refl

-- by more
pub raised-append : (row : List ℕ) (xs ys : List (List ℕ)) → raised_over row (xs ++ ys) ≡ raised_over (raised_over row xs) ys
unfolding raised_over
raised-append row [] ys = refl
raised-append row (x ∷ xs) ys = raised-append (max_each row x) xs ys

pub raised-last : (row x : List ℕ) (xs : List (List ℕ)) → raised_over row (xs ++ x ∷ []) ≡ max_each (raised_over row xs) x
unfolding raised_over
raised-last row x xs = raised-append row xs (x ∷ [])

-- by those of the first things, and by that of one more
pub raised_by_more : {X : Type 0} (f : X → List ℕ) (row : List ℕ) (xs : List X) (k : ℕ) (d : X) → k < length xs →
    max_each (raised_over row (map f (take k xs))) (f (get_or xs k d)) ≡ raised_over row (map f (take (k + 1) xs))
raised_by_more f row xs k d lt =
    sym (raised-last row (f (get_or xs k d)) (map f (take k xs)))
    ∙ ap (raised_over row) (sym (ap (map f) (take_more xs k d lt) ∙ map-append f (take k xs) (get_or xs k d ∷ [])))

-- what is above a row stays so
pub raised-above : (row acc : List ℕ) (others : List (List ℕ)) → max_each row acc ≡ acc → max_each row (raised_over acc others) ≡ raised_over acc others
unfolding raised_over
raised-above row acc [] above = above
raised-above row acc (other ∷ rest) above =
    raised-above row (max_each acc other) rest (sym (max_each-associates row acc other) ∙ ap (λ a. max_each a other) above)

pub length-raised : (row : List ℕ) (others : List (List ℕ)) → All (λ other. length other ≡ length row) others → length (raised_over row others) ≡ length row
unfolding raised_over
length-raised row [] long = refl
length-raised row (other ∷ rest) long =
    let here : length other ≡ length row = long 0 [] (omega arith) in
    let first : length (max_each row other) ≡ length row = omega (arith, length-max_each row other, here) in
    length-raised (max_each row other) rest (λ k d lt. long (suc k) d (omega arith) ∙ sym first) ∙ first

-- ---- its pieces
take-max_each : (n : ℕ) (xs ys : List ℕ) → take n (max_each xs ys) ≡ max_each (take n xs) (take n ys)
take-max_each zero xs ys = refl
take-max_each (suc n) [] ys = refl
take-max_each (suc n) (x ∷ xs) [] = refl
take-max_each (suc n) (x ∷ xs) (y ∷ ys) = ap (λ (l : List ℕ). max x y ∷ l) (take-max_each n xs ys)

none-max_each : (xs : List ℕ) → max_each xs [] ≡ []
none-max_each [] = refl
none-max_each (x ∷ xs) = refl

drop-max_each : (i : ℕ) (xs ys : List ℕ) → drop i (max_each xs ys) ≡ max_each (drop i xs) (drop i ys)
drop-max_each zero xs ys = refl
drop-max_each (suc i) [] ys = refl
drop-max_each (suc i) (x ∷ xs) [] = sym (none-max_each (drop i xs))
drop-max_each (suc i) (x ∷ xs) (y ∷ ys) = drop-max_each i xs ys

chunk-max_each : (i n : ℕ) (xs ys : List ℕ) → chunk i n (max_each xs ys) ≡ max_each (chunk i n xs) (chunk i n ys)
chunk-max_each i n xs ys = ap (take n) (drop-max_each i xs ys) ∙ take-max_each n (drop i xs) (drop i ys)

-- a piece of it is raised by the pieces of the others
pub chunk-raised : (i n : ℕ) (row : List ℕ) (others : List (List ℕ)) → raised_over (chunk i n row) (map (chunk i n) others) ≡ chunk i n (raised_over row others)
unfolding raised_over
chunk-raised i n row [] = refl
chunk-raised i n row (other ∷ rest) =
    ap (λ a. raised_over a (map (chunk i n) rest)) (sym (chunk-max_each i n row other)) ∙ chunk-raised i n (max_each row other) rest

-- which is its maximum with that of the whole
pub piece_is : (i n : ℕ) (row : List ℕ) (others : List (List ℕ)) → raised_over (chunk i n row) (map (chunk i n) others) ≡ max_each (chunk i n row) (chunk i n (raised_over row others))
piece_is i n row others =
    chunk-raised i n row others ∙ ap (chunk i n) (sym (raised-above row row others (max_each-repeats row))) ∙ chunk-max_each i n row (raised_over row others)

-- a row whose places below i are raised, and of which a piece from there on is raised too; and whether one of them rose
pub piece_raised : (i n : ℕ) (first row new : List ℕ) (others : List (List ℕ)) (was now : Bool) → All (λ other. length other ≡ length first) others → i + n ≤ length first →
    row ≡ upto i first (raised_over first others) → was ≡ rises i first (raised_over first others) → RaisesPiece i n others row new now →
    (new ≡ upto (i + n) first (raised_over first others)) × ((was || now) ≡ rises (i + n) first (raised_over first others))
piece_raised i n first row new others was now long le raised told piece =
    let last = raised_over first others in
    let same : length first ≡ length last = sym (length-raised first others long) in
    let here : chunk i n row ≡ chunk i n first = ap (chunk i n) raised ∙ ap (take n) (upto-drop i first last) in
    let is : raised_over (chunk i n row) (map (chunk i n) others) ≡ max_each (chunk i n row) (chunk i n last) =
    rw here (piece_is i n first others) in (
      piece.row ∙ ap (put_chunk i row) is ∙ rw raised (upto-chunk i n first last same le),
      rises-chunk was now i n first last same le told (rw (is, raised) at piece.unchanged),
    )

-- a row of which all places are raised
pub all_raised : (i : ℕ) (first row : List ℕ) (others : List (List ℕ)) → All (λ other. length other ≡ length first) others → i ≡ length first →
    row ≡ upto i first (raised_over first others) → row ≡ raised_over first others
all_raised i first row others long end raised =
    raised ∙ ap (λ k. upto k first (raised_over first others)) end ∙ upto-all first (raised_over first others) (sym (length-raised first others long))
    ∙ raised-above first first others (max_each-repeats first)

-- ---- a piece, other by other
-- the first k of the others are all of them, if there are at most k
pub raised_by_all : {X : Type 0} (view : X → List ℕ) (i n : ℕ) (row : List ℕ) (xs : List X) (k : ℕ) → length xs ≤ k →
    raised_over row (map (λ x. chunk i n (view x)) (take k xs)) ≡ raised_over row (map (chunk i n) (map view xs))
raised_by_all view i n row xs k all =
    ap (raised_over row) (ap (map (λ x. chunk i n (view x))) (take_all k xs all) ∙ sym (map-map (chunk i n) view xs))

-- lanes of one more
pub lanes_more : (i n : ℕ) (lanes other : List ℕ) → length lanes ≡ n → i + n ≤ length other →
    sel_l (map (top (hbits w8)) (zip2 (λ a b. cond (nat_lt a b) (2 ^ bits w8 - 1) 0) lanes (chunk 0 n (take (length other - i) (drop i other))))) (chunk 0 n (take (length other - i) (drop i other))) lanes
    ≡ max_each lanes (chunk i n other)
lanes_more i n lanes other long fits =
    let same : chunk 0 n (take (length other - i) (drop i other)) ≡ chunk i n other =
    take-take n (length other - i) (drop i other) (omega (arith, fits)) in
    rw same (max-lanes lanes (chunk i n other) (omega (arith, long, length-chunk i n other fits)))

-- one register of one more
pub chunk-one : (i : ℕ) (xs : List ℕ) → i < length xs → chunk i 1 xs ≡ get_or xs i 0 ∷ []
chunk-one i xs lt = ap (take 1) (drop-cons xs i 0 lt)

pub register_more : (i most : ℕ) (piece other : List ℕ) → i < length other → most ∷ [] ≡ piece → max most (get_or other i 0) ∷ [] ≡ max_each piece (chunk i 1 other)
register_more i most piece other lt is = rw (sym is, chunk-one i other lt) refl

set-chunk : (i : ℕ) (xs : List ℕ) (x : ℕ) → i < length xs → set xs i x ≡ put_chunk i xs (x ∷ [])
set-chunk i [] x lt = absurd (omega arith)
set-chunk zero (y ∷ []) x lt = refl
set-chunk zero (y ∷ z ∷ ys) x lt = refl
set-chunk (suc i) (y ∷ ys) x lt = ap (λ (l : List ℕ). y ∷ l) (set-chunk i ys x (omega arith))

-- a number that is at least another is that one or greater
rose_or_same : (old most : ℕ) → old ≤ most → (nat_lt old most ≡ false) ↔ (most ∷ [] ≡ old ∷ [])
rose_or_same old most le = (
  λ stays. let below = ltb-false old most stays in ap (λ (n : ℕ). n ∷ []) (omega (arith, below, le)),
  λ same. elim (cases_Bool (nat_lt old most)) [
    | inl t ↦ absurd (let above = ltb-true old most t in let e : most ≡ old = cc same in omega (arith, above, e))
    | inr f ↦ f
  ],
)

pub register_raised : (i most : ℕ) (row : List ℕ) (others : List (List ℕ)) → i < length row → most ∷ [] ≡ raised_over (chunk i 1 row) (map (chunk i 1) others) →
    RaisesPiece i 1 others row (set row i most) (nat_lt (get_or row i 0) most)
register_raised i most row others lt is =
    let old : chunk i 1 row ≡ get_or row i 0 ∷ [] = chunk-one i row lt in
    let above : max_each (chunk i 1 row) (raised_over (chunk i 1 row) (map (chunk i 1) others)) ≡ raised_over (chunk i 1 row) (map (chunk i 1) others) =
    raised-above (chunk i 1 row) (chunk i 1 row) (map (chunk i 1) others) (max_each-repeats (chunk i 1 row)) in
    let both : max (get_or row i 0) most ∷ [] ≡ most ∷ [] = rw (sym is, old) at above in
    let le : max (get_or row i 0) most ≡ most = cc both in
    record {
      row = set-chunk i row most lt ∙ ap (put_chunk i row) is;
      unchanged = rw (sym is, old) (rose_or_same (get_or row i 0) most (omega (arith, le)));
    }

-- ---- eight others
-- eight numbers, one by one
eight_are : (xs : List ℕ) → length xs ≡ 8 → xs ≡ map (λ k. get_or xs k 0) (range_with_len 0 8)
eight_are xs long =
    same_number_lists xs (map (λ k. get_or xs k 0) (range_with_len 0 8)) long
    (λ k lt. sym (get_or-map-range_with_len (λ j. get_or xs j 0) 0 8 k k 0 (omega (arith, long, lt)) (omega arith)))

-- the rows at eight places, one by one
pub eight_rows : (rows : List (List ℕ)) (places a b c d e f g h : List ℕ) → length places ≡ 8 →
    a ≡ get_or rows (get_or places 0 0) [] → b ≡ get_or rows (get_or places 1 0) [] → c ≡ get_or rows (get_or places 2 0) [] → d ≡ get_or rows (get_or places 3 0) [] →
    e ≡ get_or rows (get_or places 4 0) [] → f ≡ get_or rows (get_or places 5 0) [] → g ≡ get_or rows (get_or places 6 0) [] → h ≡ get_or rows (get_or places 7 0) [] →
    a ∷ b ∷ c ∷ d ∷ e ∷ f ∷ g ∷ h ∷ [] ≡ rows_at rows places
eight_rows rows places a b c d e f g h long one two three four five six seven eight =
    rw (one, two, three, four, five, six, seven, eight) (sym (ap (rows_at rows) (eight_are places long)))
