-- Rows that are pulled: what becomes of them row by row, and that it is what spreading makes of them.
use Rattle.std.proofs.Common.{◌≡◌, ◌≢◌, take, ℕ, suc, ◌+◌, ◌*◌, ◌/◌, ◌%◌, ◌-◌, ◌<◌, Bool, true, false, not, ◌||◌, ◌&&◌, ◌==◌, List, [], ◌∷◌, ◌++◌, map, length, get_or, set, if◌then◌else◌, refl, ap, ap₂, sym, ◌∙◌, arith, subst, inl, inr}
use Rattle.std.proofs.lemmas.Bool.Decides.{nat_tests}
use Rattle.std.proofs.lemmas.List.{take_more_set}
use Rattle.replica.proofs.Names.{AllByRecursion, list_any, filter, range_with_len, cases_eq, cases_lt, and_parts, and_from, or_left, or_right, ne_eqb, ◌⊎◌, eq-eqb, eqb-true, same_lists, get_or_past, get_or_default, append-nil, get_or-set_same, get_or-set_other, length-append, get_or_append_left, get_or-append_right, All, All-push, IsTrue, or_cases, filter-append, map-append, max_each, bytes_eq, Table, PartValue, IsPart}
use Rattle.registers.specs.Laws.{max_each-commutes, max_each-associates, max_each-repeats}
pub use Rattle.registers.proofs.RaisedLemmas.{raised-here}
use Rattle.registers.proofs.RaisedLemmas.{raised-above, raised-append, raised-last, raised_by_more}
use Rattle.registers.proofs.TableLemmas.{same_table}
use Rattle.replica.specs.Spread.{touched_at, stands_in, row_after, rows_after, rows_after_all, marked_rows, own_rows}
use Rattle.std.proofs.lemmas.Nat.{div-mul-add}
use Rattle.ball_model.proofs.PathLemmas.{any_filter, any_range, range_any}
use Rattle.replica.specs.Index.{targets_of}
use Rattle.replica.proofs.IndexLemmas.Own.{own_part, vertex_at}
use Rattle.replica.proofs.IndexLemmas.Target.{targets-in, targets-none}
use Rattle.replica.proofs.SpreadLemmas.{length-spread, spread-at, still_marked, to_in, to_out}
use Rattle.replica.proofs.HeardLemmas.{own_stands}
use Rattle.replica.specs.Heard.{SpreadsOwn, StayTouched}
use Rattle.replica.specs.Pull.{raised_over, rows_at, told_rows, is_told, pulled_row, ArePulled, CanPullBlock, CanPullOwn, PullsRows}

-- ---- a row, raised by others
-- by two others, in either order
raised_turned : (row a b : List ℕ) → max_each (max_each row a) b ≡ max_each (max_each row b) a
raised_turned row a b = max_each-associates row a b ∙ ap (max_each row) (max_each-commutes a b) ∙ sym (max_each-associates row b a)

-- by one behind the others, or before them
raised-one : (row other : List ℕ) (rest : List (List ℕ)) → max_each (raised_over row rest) other ≡ raised_over (max_each row other) rest
unfolding raised_over
raised-one row other [] = refl
raised-one row other (r ∷ rest) = raised-one (max_each row r) other rest ∙ ap (λ a. raised_over a rest) (raised_turned row r other)

-- by the one list and by the other, in either order
raised-both : (row : List ℕ) (xs ys : List (List ℕ)) → raised_over (raised_over row xs) ys ≡ raised_over (raised_over row ys) xs
unfolding raised_over
raised-both row xs [] = refl
raised-both row xs (y ∷ ys) = ap (λ a. raised_over a ys) (raised-one row y xs) ∙ raised-both (max_each row y) xs ys

raised_again : (row other : List ℕ) → max_each (max_each row other) other ≡ max_each row other
raised_again row other = max_each-associates row other other ∙ ap (max_each row) (max_each-repeats other)

raised_last : (row other : List ℕ) → max_each row (max_each row other) ≡ max_each row other
raised_last row other = sym (max_each-associates row row other) ∙ ap (λ a. max_each a other) (max_each-repeats row)

-- others that raise nothing
raised-none : (row : List ℕ) (xs : List (List ℕ)) → AllByRecursion (λ x. max_each row x ≡ row) xs → raised_over row xs ≡ row
unfolding raised_over
raised-none row [] all = refl
raised-none row (x ∷ xs) all = ap (λ a. raised_over a xs) all.0 ∙ raised-none row xs all.1

-- what is made of those that pass, with one more in front
filter_more : (f : ℕ → List ℕ) (test : ℕ → Bool) (x : ℕ) (ks : List ℕ) (b : Bool) → test x ≡ b → map f (filter test (x ∷ ks)) ≡ (if b then f x ∷ map f (filter test ks) else map f (filter test ks))
filter_more f test x ks true e = grind arith
filter_more f test x ks false e = grind arith

raised_first : (f : ℕ → List ℕ) (row : List ℕ) (x k : ℕ) (rest : List (List ℕ)) → x ≡ k → max_each (raised_over row (f x ∷ rest)) (f k) ≡ raised_over row (f x ∷ rest)
unfolding raised_over
raised_first f row x k rest same =
    raised-one (max_each row (f x)) (f k) rest
    ∙ ap (λ a. raised_over a rest) (ap (λ y. max_each (max_each row (f y)) (f k)) same ∙ raised_again row (f k) ∙ ap (λ y. max_each row (f y)) (sym same))

in_passing : (b : Bool) (f : ℕ → List ℕ) (test : ℕ → Bool) (row : List ℕ) (x : ℕ) (ks : List ℕ) (k : ℕ) → test x ≡ b → test k ≡ true →
    ((r : List ℕ) → max_each (raised_over r (map f (filter test ks))) (f k) ≡ raised_over r (map f (filter test ks))) ⊎ (x ≡ k) →
    max_each (raised_over row (map f (filter test (x ∷ ks)))) (f k) ≡ raised_over row (map f (filter test (x ∷ ks)))
unfolding raised_over
in_passing true f test row x ks k e passes (inl ih) = rw (filter_more f test x ks true e) (ih (max_each row (f x)))
in_passing true f test row x ks k e passes (inr same) = rw (filter_more f test x ks true e) (raised_first f row x k (map f (filter test ks)) same)
in_passing false f test row x ks k e passes (inl ih) = rw (filter_more f test x ks false e) (ih row)
in_passing false f test row x ks k e passes (inr same) = absurd (let bad : false ≡ true = sym e ∙ ap test same ∙ passes in cc)

-- one of those that have raised the row raises nothing any more
raised-in : (f : ℕ → List ℕ) (test : ℕ → Bool) (row : List ℕ) (ks : List ℕ) (k : ℕ) → list_any (λ y. y == k) ks ≡ true → test k ≡ true →
    max_each (raised_over row (map f (filter test ks))) (f k) ≡ raised_over row (map f (filter test ks))
raised-in f test row [] k in_list passes = absurd (cc)
raised-in f test row (x ∷ ks) k in_list passes =
    in_passing (test x) f test row x ks k refl passes
    (elim (cases_eq x k) [
      | inl same ↦ inr same
      | inr other ↦ inl (λ r. raised-in f test r ks k (let apart : (x == k) ≡ false = ne_eqb x k other in grind arith) passes)
    ])

passing_more : (b : Bool) (P : List ℕ → Type 0) (f : ℕ → List ℕ) (test : ℕ → Bool) (x : ℕ) (ks : List ℕ) → test x ≡ b → (test x ≡ true → P (f x)) → AllByRecursion P (map f (filter test ks)) → AllByRecursion P (map f (filter test (x ∷ ks)))
passing_more true P f test x ks e here rest = subst (λ l. AllByRecursion P l) (sym (filter_more f test x ks true e)) (here e, rest)
passing_more false P f test x ks e here rest = subst (λ l. AllByRecursion P l) (sym (filter_more f test x ks false e)) rest

-- what holds of each that passes holds of all that do
pub all_passing : (P : List ℕ → Type 0) (f : ℕ → List ℕ) (test : ℕ → Bool) (ks : List ℕ) → ((k : ℕ) → list_any (λ y. y == k) ks ≡ true → test k ≡ true → P (f k)) → AllByRecursion P (map f (filter test ks))
all_passing P f test [] each = tt
all_passing P f test (x ∷ ks) each =
    passing_more (test x) P f test x ks refl (each x (or_left (x == x) (list_any (λ y. y == x) ks) (eq-eqb x x refl)))
    (all_passing P f test ks (λ k in_list. each k (or_right (x == k) (list_any (λ y. y == k) ks) in_list)))

-- the same rows raise a row to the same, in whatever order and however often they stand there
raised-same : (row : List ℕ) (xs ys : List (List ℕ)) → AllByRecursion (λ x. max_each (raised_over row ys) x ≡ raised_over row ys) xs → AllByRecursion (λ y. max_each (raised_over row xs) y ≡ raised_over row xs) ys → raised_over row xs ≡ raised_over row ys
raised-same row xs ys left right =
    sym (raised-none (raised_over row xs) ys right) ∙ raised-both row xs ys ∙ raised-none (raised_over row ys) xs left

-- ---- the rows of own predecessors that are marked, one predecessor more
told-next : (parts p : ℕ) (rows : List (List ℕ)) (marks : List Bool) (zs : List ℕ) (z : ℕ) (b : Bool) → is_told parts p marks z ≡ b →
    told_rows parts p rows marks (zs ++ z ∷ []) ≡ told_rows parts p rows marks zs ++ (if b then get_or rows (z / parts) [] ∷ [] else [])
unfolding told_rows
told-next parts p rows marks zs z b at = grind (arith, filter-append, map-append)

pub told-none : (parts p : ℕ) (rows : List (List ℕ)) (marks : List Bool) (row : List ℕ) → row ≡ raised_over row (told_rows parts p rows marks [])
unfolding told_rows raised_over
told-none parts p rows marks row = refl

pub told-yes : (parts p : ℕ) (rows : List (List ℕ)) (marks : List Bool) (row : List ℕ) (zs : List ℕ) (z : ℕ) → is_told parts p marks z ≡ true →
    max_each (raised_over row (told_rows parts p rows marks zs)) (get_or rows (z / parts) []) ≡ raised_over row (told_rows parts p rows marks (zs ++ z ∷ []))
unfolding raised_over
told-yes parts p rows marks row zs z at =
    sym (raised-append row (told_rows parts p rows marks zs) (get_or rows (z / parts) [] ∷ []))
    ∙ ap (raised_over row) (sym (told-next parts p rows marks zs z true at))

pub told-no : (parts p : ℕ) (rows : List (List ℕ)) (marks : List Bool) (zs : List ℕ) (z : ℕ) → is_told parts p marks z ≡ false →
    told_rows parts p rows marks zs ≡ told_rows parts p rows marks (zs ++ z ∷ [])
told-no parts p rows marks zs z at = sym (append-nil (told_rows parts p rows marks zs)) ∙ sym (told-next parts p rows marks zs z false at)

-- ---- rows of a block
-- and is marked where this has changed it
pub block_told : (before touched : List Bool) (old rows : List (List ℕ)) (k n : ℕ) (row : List ℕ) (raised : Bool) → k < length rows → k < length touched →
    get_or touched k false ≡ get_or before k false → raised ≡ not (bytes_eq row (get_or old k [])) →
    ((j : ℕ) → j < k → get_or touched j false ≡ touched_at before old rows j) →
    (j : ℕ) → j < k + 1 → get_or (set touched k (get_or touched k false || raised)) j false ≡ touched_at before old (set rows k row) j
block_told before touched old rows k n row raised lt inside still tells told j below =
    grind (arith, nat_tests, get_or-set_same, get_or-set_other)

-- of two lists one behind the other, what holds of each holds of both
each_of_both : {X : Type 0} (P : ℕ → X → X → Type 0) (d : X) (m : ℕ) (old more new last : List X) → length old ≡ m → length new ≡ m →
    ((k : ℕ) → k < m → P k (get_or old k d) (get_or new k d)) → ((k : ℕ) → k < length more → P (m + k) (get_or more k d) (get_or last k d)) →
    (k : ℕ) → k < length (old ++ more) → P k (get_or (old ++ more) k d) (get_or (new ++ last) k d)
each_of_both P d m old more new last before after front back k lt =
    elim (cases_lt k m) [
      | inl below ↦ rw (get_or_append_left old more d k (omega (arith, before, below)), get_or_append_left new last d k (omega (arith, after, below))) (front k below)
      | inr above ↦
          let e : m + (k - m) ≡ k = omega arith in
          let at : k - m < length more = omega (arith, length-append old more, lt, before) in
          rw (get_or-append_right old more m k d before above, get_or-append_right new last m k d after above)
          (subst (λ n. P n (get_or more (k - m) d) (get_or last (k - m) d)) e (back (k - m) at))
    ]

-- two blocks, one behind the other
pub pulls_both : (part : PartValue) (own : List (List ℕ)) (marks : List Bool) (from m : ℕ) (old more new last : List (List ℕ)) (before other after rest : List Bool) →
    length old ≡ m → length before ≡ m → length after ≡ m → PullsRows part own marks from old new before after → PullsRows part own marks (from + m) more last other rest →
    PullsRows part own marks from (old ++ more) (new ++ last) (before ++ other) (after ++ rest)
pulls_both part own marks from m old more new last before other after rest count each still front back =
    let same : length new ≡ m = front.rows.count ∙ count in
    record {
      rows = record {
        count = omega (arith, length-append old more, length-append new last, front.rows.count, back.rows.count);
        row = each_of_both (λ k a b. b ≡ pulled_row part own marks (from + k) a) [] m old more new last count same (λ k lt. front.rows.row k (omega (arith, lt, count)))
            (λ k lt. back.rows.row k lt ∙ ap (λ i. pulled_row part own marks i (get_or more k [])) (omega arith));
      };
      touched = λ k lt.
          elim (cases_lt k m) [
            | inl below ↦
                rw (
                  get_or_append_left after rest false k (omega (arith, still, below)),
                  get_or_append_left before other false k (omega (arith, each, below)),
                  get_or_append_left new last [] k (omega (arith, same, below)),
                  get_or_append_left old more [] k (omega (arith, count, below)),
                )
                (front.touched k (omega (arith, count, below)))
            | inr above ↦
                rw (
                  get_or-append_right after rest m k false still above,
                  get_or-append_right before other m k false each above,
                  get_or-append_right new last m k [] same above,
                  get_or-append_right old more m k [] count above,
                )
                (back.touched (k - m) (omega (arith, length-append old more, lt, count, above)))
          ];
    }

pub first_can_pull : (part : PartValue) (own : Table) (marks : List Bool) (from : ℕ) (cells front : List ℕ) (touched first last : List Bool) →
    CanPullBlock part own marks from cells touched → touched ≡ first ++ last → length front ≡ length first * own.width → CanPullBlock part own marks from front first
first_can_pull part own marks from cells front touched first last can split filled =
    let size : length touched ≡ length first + length last = ap length split ∙ length-append first last in
    record { can = can.can; inside = omega (arith, can.inside, size); filled = filled }

pub last_can_pull : (part : PartValue) (own : Table) (marks : List Bool) (from up : ℕ) (cells front back : List ℕ) (touched first last : List Bool) →
    CanPullBlock part own marks from cells touched → cells ≡ front ++ back → touched ≡ first ++ last → length front ≡ length first * own.width → up ≡ from + length first → CanPullBlock part own marks up back last
last_can_pull part own marks from up cells front back touched first last can cut split filled next =
    let w = own.width in
    let m = length first in
    let n = length last in
    let size : length touched ≡ m + n = ap length split ∙ length-append first last in
    let total : length cells ≡ length front + length back = ap length cut ∙ length-append front back in
    let both : length touched * w ≡ m * w + n * w = ap (λ k. k * w) size ∙ omega arith in
    record { can = can.can; inside = omega (arith, can.inside, size, next); filled = omega (arith, total, can.filled, both, filled) }

-- ---- what pulling all rows does is what spreading the marked ones does
-- row i of those that are spread to one after the other
spread_step : (b : Bool) (places : List ℕ) (own rows : List (List ℕ)) (test : ℕ → Bool) (k i : ℕ) (ks : List ℕ) → stands_in places i ≡ b → test k ≡ b →
    raised_over (row_after places (get_or own k []) rows i) (map (λ j. get_or own j []) (filter test ks)) ≡ raised_over (get_or rows i []) (map (λ j. get_or own j []) (filter test (k ∷ ks)))
unfolding raised_over
spread_step true places own rows test k i ks e t = rw (to_in places (get_or own k []) rows i e, filter_more (λ j. get_or own j []) test k ks true t) refl
spread_step false places own rows test k i ks e t = rw (to_out places (get_or own k []) rows i e, filter_more (λ j. get_or own j []) test k ks false t) refl

spread_row : (targets own : List (List ℕ)) (v : ℕ → ℕ) (ks : List ℕ) (rows : List (List ℕ)) (i : ℕ) → i < length rows →
    get_or (rows_after_all targets (map (λ k. (v k, get_or own k [])) ks) rows) i [] ≡ raised_over (get_or rows i []) (map (λ k. get_or own k []) (filter (λ k. stands_in (get_or targets (v k) []) i) ks))
unfolding rows_after_all raised_over
spread_row targets own v [] rows i lt = refl
spread_row targets own v (k ∷ ks) rows i lt =
    let places = get_or targets (v k) [] in
    let src = get_or own k [] in
    let test : ℕ → Bool = λ j. stands_in (get_or targets (v j) []) i in
    spread_row targets own v ks (rows_after places src rows) i (omega (arith, length-spread places src rows))
    ∙ ap (λ r. raised_over r (map (λ j. get_or own j []) (filter test ks))) (spread-at places src rows i [] lt)
    ∙ spread_step (stands_in places i) places own rows test k i ks refl refl

length-spread_all : (targets : List (List ℕ)) (others : List (ℕ × List ℕ)) (rows : List (List ℕ)) → length (rows_after_all targets others rows) ≡ length rows
unfolding rows_after_all
length-spread_all targets [] rows = refl
length-spread_all targets (other ∷ rest) rows =
    length-spread_all targets rest (rows_after (get_or targets other.0 []) other.1 rows) ∙ length-spread (get_or targets other.0 []) other.1 rows

all_in : (P : ℕ → Type 0) (zs : List ℕ) (z : ℕ) → All P zs → stands_in zs z ≡ true → P z
all_in P [] z all e = absurd (cc)
all_in P (y ∷ ys) z all e =
    elim (cases_eq y z) [
      | inl same ↦ subst P same (all 0 z (omega arith))
      | inr other ↦ all_in P ys z (λ k d lt. all (suc k) d (omega arith)) (let apart : (y == z) ≡ false = ne_eqb y z other in grind arith)
    ]

-- the marked places
abbrev marked_places : List Bool → List ℕ
marked_places marks = filter (λ i. get_or marks i false) (range_with_len 0 (length marks))

marked_in : (marks : List Bool) (k : ℕ) → get_or marks k false ≡ true → stands_in (marked_places marks) k ≡ true
marked_in marks k on =
    any_filter (λ y. y == k) (λ i. get_or marks i false) (range_with_len 0 (length marks))
    ∙ any_range (λ y. get_or marks y false && (y == k)) 0 (length marks) k (omega arith) (elim (cases_lt k (length marks)) [ inl lt ↦ omega arith | inr past ↦ absurd (let off = get_or_past marks k false past in cc) ]) (and_from _ _ on (eq-eqb k k refl))

in_marked : (marks : List Bool) (k : ℕ) → stands_in (marked_places marks) k ≡ true → get_or marks k false ≡ true
in_marked marks k e =
    let r = range_any (λ y. get_or marks y false && (y == k)) 0 (length marks) (sym (any_filter (λ y. y == k) (λ i. get_or marks i false) (range_with_len 0 (length marks))) ∙ e) in
    let both = and_parts (get_or marks r.0 false) (r.0 == k) r.3 in
    ap (λ j. get_or marks j false) (sym (eqb-true r.0 k both.1)) ∙ both.0

module _ (part : PartValue) (own : List (List ℕ)) (marks : List Bool) (is : IsPart part) (i : ℕ) (inside : i < length part.preds) where
  abbrev parts : ℕ
  parts = part.plan.parts

  abbrev p : ℕ
  p = part.number

  abbrev vertex : ℕ → ℕ
  vertex k = k * parts + p

  abbrev targeted : ℕ → Bool
  targeted k = stands_in (get_or (targets_of part) (vertex k) []) i

  below : (z : ℕ) → stands_in (get_or part.preds i []) z ≡ true → z < part.plan.vertices
  below z e = all_in (λ y. y < part.plan.vertices) (get_or part.preds i []) z (is.below i [] inside) e

  -- a predecessor that is told is at a marked place that leads to i
  leads : (z : ℕ) → stands_in (get_or part.preds i []) z ≡ true → is_told parts p marks z ≡ true → (stands_in (marked_places marks) (z / parts) ≡ true) × (targeted (z / parts) ≡ true)
  leads z pred told =
      let both = and_parts (z % parts == p) (get_or marks (z / parts) false) told in
      let rest : z % parts ≡ p = eqb-true (z % parts) p both.0 in
      let back : vertex (z / parts) ≡ z = ap (λ r. (z / parts) * parts + r) (sym rest) ∙ vertex_at parts z (omega (arith, is.number)) in (
        marked_in marks (z / parts) both.1,
        ap (λ v. stands_in (get_or (targets_of part) v []) i) back ∙ targets-in part z i [] (below z pred) ∙ pred,
      )

  -- and the other way round
  led : (k : ℕ) → stands_in (marked_places marks) k ≡ true → targeted k ≡ true → (stands_in (get_or part.preds i []) (vertex k) ≡ true) × (is_told parts p marks (vertex k) ≡ true)
  led k marked to =
      let place : vertex k / parts ≡ k = div-mul-add k parts p is.number in
      let lt : vertex k < part.plan.vertices = elim (cases_lt (vertex k) part.plan.vertices) [ inl lt ↦ lt | inr past ↦ absurd (let none = targets-none part (vertex k) past in grind arith) ] in (
        sym (targets-in part (vertex k) i [] lt) ∙ to,
        and_from _ _ (eq-eqb (vertex k % parts) p (own_part parts p k is.number)) (ap (λ j. get_or marks j false) place ∙ in_marked marks k marked),
      )

  one_row : (row : List ℕ) → pulled_row part own marks i row ≡ raised_over row (map (λ k. get_or own k []) (filter targeted (marked_places marks)))
  unfolding told_rows
  one_row row =
      let zs = get_or part.preds i [] in
      let from : ℕ → List ℕ = λ z. get_or own (z / parts) [] in
      let at : ℕ → List ℕ = λ k. get_or own k [] in
      let xs = map from (filter (is_told parts p marks) zs) in
      let ys = map at (filter targeted (marked_places marks)) in
      raised-same row xs ys
      (all_passing (λ x. max_each (raised_over row ys) x ≡ raised_over row ys) from (is_told parts p marks) zs
      (λ z pred told. let l = leads z pred told in raised-in at targeted row (marked_places marks) (z / parts) l.0 l.1))
      (all_passing (λ y. max_each (raised_over row xs) y ≡ raised_over row xs) at targeted (marked_places marks)
      (λ k marked to.
      let l = led k marked to in
      let place : vertex k / parts ≡ k = div-mul-add k parts p is.number in
      ap (λ j. max_each (raised_over row xs) (get_or own j [])) (sym place) ∙ raised-in from (is_told parts p marks) row zs (vertex k) l.0 l.1))

-- PULLING IS SPREADING: rows that are pulled are what the marked rows make of them where they are spread
pub pulled-is_spread : (part : PartValue) (own : List (List ℕ)) (marks : List Bool) (old new : List (List ℕ)) → IsPart part → length old ≡ length part.preds → ArePulled part own marks 0 old new →
    new ≡ rows_after_all (targets_of part) (own_rows part own marks) old
unfolding marked_rows
pulled-is_spread part own marks old new is count pulled =
    let ks = marked_places marks in
    let v : ℕ → ℕ = λ k. k * part.plan.parts + part.number in
    same_lists new (rows_after_all (targets_of part) (map (λ k. (v k, get_or own k [])) ks) old)
    (pulled.count ∙ sym (length-spread_all (targets_of part) (map (λ k. (v k, get_or own k [])) ks) old))
    (λ i d lt.
    let inside : i < length old = omega (arith, pulled.count, lt) in
    get_or_default new i d [] lt
    ∙ pulled.row i inside ∙ ap (λ n. pulled_row part own marks n (get_or old i [])) (omega arith)
    ∙ one_row part own marks is i (omega (arith, count, inside)) (get_or old i [])
    ∙ sym (spread_row (targets_of part) own v ks old i inside)
    ∙ sym (get_or_default (rows_after_all (targets_of part) (map (λ k. (v k, get_or own k [])) ks) old) i d [] (omega (arith, length-spread_all (targets_of part) (map (λ k. (v k, get_or own k [])) ks) old, inside))))

-- ---- which rows it touches
-- whether an accumulator that is above a row differs from it is whether it did or was raised
pub raised-marked : (row acc new : List ℕ) (others : List (List ℕ)) → max_each row acc ≡ acc → new ≡ raised_over acc others → (not (bytes_eq acc row) || not (bytes_eq new acc)) ≡ not (bytes_eq new row)
raised-marked row acc new others above is =
    let over : max_each acc new ≡ new = rw is (raised-above acc acc others (max_each-repeats acc)) in
    let marked = still_marked row acc new above in
    rw over at marked

-- others that leave a row as it was leave it so before the last of them
raised-still : (row x : List ℕ) (xs : List (List ℕ)) → max_each (raised_over row xs) x ≡ row → raised_over row xs ≡ row
raised-still row x xs same =
    let a = raised_over row xs in
    let above : max_each row a ≡ a = raised-above row row xs (max_each-repeats row) in
    sym above ∙ max_each-commutes row a ∙ ap (max_each a) (sym same) ∙ raised_last a x ∙ same

-- ---- a row that is raised by those at some places
-- a row raised by the first places, and by one more
pub raised-more : (rows : List (List ℕ)) (row places : List ℕ) (k : ℕ) → k < length places →
    max_each (raised_over row (rows_at rows (take k places))) (get_or rows (get_or places k 0) []) ≡ raised_over row (rows_at rows (take (k + 1) places))
raised-more rows row places k lt = raised_by_more (λ place. get_or rows place []) row places k 0 lt

-- one that is seen to raise a row does so behind the others
pub seen-more : (seen now : Bool) (rows : List (List ℕ)) (row places : List ℕ) (k : ℕ) → k < length places →
    (IsTrue seen → raised_over row (rows_at rows (take k places)) ≢ row) → (IsTrue now → max_each row (get_or rows (get_or places k 0) []) ≢ row) →
    IsTrue (seen || now) → raised_over row (rows_at rows (take (k + 1) places)) ≢ row
seen-more seen now rows row places k lt before here any same =
    let x = get_or rows (get_or places k 0) [] in
    let new : max_each (raised_over row (rows_at rows (take k places))) x ≡ row = raised-more rows row places k lt ∙ same in
    let still : raised_over row (rows_at rows (take k places)) ≡ row = raised-still row x (rows_at rows (take k places)) new in
    elim (or_cases seen now any) [
      | inl was ↦ before was still
      | inr is ↦ here is (ap (λ a. max_each a x) (sym still) ∙ new)
    ]

-- ---- places that wait
-- one more waits
pub waits-more : (rows : List (List ℕ)) (row waiting : List ℕ) (k p : ℕ) → k < length waiting →
    raised_over row (rows_at rows (take (k + 1) (set waiting k p))) ≡ max_each (raised_over row (rows_at rows (take k waiting))) (get_or rows p [])
waits-more rows row waiting k p lt =
    ap (λ ps. raised_over row (rows_at rows ps)) (take_more_set waiting k p lt)
    ∙ ap (raised_over row) (map-append (λ q. get_or rows q []) (take k waiting) (p ∷ []))
    ∙ raised-last row (get_or rows p []) (rows_at rows (take k waiting))

pub inside-more : (n : ℕ) (waiting : List ℕ) (k p : ℕ) → k < length waiting → All (λ q. q < n) (take k waiting) → p < n → All (λ q. q < n) (take (k + 1) (set waiting k p))
inside-more n waiting k p lt all here = rw (take_more_set waiting k p lt) (All-push (λ q. q < n) (take k waiting) p all here)

-- a place that is told is one of those that there are
pub told-inside : (parts p : ℕ) (marks : List Bool) (z n : ℕ) → length marks ≡ n → is_told parts p marks z ≡ true → z / parts < n
told-inside parts p marks z n count told =
    let both = and_parts (z % parts == p) (get_or marks (z / parts) false) told in
    elim (cases_lt (z / parts) n) [ inl lt ↦ lt | inr past ↦ absurd (let off = get_or_past marks (z / parts) false (omega arith) in cc) ]

-- what waited is raised: which row that is, that it is above the first one, and whether it differs from that
pub raised-on : (first row new : List ℕ) (others : List (List ℕ)) (was now : Bool) → max_each first row ≡ row → new ≡ raised_over row others →
    was ≡ not (bytes_eq row first) → now ≡ not (bytes_eq new row) → (was || now) ≡ not (bytes_eq new first)
raised-on first row new others was now above is before after = ap₂ (λ a b. a || b) before after ∙ raised-marked first row new others above is

pub above-on : (first row new : List ℕ) (others : List (List ℕ)) → max_each first row ≡ row → new ≡ raised_over row others → max_each first new ≡ new
above-on first row new others above is = rw is (raised-above first row others above)

pub stay_touched : (part : PartValue) (own : List (List ℕ)) (marks : List Bool) (old new : List (List ℕ)) (before after : List Bool) → length after ≡ length before → PullsRows part own marks 0 old new before after → StayTouched old before new after
stay_touched part own marks old new before after long pulls rows was = record {
  count = pulls.rows.count ∙ was.count;
  marks = long ∙ was.marks;
  above = λ i lt.
      let inside : i < length old = omega (arith, was.count, lt) in
      rw (pulls.rows.row i inside) (raised-above (get_or rows i []) (get_or old i []) _ (was.above i lt));
  differ = λ i lt.
      let inside : i < length old = omega (arith, was.count, lt) in
      pulls.touched i inside
      ∙ ap (λ b. b || not (bytes_eq (get_or new i []) (get_or old i []))) (was.differ i lt)
      ∙ raised-marked (get_or rows i []) (get_or old i []) (get_or new i []) _ (was.above i lt) (pulls.rows.row i inside);
}

-- ---- all own rows
pub own_pulled : (part : PartValue) (own : Table) (marks : List Bool) (table new : Table) (before after : List Bool) → IsPart part → CanPullOwn part own marks table before → new.width ≡ table.width → length after ≡ length before →
    PullsRows part own.rows marks 0 table.rows new.rows before after → SpreadsOwn (targets_of part) part own.rows marks table new before after
own_pulled part own marks table new before after is can width still pulls =
    let spread : new.rows ≡ rows_after_all (targets_of part) (own_rows part own.rows marks) table.rows = pulled-is_spread part own.rows marks table.rows new.rows is can.count pulls.rows in
    record {
      rows = same_table new (record table { rows = rows_after_all (targets_of part) (own_rows part own.rows marks) table.rows }) width spread;
      touched = stay_touched part own.rows marks table.rows new.rows before after still pulls;
      stands = λ j p t heard job lt told index are changed stands. spread ∙ own_stands j p t (length marks) heard part (targets_of part) own.rows table.rows marks job lt told index are changed stands refl;
    }
