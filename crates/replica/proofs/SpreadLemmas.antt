-- A row spread place by place, and which accumulators it touches.
use Rattle.std.proofs.Common.{◌≡◌, ℕ, zero, suc, ◌<◌, ◌≢◌, Bool, true, false, not, ◌||◌, ◌==◌, List, [], ◌∷◌, ◌++◌, if◌then◌else◌, max, length, get_or, set, drop, refl, ap, ap₂, arith, sym, ◌∙◌, subst, ◌↔◌}
use Rattle.std.proofs.lemmas.Bool.Decides.{nat_tests}
use Rattle.replica.proofs.Names.{All, or_right, eq-eqb, get_or-set_same, get_or-set_other, length-set, same_lists, get_or_default, get_or-map-range_with_len, length-map-range_with_len, Table, bytes_eq, list_any_at, list_any-append, max_each}
use Rattle.std.proofs.lemmas.Slice.Eq.{bytes_eq-Decides}
use Rattle.replica.specs.Spread.{stands_in, row_after, rows_after, touched_at, CanRaise, CanSpread, LeadInside}

max_twice : (xs ys : List ℕ) → max_each (max_each xs ys) ys ≡ max_each xs ys
max_twice [] ys = refl
max_twice (x ∷ xs) [] = refl
max_twice (x ∷ xs) (y ∷ ys) = ap₂ (λ v rest. v ∷ rest) (omega arith) (max_twice xs ys)

pub length-spread : (places src : List ℕ) (rows : List (List ℕ)) → length (rows_after places src rows) ≡ length rows
unfolding rows_after
length-spread places src rows = length-map-range_with_len (row_after places src rows) 0 (length rows)

pub spread-at : (places src : List ℕ) (rows : List (List ℕ)) (i : ℕ) (d : List ℕ) → i < length rows → get_or (rows_after places src rows) i d ≡ row_after places src rows i
unfolding rows_after
spread-at places src rows i d lt = get_or-map-range_with_len (row_after places src rows) 0 (length rows) i i d lt (omega arith)

pub to_in : (places src : List ℕ) (rows : List (List ℕ)) (i : ℕ) → stands_in places i ≡ true → row_after places src rows i ≡ max_each (get_or rows i []) src
unfolding row_after
to_in places src rows i e = rw e refl

pub to_out : (places src : List ℕ) (rows : List (List ℕ)) (i : ℕ) → stands_in places i ≡ false → row_after places src rows i ≡ get_or rows i []
unfolding row_after
to_out places src rows i e = rw e refl

to_same : (before after src : List ℕ) (rows : List (List ℕ)) (i : ℕ) → stands_in after i ≡ stands_in before i → row_after before src rows i ≡ row_after after src rows i
unfolding row_after
to_same before after src rows i e = rw e refl

-- spread to no place
pub spread-none : (src : List ℕ) (rows : List (List ℕ)) → rows ≡ rows_after [] src rows
spread-none src rows = grind (arith, same_lists, length-spread, get_or_default, spread-at, to_out)

or_false : (a b : Bool) → b ≡ false → (a || b) ≡ a
or_false a b e = grind arith

-- the place that is added: raised once more, or for the first time
here_is : (b : Bool) (before after src : List ℕ) (rows : List (List ℕ)) (p : ℕ) → stands_in before p ≡ b → stands_in after p ≡ true → max_each (row_after before src rows p) src ≡ row_after after src rows p
here_is b before after src rows p was now = grind (arith, to_in, max_twice, to_out)

-- one place more
pub spread-more : (before after src : List ℕ) (p : ℕ) (rows : List (List ℕ)) → p < length rows → ((i : ℕ) → stands_in after i ≡ (stands_in before i || (p == i))) →
    set (rows_after before src rows) p (max_each (get_or (rows_after before src rows) p []) src) ≡ rows_after after src rows
spread-more before after src p rows lt adds =
    grind (arith, spread-at, here_is, same_lists, length-set, length-spread, get_or-set_same, get_or-set_other, to_same)

-- ---- which rows are touched
-- whether a row became another
pub changed_is : (r : Bool) (new old : List ℕ) → (r ≡ false) ↔ (new ≡ old) → r ≡ not (bytes_eq new old)
changed_is r new old h = grind (arith, bytes_eq-Decides)

mark_here : (b a r : Bool) (before after src : List ℕ) (rows : List (List ℕ)) (p : ℕ) → stands_in before p ≡ b → stands_in after p ≡ true → r ≡ not (bytes_eq (max_each (row_after before src rows p) src) (row_after before src rows p)) →
    ((a || not (bytes_eq (row_after before src rows p) (get_or rows p []))) || r) ≡ (a || not (bytes_eq (row_after after src rows p) (get_or rows p [])))
mark_here b a r before after src rows p was now at = grind (arith, to_in, bytes_eq-Decides, to_out)

-- the marks, one place more
pub touched-more : (before after src : List ℕ) (p : ℕ) (rows : List (List ℕ)) (old marks : List Bool) (r : Bool) → p < length rows → length marks ≡ length rows → ((i : ℕ) → stands_in after i ≡ (stands_in before i || (p == i))) →
    ((r ≡ false) ↔ (max_each (get_or (rows_after before src rows) p []) src ≡ get_or (rows_after before src rows) p [])) →
    ((i : ℕ) → i < length rows → get_or marks i false ≡ touched_at old rows (rows_after before src rows) i) →
    (i : ℕ) → i < length rows → get_or (set marks p (get_or marks p false || r)) i false ≡ touched_at old rows (rows_after after src rows) i
touched-more before after src p rows old marks r lt count adds tells so_far i inside =
    let now : stands_in after p ≡ true = adds p ∙ or_right (stands_in before p) (p == p) (eq-eqb p p refl) in
    let at_p = spread-at before src rows p [] lt in
    let is : r ≡ not (bytes_eq (max_each (row_after before src rows p) src) (row_after before src rows p)) = rw at_p at (changed_is r _ _ tells) in
    let here : (get_or marks p false || r) ≡ touched_at old rows (rows_after after src rows) p =
    ap (λ b. b || r) (so_far p lt) ∙ rw (at_p, spread-at after src rows p [] lt) (mark_here (stands_in before p) (get_or old p false) r before after src rows p refl now is) in
    grind (arith, nat_tests, get_or-set_same, get_or-set_other, spread-at, to_same, or_false)

-- the marks before any place
pub touched-none : (src : List ℕ) (rows : List (List ℕ)) (marks : List Bool) (i : ℕ) → i < length rows → get_or marks i false ≡ touched_at marks rows (rows_after [] src rows) i
touched-none src rows marks i lt = grind (arith, bytes_eq-Decides, spread-at, to_out)

-- ---- rows that are seen to rise before they are raised
-- the row at a place of the list, where it is not its maximum with the others, becomes another
pub seen_rises : (places src : List ℕ) (k : ℕ) (rows : List (List ℕ)) (p : ℕ) → k < length places → get_or places k 0 ≡ p → p < length rows → max_each (get_or rows p []) src ≢ get_or rows p [] →
    not (bytes_eq (get_or (rows_after places src rows) p []) (get_or rows p [])) ≡ true
seen_rises places src k rows p in_list is lt rises =
    grind (arith, list_any_at, spread-at, to_in, bytes_eq-Decides)

-- ---- one list of places after another
spread_to_both : (b c : Bool) (x src : List ℕ) → (if c then max_each (if b then max_each x src else x) src else (if b then max_each x src else x)) ≡ (if b || c then max_each x src else x)
spread_to_both b c x src = grind (arith, max_twice)

spread_to-append : (xs ys src : List ℕ) (rows : List (List ℕ)) (i : ℕ) → i < length rows → row_after ys src (rows_after xs src rows) i ≡ row_after (xs ++ ys) src rows i
unfolding row_after
spread_to-append xs ys src rows i lt = grind (arith, spread-at, spread_to_both, list_any-append)

pub spread-append : (xs ys src : List ℕ) (rows : List (List ℕ)) → rows_after ys src (rows_after xs src rows) ≡ rows_after (xs ++ ys) src rows
spread-append xs ys src rows = grind (arith, length-spread, same_lists, spread-at, spread_to-append)

-- the marks of the first list, then of the second
pub both_marks : (b c : Bool) (t : Bool) (x src first last : List ℕ) → first ≡ (if b then max_each x src else x) → last ≡ (if b || c then max_each x src else x) →
    ((t || not (bytes_eq first x)) || not (bytes_eq last first)) ≡ (t || not (bytes_eq last x))
both_marks b c t x src first last f l = grind (arith, bytes_eq-Decides)

pub to_row : (places src : List ℕ) (rows : List (List ℕ)) (i : ℕ) → row_after places src rows i ≡ (if stands_in places i then max_each (get_or rows i []) src else get_or rows i [])
unfolding row_after
to_row places src rows i = refl

-- what holds of all places holds of the first ones, and of the last
pub all_first : (P : ℕ → Type 0) (xs ys : List ℕ) → All P (xs ++ ys) → All P xs
all_first P [] ys h k d lt = absurd (omega arith)
all_first P (x ∷ xs) ys h zero d lt = h 0 d (omega arith)
all_first P (x ∷ xs) ys h (suc k) d lt = all_first P xs ys (λ j e l. h (suc j) e (omega arith)) k d (omega arith)

pub all_last : (P : ℕ → Type 0) (xs ys : List ℕ) → All P (xs ++ ys) → All P ys
all_last P [] ys h = h
all_last P (x ∷ xs) ys h = all_last P xs ys (λ j e l. h (suc j) e (omega arith))

-- ---- an accumulator that is above its row, and is raised
pub above_stays : (row acc s : List ℕ) → max_each row acc ≡ acc → max_each row (max_each acc s) ≡ max_each acc s
above_stays [] [] s h = refl
above_stays [] (a ∷ acc) s h = absurd (cc)
above_stays (x ∷ row) [] s h = refl
above_stays (x ∷ row) (a ∷ acc) [] h = refl
above_stays (x ∷ row) (a ∷ acc) (k ∷ s) h =
    let head : max x a ≡ a = ap (λ l. get_or l 0 0) h in
    let tail : max_each row acc ≡ acc = ap (λ l. drop 1 l) h in
    ap₂ (λ v rest. v ∷ rest) (omega arith) (above_stays row acc s tail)

-- raised to its row, it was its row
settled : (row acc s : List ℕ) → max_each row acc ≡ acc → max_each acc s ≡ row → acc ≡ row
settled [] acc s h e = sym h
settled (x ∷ row) [] s h e = absurd (cc)
settled (x ∷ row) (a ∷ acc) [] h e = absurd (cc)
settled (x ∷ row) (a ∷ acc) (k ∷ s) h e =
    let head : max x a ≡ a = ap (λ l. get_or l 0 0) h in
    let tail : max_each row acc ≡ acc = ap (λ l. drop 1 l) h in
    let top : max a k ≡ x = ap (λ l. get_or l 0 0) e in
    let rest : max_each acc s ≡ row = ap (λ l. drop 1 l) e in
    ap₂ (λ v more. v ∷ more) (omega arith) (settled row acc s tail rest)

-- a mark that an accumulator differs from its row stays right where the accumulator is raised again
pub still_marked : (row acc s : List ℕ) → max_each row acc ≡ acc →
    (not (bytes_eq acc row) || not (bytes_eq (max_each acc s) acc)) ≡ not (bytes_eq (max_each acc s) row)
still_marked row acc s h = grind (arith, bytes_eq-Decides, settled)

pub raised_above : (b : Bool) (row acc s new : List ℕ) → max_each row acc ≡ acc → new ≡ (if b then max_each acc s else acc) → max_each row new ≡ new
raised_above b row acc s new h is = grind (arith, above_stays)

pub raised_marked : (b : Bool) (row acc s new : List ℕ) → max_each row acc ≡ acc → new ≡ (if b then max_each acc s else acc) →
    (not (bytes_eq acc row) || not (bytes_eq new acc)) ≡ not (bytes_eq new row)
raised_marked b row acc s new h is = grind (arith, still_marked, bytes_eq-Decides)

-- ---- what raising asks for

-- the first places can be raised, where rows are as many and as wide
pub raise_first : {block registers : List ℕ} {count : ℕ} {rows : Table} {touched : List Bool} (left : List ℕ) → All (λ i. i < count) (block ++ left) → length rows.rows ≡ count → length registers ≡ rows.width → length touched ≡ length rows.rows → CanRaise block registers rows touched
raise_first {block} {registers} {count} left all size wide marks = record {
  inside = λ k d lt. let at : get_or block k d < count = all_first (λ i. i < count) block left all k d lt in omega (arith, at, size);
  width = wide;
  marks = marks;
}

-- the index leads into as many rows
pub spread_on : (targets : List (List ℕ)) (count : ℕ) (rows : Table) (touched : List Bool) → LeadInside count targets → length rows.rows ≡ count → length touched ≡ count → CanSpread targets rows touched
spread_on targets count rows touched inside size marks = record { inside = subst (λ n. LeadInside n targets) (sym size) inside; marks = marks ∙ sym size }
