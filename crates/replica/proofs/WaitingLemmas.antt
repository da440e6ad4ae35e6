-- Rows that are raised along edges, one after the other, and which of them this touches.
use Rattle.std.proofs.Common.{◌≡◌, ◌≢◌, ℕ, zero, suc, ◌+◌, ◌<◌, Bool, true, false, not, ◌||◌, ◌==◌, List, [], ◌∷◌, ◌++◌, take, length, get_or, set, refl, ap, arith, sym, ◌∙◌, subst, ◌↔◌}
use Rattle.std.proofs.lemmas.Bool.Decides.{nat_tests}
use Rattle.std.proofs.lemmas.Slice.Eq.{bytes_eq-Decides}
use Rattle.replica.proofs.Names.{All-push, eq-eqb, get_or-set_same, get_or-set_other, take_more, Table, bytes_eq, max_each}
use Rattle.registers.specs.Laws.{max_each-commutes, max_each-associates, max_each-repeats}
use Rattle.replica.specs.Heard.{MarksChanges, StayTouched}
use Rattle.replica.specs.Spread.{stands_in, rows_after, touched_at}
use Rattle.replica.specs.Waiting.{rows_along, AddsEdges, CanAddEdges, CanRaiseAlong, MarksBeforeAlong, RaisesAlong, RaisesWaiting}
use Rattle.replica.proofs.SpreadLemmas.{changed_is, length-spread, raised_above, spread-append, spread-at, spread-more, spread-none, still_marked, to_in, to_row}

-- ---- edge by edge
pub along-none : (own rows : List (List ℕ)) → rows_along own [] rows ≡ rows
unfolding rows_along
along-none own rows = refl

pub along-one : (own : List (List ℕ)) (edge : ℕ × ℕ) (rows : List (List ℕ)) → rows_along own (edge ∷ []) rows ≡ rows_after (edge.1 ∷ []) (get_or own edge.0 []) rows
unfolding rows_along
along-one own edge rows = refl

pub along-append : (own : List (List ℕ)) (xs ys : List (ℕ × ℕ)) (rows : List (List ℕ)) → rows_along own (xs ++ ys) rows ≡ rows_along own ys (rows_along own xs rows)
unfolding rows_along
along-append own [] ys rows = refl
along-append own (x ∷ xs) ys rows = along-append own xs ys (rows_after (x.1 ∷ []) (get_or own x.0 []) rows)

pub length-along : (own : List (List ℕ)) (edges : List (ℕ × ℕ)) (rows : List (List ℕ)) → length (rows_along own edges rows) ≡ length rows
unfolding rows_along
length-along own [] rows = refl
length-along own (e ∷ es) rows = length-along own es (rows_after (e.1 ∷ []) (get_or own e.0 []) rows) ∙ length-spread (e.1 ∷ []) (get_or own e.0 []) rows

-- one place that is raised
one-set : (p : ℕ) (src : List ℕ) (rows : List (List ℕ)) → p < length rows → set rows p (max_each (get_or rows p []) src) ≡ rows_after (p ∷ []) src rows
one-set p src rows lt =
    let adds : (i : ℕ) → stands_in (p ∷ []) i ≡ (stands_in [] i || (p == i)) = λ i. grind arith in
    ap (λ rs. set rs p (max_each (get_or rs p []) src)) (spread-none src rows) ∙ spread-more [] (p ∷ []) src p rows lt adds

-- the edges before an edge, and this one
pub along-more : (own : List (List ℕ)) (edges : List (ℕ × ℕ)) (rows : List (List ℕ)) (k : ℕ) (d : ℕ × ℕ) → k < length edges → (get_or edges k d).1 < length rows →
    set (rows_along own (take k edges) rows) (get_or edges k d).1 (max_each (get_or (rows_along own (take k edges) rows) (get_or edges k d).1 []) (get_or own (get_or edges k d).0 [])) ≡ rows_along own (take (k + 1) edges) rows
along-more own edges rows k d lt inside =
    let e = get_or edges k d in
    let so_far = rows_along own (take k edges) rows in
    one-set e.1 (get_or own e.0 []) so_far (omega (arith, length-along own (take k edges) rows, inside))
    ∙ sym (ap (λ es. rows_along own es rows) (take_more edges k d lt) ∙ along-append own (take k edges) (e ∷ []) rows ∙ along-one own e so_far)

-- one edge more waits
pub along-added : (own : List (List ℕ)) (edges : List (ℕ × ℕ)) (i place : ℕ) (rows : List (List ℕ)) →
    rows_along own (edges ++ (i, place) ∷ []) rows ≡ rows_after (place ∷ []) (get_or own i []) (rows_along own edges rows)
along-added own edges i place rows = along-append own edges ((i, place) ∷ []) rows ∙ along-one own (i, place) (rows_along own edges rows)

-- places that were raised, and one more
pub places-more : (places src : List ℕ) (k d : ℕ) (rows : List (List ℕ)) → k < length places → rows_after (get_or places k d ∷ []) src (rows_after (take k places) src rows) ≡ rows_after (take (k + 1) places) src rows
places-more places src k d rows lt = spread-append (take k places) (get_or places k d ∷ []) src rows ∙ ap (λ ps. rows_after ps src rows) (sym (take_more places k d lt))

-- ---- what is below a row
one-above : (p : ℕ) (src row : List ℕ) (rows : List (List ℕ)) (i : ℕ) → i < length rows → max_each row (get_or rows i []) ≡ get_or rows i [] →
    max_each row (get_or (rows_after (p ∷ []) src rows) i []) ≡ get_or (rows_after (p ∷ []) src rows) i []
one-above p src row rows i lt above = raised_above (stands_in (p ∷ []) i) row (get_or rows i []) src (get_or (rows_after (p ∷ []) src rows) i []) above (spread-at (p ∷ []) src rows i [] lt ∙ to_row (p ∷ []) src rows i)

-- what was below it still is
along-above : (own : List (List ℕ)) (edges : List (ℕ × ℕ)) (row : List ℕ) (rows : List (List ℕ)) (i : ℕ) → i < length rows → max_each row (get_or rows i []) ≡ get_or rows i [] →
    max_each row (get_or (rows_along own edges rows) i []) ≡ get_or (rows_along own edges rows) i []
unfolding rows_along
along-above own [] row rows i lt above = above
along-above own (e ∷ es) row rows i lt above =
    along-above own es row (rows_after (e.1 ∷ []) (get_or own e.0 []) rows) i (omega (arith, length-spread (e.1 ∷ []) (get_or own e.0 []) rows, lt)) (one-above e.1 (get_or own e.0 []) row rows i lt above)

one-raised : (p : ℕ) (src : List ℕ) (rows : List (List ℕ)) → p < length rows → max_each src (get_or (rows_after (p ∷ []) src rows) p []) ≡ get_or (rows_after (p ∷ []) src rows) p []
one-raised p src rows lt =
    let r = get_or rows p [] in
    let on : stands_in (p ∷ []) p ≡ true = grind (arith, eq-eqb) in
    let is : get_or (rows_after (p ∷ []) src rows) p [] ≡ max_each r src = spread-at (p ∷ []) src rows p [] lt ∙ to_in (p ∷ []) src rows p on in
    let twice : max_each src (max_each r src) ≡ max_each r src = max_each-commutes src (max_each r src) ∙ max_each-associates r src src ∙ ap (max_each r) (max_each-repeats src) in
    rw is twice

-- and so is the row that an edge comes from, where the edge leads
along-raised : (own : List (List ℕ)) (edges : List (ℕ × ℕ)) (rows : List (List ℕ)) (k : ℕ) (d : ℕ × ℕ) → k < length edges → (get_or edges k d).1 < length rows →
    max_each (get_or own (get_or edges k d).0 []) (get_or (rows_along own edges rows) (get_or edges k d).1 []) ≡ get_or (rows_along own edges rows) (get_or edges k d).1 []
unfolding rows_along
along-raised own [] rows k d lt inside = absurd (omega arith)
along-raised own (e ∷ es) rows zero d lt inside =
    let src = get_or own e.0 [] in
    along-above own es src (rows_after (e.1 ∷ []) src rows) e.1 (omega (arith, length-spread (e.1 ∷ []) src rows, inside)) (one-raised e.1 src rows inside)
along-raised own (e ∷ es) rows (suc k) d lt inside =
    along-raised own es (rows_after (e.1 ∷ []) (get_or own e.0 []) rows) k d (omega arith) (omega (arith, length-spread (e.1 ∷ []) (get_or own e.0 []) rows, inside))

-- a row that is seen to rise becomes another
pub along-seen : (own : List (List ℕ)) (edges : List (ℕ × ℕ)) (rows : List (List ℕ)) (k : ℕ) (d : ℕ × ℕ) → k < length edges → (get_or edges k d).1 < length rows →
    max_each (get_or rows (get_or edges k d).1 []) (get_or own (get_or edges k d).0 []) ≢ get_or rows (get_or edges k d).1 [] →
    not (bytes_eq (get_or (rows_along own edges rows) (get_or edges k d).1 []) (get_or rows (get_or edges k d).1 [])) ≡ true
along-seen own edges rows k d lt inside rises =
    let e = get_or edges k d in
    let src = get_or own e.0 [] in
    let new = get_or (rows_along own edges rows) e.1 [] in
    let over : max_each src new ≡ new = along-raised own edges rows k d lt inside in
    let other : new ≢ get_or rows e.1 [] = λ same. rises (max_each-commutes (get_or rows e.1 []) src ∙ subst (λ x. max_each src x ≡ x) same over) in
    grind (arith, bytes_eq-Decides)

-- ---- which rows are touched
-- a row that had become another, and is raised once more
touched-again : (t r : Bool) (old row src : List ℕ) → max_each old row ≡ row → r ≡ not (bytes_eq (max_each row src) row) →
    ((t || not (bytes_eq row old)) || r) ≡ (t || not (bytes_eq (max_each row src) old))
touched-again t r old row src above is = let marked = still_marked old row src above in grind arith

-- the marks, one edge more
pub along-marks : (own : List (List ℕ)) (edges : List (ℕ × ℕ)) (rows : List (List ℕ)) (k : ℕ) (d : ℕ × ℕ) (old marks : List Bool) (r : Bool) → k < length edges → (get_or edges k d).1 < length rows → length marks ≡ length rows →
    ((r ≡ false) ↔ (max_each (get_or (rows_along own (take k edges) rows) (get_or edges k d).1 []) (get_or own (get_or edges k d).0 []) ≡ get_or (rows_along own (take k edges) rows) (get_or edges k d).1 [])) →
    ((i : ℕ) → i < length rows → get_or marks i false ≡ touched_at old rows (rows_along own (take k edges) rows) i) →
    (i : ℕ) → i < length rows → get_or (set marks (get_or edges k d).1 (get_or marks (get_or edges k d).1 false || r)) i false ≡ touched_at old rows (rows_along own (take (k + 1) edges) rows) i
along-marks own edges rows k d old marks r lt inside count tells so_far i within =
    let e = get_or edges k d in
    let p = e.1 in
    let src = get_or own e.0 [] in
    let now = rows_along own (take k edges) rows in
    let long : length now ≡ length rows = length-along own (take k edges) rows in
    let is : r ≡ not (bytes_eq (max_each (get_or now p []) src) (get_or now p [])) = changed_is r _ _ tells in
    let above : max_each (get_or rows p []) (get_or now p []) ≡ get_or now p [] = along-above own (take k edges) (get_or rows p []) rows p inside (max_each-repeats (get_or rows p [])) in
    let here : (get_or marks p false || r) ≡ (get_or old p false || not (bytes_eq (max_each (get_or now p []) src) (get_or rows p []))) =
    ap (λ b. b || r) (so_far p inside) ∙ touched-again (get_or old p false) r (get_or rows p []) (get_or now p []) src above is in
    let new : set now p (max_each (get_or now p []) src) ≡ rows_along own (take (k + 1) edges) rows = along-more own edges rows k d lt inside in
    subst (λ rs. get_or (set marks p (get_or marks p false || r)) i false ≡ touched_at old rows rs i) new (grind (arith, nat_tests, get_or-set_same, get_or-set_other))

-- marks that said which accumulators differ from any rows still do
pub along-stays : (own : List (List ℕ)) (edges : List (ℕ × ℕ)) (old : List (List ℕ)) (before after : List Bool) → length after ≡ length before → MarksChanges before old (rows_along own edges old) after →
    StayTouched old before (rows_along own edges old) after
along-stays own edges old before after long marks rows was = record {
  count = length-along own edges old ∙ was.count;
  marks = long ∙ was.marks;
  above = λ i lt. along-above own edges (get_or rows i []) old i (omega (arith, was.count, lt)) (was.above i lt);
  differ = λ i lt.
      let inside : i < length old = omega (arith, was.count, lt) in
      let new = get_or (rows_along own edges old) i [] in
      let over : max_each (get_or old i []) new ≡ new = along-above own edges (get_or old i []) old i inside (max_each-repeats (get_or old i [])) in
      let marked : (not (bytes_eq (get_or old i []) (get_or rows i [])) || not (bytes_eq new (get_or old i []))) ≡ not (bytes_eq new (get_or rows i [])) = rw over at (still_marked (get_or rows i []) (get_or old i []) new (was.above i lt)) in
      marks i inside ∙ ap (λ b. b || not (bytes_eq new (get_or old i []))) (was.differ i lt) ∙ marked;
}

-- ---- the edges that wait
-- rows that are marked before they are raised, and then raised
pub raised_along : (own : Table) (edges : List (ℕ × ℕ)) (old new : Table) (before seen after : List Bool) → length after ≡ length before → CanRaiseAlong own edges old before → MarksBeforeAlong own.rows edges old.rows before seen → RaisesAlong own.rows edges old new seen after →
    RaisesWaiting own edges old new before after
raised_along own edges old new before seen after long can marked raised =
    let rows : new.rows ≡ rows_along own.rows edges old.rows = ap (λ (t : Table). t.rows) raised.rows in
    let width : new.width ≡ old.width = ap (λ (t : Table). t.width) raised.rows in
    let count : length new.rows ≡ length old.rows = ap length rows ∙ length-along own.rows edges old.rows in
    let marks : MarksChanges before old.rows (rows_along own.rows edges old.rows) after = λ i lt. raised.marks i lt ∙ ap (λ (rs : List (List ℕ)). touched_at seen old.rows rs i) rows ∙ marked i lt in
    record {
      rows = raised.rows;
      touched = subst (λ (rs : List (List ℕ)). StayTouched old.rows before rs after) (sym rows) (along-stays own.rows edges old.rows before after long marks);
      can = record {
        from = λ k d lt. absurd (omega arith);
        to = λ k d lt. absurd (omega arith);
        width = can.width ∙ sym width;
        marks = long ∙ can.marks ∙ sym count;
      };
    }

-- one edge more can wait
edge_waits : (own : Table) (i place : ℕ) (edges : List (ℕ × ℕ)) (rows : Table) (touched : List Bool) → CanAddEdges own i (place ∷ []) edges rows touched → CanRaiseAlong own (edges ++ (i, place) ∷ []) rows touched
edge_waits own i place edges rows touched adds =
    let inside : place < length rows.rows = adds.inside 0 0 (omega arith) in
    record {
      from = All-push (λ (e : ℕ × ℕ). e.0 < length own.rows) edges (i, place) adds.can.from adds.row;
      to = All-push (λ (e : ℕ × ℕ). e.1 < length rows.rows) edges (i, place) adds.can.to inside;
      width = adds.can.width;
      marks = adds.can.marks;
    }

-- it does
pub edge_added : (own : Table) (i place : ℕ) (was now : List (ℕ × ℕ)) (rows : Table) (touched : List Bool) → now ≡ was ++ (i, place) ∷ [] → length now < 16 → CanAddEdges own i (place ∷ []) was rows touched →
    AddsEdges own i (place ∷ []) was now rows rows touched touched
edge_added own i place was now rows touched is few adds = record {
  rows = ap (λ es. rows_along own.rows es rows.rows) is ∙ along-added own.rows was i place rows.rows;
  count = refl;
  width = refl;
  touched = λ own_rows h. h;
  can = subst (λ es. CanRaiseAlong own es rows touched) (sym is) (edge_waits own i place was rows touched adds);
  few = few;
}

-- or all that wait are raised
pub edge_raised : (own : Table) (i place : ℕ) (was full now : List (ℕ × ℕ)) (old new : Table) (before after : List Bool) → full ≡ was ++ (i, place) ∷ [] → now ≡ [] → RaisesWaiting own full old new before after →
    AddsEdges own i (place ∷ []) was now old new before after
edge_raised own i place was full now old new before after is none raised =
    let rows : new.rows ≡ rows_along own.rows full old.rows = ap (λ (t : Table). t.rows) raised.rows in
    record {
      rows = ap (λ es. rows_along own.rows es new.rows) none ∙ along-none own.rows new.rows ∙ rows
          ∙ ap (λ es. rows_along own.rows es old.rows) is ∙ along-added own.rows was i place old.rows;
      count = ap length rows ∙ length-along own.rows full old.rows;
      width = ap (λ (t : Table). t.width) raised.rows;
      touched = raised.touched;
      can = subst (λ es. CanRaiseAlong own es new after) (sym none) raised.can;
      few = let empty = ap length none in omega arith;
    }

-- no place yet
pub none_added : (own : Table) (i : ℕ) (edges : List (ℕ × ℕ)) (rows : Table) (touched : List Bool) → CanRaiseAlong own edges rows touched → length edges < 16 → AddsEdges own i [] edges edges rows rows touched touched
none_added own i edges rows touched can few = record {
  rows = spread-none (get_or own.rows i []) (rows_along own.rows edges rows.rows);
  count = refl;
  width = refl;
  touched = λ own_rows h. h;
  can = can;
  few = few;
}

-- the first places, and one more
pub more_added : (own : Table) (i : ℕ) (places : List ℕ) (k d : ℕ) (was mid now : List (ℕ × ℕ)) (old half new : Table) (before between after : List Bool) → k < length places → AddsEdges own i (take k places) was mid old half before between → AddsEdges own i (get_or places k d ∷ []) mid now half new between after →
    AddsEdges own i (take (k + 1) places) was now old new before after
more_added own i places k d was mid now old half new before between after lt first then = record {
  rows = then.rows ∙ ap (rows_after (get_or places k d ∷ []) (get_or own.rows i [])) first.rows ∙ places-more places (get_or own.rows i []) k d (rows_along own.rows was old.rows) lt;
  count = then.count ∙ first.count;
  width = then.width ∙ first.width;
  touched = λ own_rows h. then.touched own_rows (first.touched own_rows h);
  can = then.can;
  few = then.few;
}

-- where none waits
pub none_waits : (own : Table) (edges : List (ℕ × ℕ)) (rows : Table) (touched : List Bool) → edges ≡ [] → own.width ≡ rows.width → length touched ≡ length rows.rows → CanRaiseAlong own edges rows touched
none_waits own edges rows touched none wide marks =
    let empty = ap length none in
    record {
      from = λ k d lt. absurd (omega arith);
      to = λ k d lt. absurd (omega arith);
      width = wide;
      marks = marks;
    }
