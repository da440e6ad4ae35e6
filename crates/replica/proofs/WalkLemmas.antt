-- Rows that are pulled, and figures that follow them in the same walk.
use Rattle.std.proofs.Common.{◌≡◌, take, ℕ, ◌+◌, ◌*◌, ◌/◌, ◌<◌, ◌≤◌, Bool, true, false, not, ◌||◌, List, [], ◌∷◌, ◌++◌, map, length, get_or, drop, refl, ap, ap₂, sym, ◌∙◌, arith, subst}
use Rattle.std.proofs.Math.Seq.{take-add}
use Rattle.replica.proofs.Names.{AllByRecursion, bytes_eq, drop-drop, drop_at, estimate_with, get_or-drop, get_or-take, IsTrue, length-append, length-drop, length-map, length-take-le, map-append, max_each, Measure, no_figures, PartValue, Table, TallyValue, take-append-drop, take_at, value_of, weight_of, Tally}
use Rattle.ball_model.specs.Laws.{IsCounterRow}
use Rattle.ball_model.specs.Table.{pieces}
use Rattle.ball_model.proofs.EstimateLemmas.{estimate_by-grows_wide}
use Rattle.registers.proofs.TableLemmas.{get_or-pieces, length-pieces, pieces-append, row_within}
use Rattle.registers.specs.Shape.{piece_at, with_piece}
use Rattle.replica.specs.Kept.{AreCounters, RowRises}
use Rattle.replica.specs.Level.{next_tally}
use Rattle.replica.specs.Pull.{is_told, pulled_row, raised_over, told_rows, CanPull, PullsRows}
use Rattle.replica.specs.Tables.{CanStepRow, IsStepped}
use Rattle.replica.specs.Stepping.{StepsBlock}
use Rattle.replica.specs.Walk.{CanWalkBlock, CanWalkRow, IsPieceOf, IsRowAhead, WalksBlock, fresh_row, fresh_rows}
use Rattle.replica.proofs.KeptLemmas.Rise.{max_rises, same_registers}
use Rattle.replica.proofs.PullLemmas.{all_passing, first_can_pull, last_can_pull, pulls_both, raised-marked, told-inside}
use Rattle.replica.proofs.SteppingLemmas.{in_first, in_last, steps_both}
use Rattle.replica.proofs.TalliesLemmas.{still}

-- a piece that was put among registers
pub piece_put : (w k : ℕ) (cells row : List ℕ) → length row ≡ w → k * w + w ≤ length cells → piece_at w k (with_piece w k row cells) ≡ row
piece_put w k cells row wide ends =
    ap (take w) (drop_at (take (k * w) cells) (row ++ drop (k * w + w) cells) (k * w) (length-take-le (k * w) cells (omega arith)))
    ∙ take_at row (drop (k * w + w) cells) w wide

-- a piece that stands there already
pub piece_stays : (w k : ℕ) (cells : List ℕ) → with_piece w k (piece_at w k cells) cells ≡ cells
piece_stays w k cells =
    ap (λ rest. take (k * w) cells ++ (piece_at w k cells ++ rest)) (sym (drop-drop w (k * w) cells))
    ∙ ap (λ rest. take (k * w) cells ++ rest) (take-append-drop w (drop (k * w) cells))
    ∙ take-append-drop (k * w) cells

-- a piece that is put in the place of another one that was put there
pub piece_twice : (w k : ℕ) (cells row new : List ℕ) → length row ≡ w → k * w + w ≤ length cells → with_piece w k new (with_piece w k row cells) ≡ with_piece w k new cells
piece_twice w k cells row new wide ends =
    let front = take (k * w) cells in
    let back = drop (k * w + w) cells in
    let long : length front ≡ k * w = length-take-le (k * w) cells (omega arith) in
    ap₂ (λ (x y : List ℕ). x ++ (new ++ y)) (take_at front (row ++ back) (k * w) long)
    (sym (drop-drop w (k * w) (front ++ (row ++ back))) ∙ ap (drop w) (drop_at front (row ++ back) (k * w) long) ∙ drop_at row back w wide)

-- what is accumulated for a row is fresh if it is not stale, or if the row is not marked
pub fresh_same : (stale : Bool) (own : Table) (marks : List Bool) (i : ℕ) (row : List ℕ) → IsPieceOf stale own marks i row → (IsTrue stale → get_or marks i false ≡ false) → fresh_row stale own i row ≡ row
fresh_same true own marks i row is off = sym (is.same refl (off refl))
fresh_same false own marks i row is off = refl

-- ---- one row

rises_on : (b : ℕ) (x y z : List ℕ) → IsCounterRow b x → RowRises b x y → RowRises b y z → RowRises b x z
rises_on b x y z is f g = record {
  row = g.row;
  grew = λ k lt. let one = f.grew k lt in let two = g.grew k (omega (arith, lt, is.width, f.row.width)) in omega (arith, one, two);
}

-- a row that is raised by counters rises
raised_rises : (b : ℕ) (row acc : List ℕ) (others : List (List ℕ)) → IsCounterRow b row → RowRises b row acc → AllByRecursion (IsCounterRow b) others → RowRises b row (raised_over acc others)
unfolding raised_over
raised_rises b row acc [] is rise all = rise
raised_rises b row acc (other ∷ rest) is rise all =
    raised_rises b row (max_each acc other) rest is (rises_on b row acc (max_each acc other) is rise (max_rises b acc other rise.row all.0)) all.1

-- and rows of own predecessors are counters
told_counters : (b : ℕ) (part : PartValue) (own : Table) (marks : List Bool) (zs : List ℕ) → CanPull part own marks → AreCounters b own.rows → AllByRecursion (IsCounterRow b) (told_rows part.plan.parts part.number own.rows marks zs)
unfolding told_rows
told_counters b part own marks zs can are =
    all_passing (IsCounterRow b) (λ z. get_or own.rows (z / part.plan.parts) []) (is_told part.plan.parts part.number marks) zs
    (λ z in_list told. are.row (z / part.plan.parts) (told-inside part.plan.parts part.number marks z (length own.rows) (can.each ∙ sym can.count) told))

-- what a row that is ahead becomes as it is pulled
pub record IsPulled (m : Measure) (row acc new : List ℕ) (touched : Bool) : Type 0 where
  pub rise : RowRises m.log2m row new
  pub counter : IsCounterRow m.log2m row
  pub differ : (touched || not (bytes_eq new acc)) ≡ not (bytes_eq new row)

pub pulled_ahead : (m : Measure) (part : PartValue) (own : Table) (marks : List Bool) (i : ℕ) (acc : List ℕ) (touched : Bool) (weight last : ℕ) → CanPull part own marks → i < length part.preds → AreCounters m.log2m own.rows →
    IsRowAhead m (get_or own.rows i []) acc touched weight last → IsPulled m (get_or own.rows i []) acc (pulled_row part own.rows marks i acc) touched
pulled_ahead m part own marks i acc touched weight last can vertex are ahead =
    let row = get_or own.rows i [] in
    let others = told_rows part.plan.parts part.number own.rows marks (get_or part.preds i []) in
    let counter : IsCounterRow m.log2m row = are.row i (omega (arith, vertex, can.count)) in
    record {
      rise = raised_rises m.log2m row acc others counter ahead.rise (told_counters m.log2m part own marks (get_or part.preds i []) can are);
      counter = counter;
      differ = ap (λ b. b || not (bytes_eq (raised_over acc others) acc)) ahead.differ ∙ raised-marked row acc (raised_over acc others) others ahead.above refl;
    }

-- its figures can follow
pub can_follow : (m : Measure) (t : ℕ) (row acc new : List ℕ) (touched : Bool) (weight last : ℕ) → 0 < t → t ≤ 4096 → IsRowAhead m row acc touched weight last → IsPulled m row acc new touched → CanStepRow m t row new weight last
can_follow m t row acc new touched weight last low high ahead is = record {
  from = low;
  to = high;
  row = is.counter;
  ahead = is.rise.row;
  weight = ahead.weight;
  grown = rw ahead.last_is (grind (arith, estimate_by-grows_wide, is.rise, is.counter));
}

-- where it is not marked they stay
pub stays_behind : (m : Measure) (t : ℕ) (row acc new : List ℕ) (touched : Bool) (weight : ℕ) (figures : TallyValue) → 0 < t → IsRowAhead m row acc touched weight figures.last → IsPulled m row acc new touched → (touched || not (bytes_eq new acc)) ≡ false → IsStepped m t new figures figures weight 0
stays_behind m t row acc new touched weight figures low ahead is off =
    let same : new ≡ row = same_registers new row (sym is.differ ∙ off) in
    let last : figures.last ≡ estimate_with m new = ahead.last_is ∙ ap (estimate_with m) (sym same) in
    record {
      figures = sym (still t (estimate_with m new) figures low last);
      weight = ahead.weight ∙ ap weight_of (sym same);
      gain = omega arith;
      small = omega arith;
    }

-- ---- rows of a block

-- what a block has is fresh row by row
pub fresh_at : (stale : Bool) (own : Table) (from n : ℕ) (cells : List ℕ) (k : ℕ) → k < n → get_or (fresh_rows stale own from n cells) k [] ≡ fresh_row stale own (from + k) (get_or (pieces own.width n cells) k [])
fresh_at true own from n cells k lt = get_or-take n (drop from own.rows) k [] lt ∙ get_or-drop from own.rows k []
fresh_at false own from n cells k lt = refl

pub length-fresh : (stale : Bool) (own : Table) (from n : ℕ) (cells : List ℕ) → from + n ≤ length own.rows → length (fresh_rows stale own from n cells) ≡ n
length-fresh true own from n cells fits = length-take-le n (drop from own.rows) (omega (arith, length-drop from own.rows, fits))
length-fresh false own from n cells fits = length-pieces own.width n cells

-- and half by half
pub fresh_both : (stale : Bool) (own : Table) (from up m n : ℕ) (front back : List ℕ) → length front ≡ m * own.width → up ≡ from + m → fresh_rows stale own from (m + n) (front ++ back) ≡ fresh_rows stale own from m front ++ fresh_rows stale own up n back
fresh_both true own from up m n front back filled next = take-add m n (drop from own.rows) ∙ ap (λ rest. take m (drop from own.rows) ++ take n rest) (drop-drop m from own.rows ∙ ap (λ k. drop k own.rows) (sym next))
fresh_both false own from up m n front back filled next = pieces-append own.width m n front back filled

-- a row of a block that was not walked over yet
pub can_walk_here : (m : Measure) (t : ℕ) (part : PartValue) (stale : Bool) (own : Table) (marks : List Bool) (from : ℕ) (old : List ℕ) (touched : List Bool) (weights : List ℕ) (tallies : List TallyValue) → CanWalkBlock m t part stale own marks from old touched weights tallies →
    (cells : List ℕ) (k : ℕ) (mark : Bool) (weight last : ℕ) → k < length touched → length cells ≡ length old → get_or (pieces own.width (length touched) cells) k [] ≡ get_or (pieces own.width (length touched) old) k [] →
    mark ≡ get_or touched k false → weight ≡ get_or weights k 0 → last ≡ (get_or tallies k no_figures).last → CanWalkRow m t part stale own marks from k cells mark weight last
can_walk_here m t part stale own marks from old touched weights tallies can cells k mark weight last lt long row is own_weight own_last =
    let w = own.width in
    let n = length touched in
    let ends : k * w + w ≤ n * w = row_within w n k lt in
    let piece : piece_at w k cells ≡ get_or (pieces w n old) k [] = sym (get_or-pieces w n cells k lt) ∙ row in
    record {
      low = can.low;
      high = can.high;
      counters = can.counters;
      within = omega (arith, ends, long, can.pull.filled);
      piece = rw piece (can.each_is k lt);
      can = record {
        can = can.pull.can;
        vertex = omega (arith, can.pull.inside, lt);
        wide = length-take-le w (drop (k * w) cells) (omega (arith, length-drop (k * w) cells, ends, long, can.pull.filled));
      };
      ahead = rw (piece, ← fresh_at stale own from n old k lt, is, own_weight, own_last) (can.ahead k lt);
    }

-- the halves of a block
pub first_can_walk : (m : Measure) (t : ℕ) (part : PartValue) (stale : Bool) (own : Table) (marks : List Bool) (from : ℕ) (cells front back : List ℕ) (touched first last : List Bool) (weights light heavy : List ℕ) (tallies low high : List TallyValue) → CanWalkBlock m t part stale own marks from cells touched weights tallies →
    cells ≡ front ++ back → touched ≡ first ++ last → weights ≡ light ++ heavy → tallies ≡ low ++ high → length front ≡ length first * own.width → length light ≡ length first → length low ≡ length first → CanWalkBlock m t part stale own marks from front first light low
first_can_walk m t part stale own marks from cells front back touched first last weights light heavy tallies low high can cut split weigh figures filled wide long =
    let w = own.width in
    let n = length first in
    let l = length last in
    let size : length touched ≡ n + l = ap length split ∙ length-append first last in
    let rows : pieces w (length touched) cells ≡ pieces w n front ++ pieces w l back = ap₂ (λ n l. pieces w n l) size cut ∙ pieces-append w n l front back filled in
    let fresh : fresh_rows stale own from (length touched) cells ≡ fresh_rows stale own from n front ++ fresh_rows stale own (from + n) l back = ap₂ (λ n l. fresh_rows stale own from n l) size cut ∙ fresh_both stale own from (from + n) n l front back filled refl in
    let fits : from + n ≤ length own.rows = omega (arith, can.pull.inside, can.pull.can.count, size) in
    record {
      low = can.low;
      high = can.high;
      counters = can.counters;
      pull = first_can_pull part own marks from cells front touched first last can.pull split filled;
      each = wide;
      all = long;
      each_is = λ k lt. rw (sym (in_first (pieces w (length touched) cells) (pieces w n front) (pieces w l back) k [] rows (omega (arith, length-pieces w n front, lt)))) (can.each_is k (omega (arith, size, lt)));
      ahead = λ k lt.
          rw (
            sym (in_first (fresh_rows stale own from (length touched) cells) (fresh_rows stale own from n front) (fresh_rows stale own (from + n) l back) k [] fresh (omega (arith, length-fresh stale own from n front fits, lt))),
            sym (in_first touched first last k false split lt),
            sym (in_first weights light heavy k 0 weigh (omega (arith, wide, lt))),
            sym (in_first tallies low high k no_figures figures (omega (arith, long, lt))),
          )
          (can.ahead k (omega (arith, size, lt)));
    }

pub last_can_walk : (m : Measure) (t : ℕ) (part : PartValue) (stale : Bool) (own : Table) (marks : List Bool) (from up : ℕ) (cells front back : List ℕ) (touched first last : List Bool) (weights light heavy : List ℕ) (tallies low high : List TallyValue) → CanWalkBlock m t part stale own marks from cells touched weights tallies →
    cells ≡ front ++ back → touched ≡ first ++ last → weights ≡ light ++ heavy → tallies ≡ low ++ high → length front ≡ length first * own.width → length light ≡ length first → length low ≡ length first → up ≡ from + length first → CanWalkBlock m t part stale own marks up back last heavy high
last_can_walk m t part stale own marks from up cells front back touched first last weights light heavy tallies low high can cut split weigh figures filled wide long next =
    let w = own.width in
    let n = length first in
    let l = length last in
    let size : length touched ≡ n + l = ap length split ∙ length-append first last in
    let rows : pieces w (length touched) cells ≡ pieces w n front ++ pieces w l back = ap₂ (λ n l. pieces w n l) size cut ∙ pieces-append w n l front back filled in
    let fresh : fresh_rows stale own from (length touched) cells ≡ fresh_rows stale own from n front ++ fresh_rows stale own up l back = ap₂ (λ n l. fresh_rows stale own from n l) size cut ∙ fresh_both stale own from up n l front back filled next in
    let fits : from + n ≤ length own.rows = omega (arith, can.pull.inside, can.pull.can.count, size) in
    record {
      low = can.low;
      high = can.high;
      counters = can.counters;
      pull = last_can_pull part own marks from up cells front back touched first last can.pull cut split filled next;
      each = omega (arith, ap length weigh ∙ length-append light heavy, can.each, size, wide);
      all = omega (arith, ap length figures ∙ length-append low high, can.all, size, long);
      each_is = λ k lt.
          let place : from + (n + k) ≡ up + k = omega (arith, next) in
          rw (sym place, sym (in_last (pieces w (length touched) cells) (pieces w n front) (pieces w l back) n k [] rows (length-pieces w n front))) (can.each_is (n + k) (omega (arith, size, lt)));
      ahead = λ k lt.
          let place : from + (n + k) ≡ up + k = omega (arith, next) in
          rw (
            sym place,
            sym (in_last (fresh_rows stale own from (length touched) cells) (fresh_rows stale own from n front) (fresh_rows stale own up l back) n k [] fresh (length-fresh stale own from n front fits)),
            sym (in_last touched first last n k false split refl),
            sym (in_last weights light heavy n k 0 weigh wide),
            sym (in_last tallies low high n k no_figures figures long),
          )
          (can.ahead (n + k) (omega (arith, size, lt)));
    }

-- figures speak of the rows that they were stepped to, wherever these stand
stepped_there : (m : Measure) (t : ℕ) (a b : Table) (from up : ℕ) (before after : List TallyValue) (own : List ℕ) (gained : ℕ) → ((k : ℕ) → k < length before → get_or a.rows (from + k) [] ≡ get_or b.rows (up + k) []) → StepsBlock m t a from before after own gained → StepsBlock m t b up before after own gained
stepped_there m t a b from up before after own gained same steps = record {
  count = steps.count;
  figures = λ k lt. steps.figures k lt ∙ ap (λ r. next_tally t (get_or before k no_figures) (estimate_with m r)) (same k lt);
  weights = λ k lt. steps.weights k lt ∙ ap weight_of (same k lt);
  gain = steps.gain;
  small = steps.small;
}

-- the registers of a block, as a table
abbrev table_at : ℕ → ℕ → List ℕ → Table
table_at w n cells = record { width = w; rows = pieces w n cells }

pub halves_walked : (m : Measure) (t : ℕ) (part : PartValue) (stale : Bool) (own : Table) (marks : List Bool) (from up : ℕ) (cells front back left right : List ℕ) (touched first last before after : List Bool) (tallies low high one two : List Tally) (light heavy : List ℕ) (g h : ℕ) →
    from + length touched ≤ length own.rows → cells ≡ front ++ back → touched ≡ first ++ last → tallies ≡ low ++ high → up ≡ from + length first → length front ≡ length first * own.width → length left ≡ length front → length before ≡ length first → length low ≡ length first → length light ≡ length first →
    WalksBlock m t part stale own marks from front left first before (map value_of low) (map value_of one) light g → WalksBlock m t part stale own marks up back right last after (map value_of high) (map value_of two) heavy h →
    WalksBlock m t part stale own marks from cells (left ++ right) touched (before ++ after) (map value_of tallies) (map value_of (one ++ two)) (light ++ heavy) (g + h)
halves_walked m t part stale own marks from up cells front back left right touched first last before after tallies low high one two light heavy g h fits cut split figures next filled long stays lows weigh a b =
    let w = own.width in
    let n = length first in
    let l = length last in
    let size : length touched ≡ n + l = ap length split ∙ length-append first last in
    let fresh : fresh_rows stale own from (length touched) cells ≡ fresh_rows stale own from n front ++ fresh_rows stale own (from + n) l back = ap₂ (λ n l. fresh_rows stale own from n l) size cut ∙ fresh_both stale own from (from + n) n l front back filled refl in
    let rows : pieces w (length touched) (left ++ right) ≡ pieces w n left ++ pieces w l right = ap (λ k. pieces w k (left ++ right)) size ∙ pieces-append w n l left right (long ∙ filled) in
    let other : PullsRows part own.rows marks (from + n) (fresh_rows stale own (from + n) l back) (pieces w l right) last after = subst (λ k. PullsRows part own.rows marks k (fresh_rows stale own k l back) (pieces w l right) last after) next b.pulls in
    let whole = table_at w (length touched) (left ++ right) in
    let count : length (map value_of low) ≡ n = length-map low value_of ∙ lows in
    let at : (k : ℕ) → 0 + k ≡ k = λ k. omega arith in
    let lower : StepsBlock m t whole 0 (map value_of low) (map value_of one) light g =
    stepped_there m t (table_at w n left) whole 0 0 (map value_of low) (map value_of one) light g
    (λ k lt. ap (λ j. get_or (pieces w n left) j []) (at k) ∙ sym (in_first (pieces w (length touched) (left ++ right)) (pieces w n left) (pieces w l right) k [] rows (omega (arith, length-pieces w n left, count, lt))) ∙ ap (λ j. get_or whole.rows j []) (sym (at k))) a.steps in
    let upper : StepsBlock m t whole n (map value_of high) (map value_of two) heavy h =
    stepped_there m t (table_at w l right) whole 0 n (map value_of high) (map value_of two) heavy h
    (λ k lt. ap (λ j. get_or (pieces w l right) j []) (at k) ∙ sym (in_last (pieces w (length touched) (left ++ right)) (pieces w n left) (pieces w l right) n k [] rows (length-pieces w n left))) b.steps in
    record {
      pulls = rw (fresh, rows, split) (pulls_both part own.rows marks from n (fresh_rows stale own from n front) (fresh_rows stale own (from + n) l back) (pieces w n left) (pieces w l right) first last before after (length-fresh stale own from n front (omega (arith, fits, size))) refl stays a.pulls other);
      steps = rw (figures, map-append value_of low high, map-append value_of one two)
          (steps_both m t whole 0 n (map value_of low) (map value_of high) (map value_of one) (map value_of two) light heavy g h (omega (arith, count)) (weigh ∙ sym count) lower upper);
    }
