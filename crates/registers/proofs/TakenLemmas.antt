-- Rows that are taken over, block by block.
use Rattle.std.proofs.Common.{◌≡◌, ℕ, ◌+◌, ◌-◌, ◌*◌, ◌<◌, ◌≤◌, Bool, false, List, [], ◌++◌, length, get_or, set, refl, ap, ap₂, sym, ◌∙◌, arith, inl, inr}
use Rattle.std.proofs.lemmas.Bool.{cases_lt}
use Rattle.std.proofs.lemmas.List.{get_or-append_right, get_or_append_left, get_or-set_other, get_or-set_same, get_or_default, length-append, same_lists}
use Rattle.ball_model.specs.Table.{Table, pieces}
use Rattle.registers.specs.Lending.{with_cells}
use Rattle.registers.specs.Differ.{DifferWhere, room_for}
use Rattle.registers.specs.Taken.{AreThoseFrom, CanTakeBlock}
use Rattle.registers.proofs.TableLemmas.{length-pieces, pieces-append, same_table, with_all_cells}

-- ---- a list that is written at one place
pub set_done : (F : ℕ → List ℕ) (xs : List (List ℕ)) (y : List ℕ) (i : ℕ) → i < length xs → y ≡ F i → ((k : ℕ) → k < i → get_or xs k [] ≡ F k) → (k : ℕ) → k < i + 1 → get_or (set xs i y) k [] ≡ F k
set_done F xs y i lt is done k below = grind (arith, get_or-set_other, get_or-set_same)

pub set_rest : (F : ℕ → List ℕ) (xs : List (List ℕ)) (y : List ℕ) (i : ℕ) → ((k : ℕ) → i ≤ k → get_or xs k [] ≡ F k) → (k : ℕ) → i + 1 ≤ k → get_or (set xs i y) k [] ≡ F k
set_rest F xs y i rest k low = grind (arith, get_or-set_other)

-- ---- two halves
pub first_can : (table : Table) (marks first last : List Bool) (from : ℕ) (cells front back : List ℕ) → CanTakeBlock table marks from cells → marks ≡ first ++ last → cells ≡ front ++ back → length front ≡ length first * table.width → CanTakeBlock table first from front
first_can table marks first last from cells front back can split cut filled =
    let w = table.width in
    let m = length first in
    let n = length last in
    let size : length marks ≡ m + n = ap length split ∙ length-append first last in
    let rows : pieces w (length marks) cells ≡ pieces w m front ++ pieces w n back = ap₂ (pieces w) size cut ∙ pieces-append w m n front back filled in
    record {
      inside = omega (arith, can.inside, size);
      filled = filled;
      same = λ k lt off.
          let mark : get_or marks k false ≡ get_or first k false = ap (λ l. get_or l k false) split ∙ get_or_append_left first last false k lt in
          let row : get_or (pieces w (length marks) cells) k [] ≡ get_or (pieces w m front) k [] = ap (λ l. get_or l k []) rows ∙ get_or_append_left (pieces w m front) (pieces w n back) [] k (omega (arith, length-pieces w m front, lt)) in
          sym row ∙ can.same k (omega (arith, size, lt)) (mark ∙ off);
    }

pub last_can : (table : Table) (marks first last : List Bool) (from up : ℕ) (cells front back : List ℕ) → CanTakeBlock table marks from cells → marks ≡ first ++ last → cells ≡ front ++ back → length front ≡ length first * table.width → up ≡ from + length first → CanTakeBlock table last up back
last_can table marks first last from up cells front back can split cut filled next =
    let w = table.width in
    let m = length first in
    let n = length last in
    let size : length marks ≡ m + n = ap length split ∙ length-append first last in
    let rows : pieces w (length marks) cells ≡ pieces w m front ++ pieces w n back = ap₂ (pieces w) size cut ∙ pieces-append w m n front back filled in
    let total : length cells ≡ length front + length back = ap length cut ∙ length-append front back in
    let both : length marks * w ≡ m * w + n * w = ap (λ k. k * w) size ∙ omega arith in
    record {
      inside = omega (arith, can.inside, size, next);
      filled = omega (arith, total, can.filled, both, filled);
      same = λ k lt off.
          let past : (m + k) - m ≡ k = omega arith in
          let mark : get_or marks (m + k) false ≡ get_or last k false = ap (λ l. get_or l (m + k) false) split ∙ get_or-append_right first last m (m + k) false refl (omega arith) ∙ ap (λ j. get_or last j false) past in
          let row : get_or (pieces w (length marks) cells) (m + k) [] ≡ get_or (pieces w n back) k [] =
          ap (λ l. get_or l (m + k) []) rows ∙ get_or-append_right (pieces w m front) (pieces w n back) m (m + k) [] (length-pieces w m front) (omega arith) ∙ ap (λ j. get_or (pieces w n back) j []) past in
          sym row ∙ can.same (m + k) (omega (arith, size, lt)) (mark ∙ off) ∙ ap (λ j. get_or table.rows j []) (omega (arith, next));
    }

pub both_taken : (table : Table) (from up m n size : ℕ) (front back : List ℕ) → length front ≡ m * table.width → size ≡ m + n → up ≡ from + m →
    AreThoseFrom table from (pieces table.width m front) m → AreThoseFrom table up (pieces table.width n back) n → AreThoseFrom table from (pieces table.width size (front ++ back)) size
both_taken table from up m n size front back filled all next left right k lt =
    let w = table.width in
    let rows : pieces w size (front ++ back) ≡ pieces w m front ++ pieces w n back = ap (λ j. pieces w j (front ++ back)) all ∙ pieces-append w m n front back filled in
    ap (λ l. get_or l k []) rows
    ∙ elim (cases_lt k m) [
      | inl below ↦ get_or_append_left (pieces w m front) (pieces w n back) [] k (omega (arith, length-pieces w m front, below)) ∙ left k below
      | inr above ↦
          get_or-append_right (pieces w m front) (pieces w n back) m k [] (length-pieces w m front) above ∙ right (k - m) (omega (arith, all, lt, above)) ∙ ap (λ j. get_or table.rows j []) (omega (arith, next, above))
    ]

-- ---- all rows
pub can_take : (rows ahead : Table) (marks : List Bool) (cells : List ℕ) → DifferWhere marks rows ahead → pieces rows.width (length rows.rows) cells ≡ rows.rows → length cells ≡ room_for rows → CanTakeBlock ahead marks 0 cells
can_take rows ahead marks cells differ shown long = record {
  inside = omega (arith, differ.marked, differ.count);
  filled = long ∙ ap₂ (λ n w. n * w) (sym differ.marked) differ.width;
  same = λ k lt off.
      ap (λ l. get_or l k []) (ap₂ (λ w n. pieces w n cells) (sym differ.width) differ.marked ∙ shown) ∙ differ.same k (omega (arith, differ.marked, lt)) off
      ∙ ap (λ j. get_or ahead.rows j []) (omega arith);
}

pub all_taken : (rows ahead : Table) (marks : List Bool) (last : List ℕ) → DifferWhere marks rows ahead → length last ≡ room_for rows → AreThoseFrom ahead 0 (pieces ahead.width (length marks) last) (length marks) → with_cells rows last ≡ ahead
all_taken rows ahead marks last differ long those =
    let new = (with_cells rows last).rows in
    let is : new ≡ pieces ahead.width (length marks) last = with_all_cells rows last long ∙ ap₂ (λ w n. pieces w n last) differ.width (sym differ.marked) in
    let count : length new ≡ length ahead.rows = ap length is ∙ length-pieces ahead.width (length marks) last ∙ differ.marked ∙ differ.count in
    same_table (with_cells rows last) ahead differ.width
    (same_lists new ahead.rows count
    (λ k d lt.
    get_or_default new k d [] lt ∙ ap (λ l. get_or l k []) is ∙ those k (omega (arith, lt, count, differ.marked, differ.count)) ∙ ap (λ j. get_or ahead.rows j []) (omega arith)
    ∙ sym (get_or_default ahead.rows k d [] (omega (arith, count, lt)))))
