-- Registers of rows' own, and rows of a table that several batches share.
use Rattle.std.proofs.Common.{◌≡◌, ℕ, zero, suc, ◌+◌, ◌*◌, ◌^◌, ◌<◌, ◌≤◌, List, [], ◌∷◌, ◌++◌, length, get_or, take, drop, refl, sym, ap, subst, ◌∙◌, arith, append_assoc}
use Rattle.std.specs.List.{All, flat_map}
use Rattle.std.specs.Arc.{arc_value}
use Rattle.std.specs.Global.{Vec, Global}
use Rattle.std.specs.declared.sync.Arc.{Arc}
use Rattle.std.specs.Int.{w32, to_be_bytes}
use Rattle.std.proofs.Math.Nat.{suc-mul, zero-mul, add_comm, mul-le-mul_right}
use Rattle.std.proofs.lemmas.Bool.{cases_lt}
use Rattle.std.proofs.Common.{inl, inr}
use Rattle.std.proofs.lemmas.List.{take_at, drop_at, length-append, length-drop, length-take-le, drop-drop, drop_more, append-nil}
use Rattle.std.proofs.Math.ListN.{drop_of_length-le}
use Rattle.ball_model.specs.declared.names.BatchName.{BatchName}
use Rattle.ball_model.specs.PlanValue.{PlanValue}
use Rattle.ball_model.specs.Batches.{BatchValue, IsRow, IsBatch, ids_of, registers_of, row_bytes}
use Rattle.batches.specs.declared.registers.Registers.{Registers}
use Rattle.batches.specs.declared.registers.Registers.TheVariants.{Shared}
use Rattle.batches.specs.Kept.{paired_rows, rows_at, flat_at, batch_of, IsKept}
use Rattle.batches.specs.Held.{flat_of, LieIn, held_of, IsHeld}
use Rattle.batches.proofs.KeptLemmas.{Kept, kept-room, kept-registers, pushed, seen}

abbrev SharedTable : Type 0
SharedTable = Arc (Vec ℕ) Global

abbrev Places : Type 0
Places = Vec ℕ

-- the place behind place p
behind : (p m : ℕ) → (p + 1) * m ≡ p * m + m
behind p m = let e : p + 1 ≡ suc p = omega arith in ap (λ (n : ℕ). n * m) e ∙ suc-mul p m

-- a row of a table has m registers
pub place-length : (m p : ℕ) (table : List ℕ) → (p + 1) * m ≤ length table → length (take m (drop (p * m) table)) ≡ m
place-length m p table lies = length-take-le m (drop (p * m) table) (omega (arith, length-drop (p * m) table, behind p m, lies))

-- the places after the first lie in the table too
lie-after : (m p : ℕ) (table places : List ℕ) → All (λ p. (p + 1) * m ≤ length table) (p ∷ places) → All (λ p. (p + 1) * m ≤ length table) places
lie-after m p table places lie = λ k d lt. lie (suc k) d (omega arith)

lies-first : (m p : ℕ) (table places : List ℕ) → All (λ p. (p + 1) * m ≤ length table) (p ∷ places) → (p + 1) * m ≤ length table
lies-first m p table places lie = lie zero 0 (omega arith)

-- m registers for each place
pub flat_at-length : (m : ℕ) (table places : List ℕ) → All (λ p. (p + 1) * m ≤ length table) places → length (flat_at m table places) ≡ length places * m
unfolding flat_at
flat_at-length m table [] lie = sym (zero-mul m)
flat_at-length m table (p ∷ places) lie =
    let one = place-length m p table (lies-first m p table places lie) in
    let rest = flat_at-length m table places (lie-after m p table places lie) in
    omega (arith, length-append (take m (drop (p * m) table)) (flat_at m table places), one, rest, suc-mul (length places) m)

-- row i is the one at place i of the places
pub flat_at-row : (m i : ℕ) (table places : List ℕ) → All (λ p. (p + 1) * m ≤ length table) places → i < length places
    → take m (drop (i * m) (flat_at m table places)) ≡ take m (drop (get_or places i 0 * m) table)
unfolding flat_at
flat_at-row m i table [] lie lt = absurd (omega arith)
flat_at-row m zero table (p ∷ places) lie lt =
    let row = take m (drop (p * m) table) in
    let rest = flat_at m table places in
    let front : drop (0 * m) (row ++ rest) ≡ row ++ rest = ap (λ (k : ℕ). drop k (row ++ rest)) (zero-mul m) in
    ap (take m) front ∙ take_at row rest m (place-length m p table (lies-first m p table places lie))
flat_at-row m (suc i) table (p ∷ places) lie lt =
    let row = take m (drop (p * m) table) in
    let rest = flat_at m table places in
    let more : m + i * m ≡ suc i * m = add_comm m (i * m) ∙ sym (suc-mul i m) in
    let there : drop (suc i * m) (row ++ rest) ≡ drop (i * m) (drop m (row ++ rest)) = ap (λ (k : ℕ). drop k (row ++ rest)) (sym more) ∙ sym (drop-drop (i * m) m (row ++ rest)) in
    let after : drop m (row ++ rest) ≡ rest = drop_at row rest m (place-length m p table (lies-first m p table places lie)) in
    ap (take m) (there ∙ ap (drop (i * m)) after) ∙ flat_at-row m i table places (lie-after m p table places lie) (omega arith)

-- the rows of vertices whose registers are at places of a table
pub rows_at-flat : (m : ℕ) (table ids places : List ℕ) → All (λ p. (p + 1) * m ≤ length table) places → length ids ≡ length places
    → paired_rows m ids (flat_at m table places) ≡ rows_at m table ids places
unfolding flat_at rows_at paired_rows
rows_at-flat m table [] places lie count = refl
rows_at-flat m table (id ∷ ids) [] lie count = absurd (omega arith)
rows_at-flat m table (id ∷ ids) (p ∷ places) lie count =
    let row = take m (drop (p * m) table) in
    let rest = flat_at m table places in
    let wide : length row ≡ m = place-length m p table (lies-first m p table places lie) in
    let front : take m (row ++ rest) ≡ row = take_at row rest m wide in
    let after : drop m (row ++ rest) ≡ rest = drop_at row rest m wide in
    let ih = rows_at-flat m table ids places (lie-after m p table places lie) (omega arith) in
    ap (λ (t : List ℕ). (id, t) ∷ paired_rows m ids (drop m (row ++ rest))) front
    ∙ ap (λ (t : List ℕ). (id, row) ∷ paired_rows m ids t) after
    ∙ ap (λ (t : List (ℕ × List ℕ)). (id, row) ∷ t) ih

-- a batch over a table
pub shared_is : (plan : PlanValue) (name : BatchName) (changed : ℕ) (table ids places : List ℕ) → All (λ p. (p + 1) * 2 ^ plan.log2m ≤ length table) places → length ids ≡ length places
    → batch_of plan name changed ids (flat_at (2 ^ plan.log2m) table places) ≡ seen plan name changed (rows_at (2 ^ plan.log2m) table ids places)
shared_is plan name changed table ids places lie count = ap (seen plan name changed) (rows_at-flat (2 ^ plan.log2m) table ids places lie count)

pub shared_kept : (plan : PlanValue) (name : BatchName) (changed : ℕ) (table ids places : List ℕ) → All (λ p. (p + 1) * 2 ^ plan.log2m ≤ length table) places → length ids ≡ length places
    → IsBatch (seen plan name changed (rows_at (2 ^ plan.log2m) table ids places))
    → IsKept (batch_of plan name changed ids (flat_at (2 ^ plan.log2m) table places)) ids (flat_at (2 ^ plan.log2m) table places)
shared_kept plan name changed table ids places lie count batch = record {
  batch = subst IsBatch (sym (shared_is plan name changed table ids places lie count)) batch;
  room = flat_at-length (2 ^ plan.log2m) table places lie ∙ ap (λ (n : ℕ). n * 2 ^ plan.log2m) (sym count);
}

-- row i of a batch over a table
pub record IsRowAt (w i : ℕ) (flat table places : List ℕ) : Type 0 where
  pub inside : i < length places
  pub lies : (get_or places i 0 + 1) * w ≤ length table
  pub is : take w (drop (get_or places i 0 * w) table) ≡ take w (drop (i * w) flat)

at_place : (w i : ℕ) (table places : List ℕ) → All (λ p. (p + 1) * w ≤ length table) places → 0 < w → (i + 1) * w ≤ length (flat_at w table places)
    → IsRowAt w i (flat_at w table places) table places
at_place w i table places lie positive room =
    let len = flat_at-length w table places lie in
    let lt : i < length places =
    elim (cases_lt i (length places)) [
      | inl less ↦ less
      | inr most ↦ let much = mul-le-mul_right w most in absurd (omega (arith, much, len, room, behind i w, positive))
    ] in
    record { inside = lt; lies = lie i 0 lt; is = sym (flat_at-row w i table places lie lt) }

pub row_at_place : (w i : ℕ) (r : Registers) (table : SharedTable) (places : Places) → Shared table places ≡ r → LieIn w r → 0 < w → (i + 1) * w ≤ length (flat_of w r)
    → IsRowAt w i (flat_of w r) (arc_value table).items places.items
row_at_place w i r table places same lie positive room =
    let P : Registers → Type 0 = λ x. IsRowAt w i (flat_of w x) (arc_value table).items places.items in
    let lie' = subst (LieIn w) (sym same) lie in
    let room' = subst (λ (x : Registers). (i + 1) * w ≤ length (flat_of w x)) (sym same) room in
    subst P same (at_place w i (arc_value table).items places.items lie' positive room')

-- one row more is copied
pub copied_next : (m i : ℕ) (table places own row own' total : List ℕ) → i < length places → own ++ flat_at m table (drop i places) ≡ total
    → row ≡ take m (drop (get_or places i 0 * m) table) → own' ≡ own ++ row → own' ++ flat_at m table (drop (i + 1) places) ≡ total
unfolding flat_at
copied_next m i table places own row own' total lt so_far is_row is_own =
    let more : drop i places ≡ get_or places i 0 ∷ drop (i + 1) places = drop_more places i 0 lt in
    let row_i = take m (drop (get_or places i 0 * m) table) in
    let later = flat_at m table (drop (i + 1) places) in
    let step : flat_at m table (drop i places) ≡ row_i ++ later = rw more refl in
    rw (is_own, is_row) (append_assoc own row_i later ∙ ap (λ (t : List ℕ). own ++ t) (sym step) ∙ so_far)

-- all rows are copied
pub copied_done : (m i : ℕ) (table places own total : List ℕ) → length places ≤ i → own ++ flat_at m table (drop i places) ≡ total → own ≡ total
unfolding flat_at
copied_done m i table places own total le so_far =
    let none : drop i places ≡ [] = drop_of_length-le places {i = i} le in
    let step : flat_at m table (drop i places) ≡ [] = rw none refl in
    sym (append-nil own) ∙ ap (λ (t : List ℕ). own ++ t) (sym step) ∙ so_far

-- one row more is spelled
pub put_next : (m i : ℕ) (ids flat row out one two total : List ℕ) → i < length ids
    → out ++ flat_map row_bytes (paired_rows m (drop i ids) (drop (i * m) flat)) ≡ total
    → row ≡ take m (drop (i * m) flat) → one ≡ out ++ to_be_bytes w32 (get_or ids i 0) → two ≡ one ++ row
    → two ++ flat_map row_bytes (paired_rows m (drop (i + 1) ids) (drop ((i + 1) * m) flat)) ≡ total
unfolding paired_rows
put_next m i ids flat row out one two total lt so_far is_row is_one is_two =
    let rest = drop (i * m) flat in
    let id = to_be_bytes w32 (get_or ids i 0) in
    let after : drop ((i + 1) * m) flat ≡ drop m rest = ap (λ (k : ℕ). drop k flat) (behind i m) ∙ sym (drop-drop m (i * m) flat) in
    let later = flat_map row_bytes (paired_rows m (drop (i + 1) ids) (drop m rest)) in
    let more : drop i ids ≡ get_or ids i 0 ∷ drop (i + 1) ids = drop_more ids i 0 lt in
    let step : flat_map row_bytes (paired_rows m (drop i ids) rest) ≡ (id ++ take m rest) ++ later = rw more refl in
    rw (is_two, is_one, is_row, after) (ap (λ (t : List ℕ). t ++ later) (append_assoc out id (take m rest)) ∙ append_assoc out (id ++ take m rest) later ∙ ap (λ (t : List ℕ). out ++ t) (sym step) ∙ so_far)

-- a batch whose registers are held otherwise is the same
pub stays_held : (plan : PlanValue) (name : BatchName) (changed w : ℕ) (ids ids' : List ℕ) (r r' : Registers) → w ≡ 2 ^ plan.log2m → IsHeld (held_of plan name changed ids r) ids r
    → ids' ≡ ids → flat_of w r' ≡ flat_of w r → LieIn w r' → IsHeld (held_of plan name changed ids' r') ids' r'
stays_held plan name changed w ids ids' r r' width held is_ids flat lie =
    let same : flat_of (2 ^ plan.log2m) r' ≡ flat_of (2 ^ plan.log2m) r = rw width at flat in
    let P : List ℕ → List ℕ → Type 0 = λ i f. IsKept (batch_of plan name changed i f) i f in
    record { kept = subst (λ (i : List ℕ). P i (flat_of (2 ^ plan.log2m) r')) (sym is_ids) (subst (P ids) (sym same) held.kept); lie = rw width at lie }

-- one row more is held
pub record IsPushed (plan : PlanValue) (name : BatchName) (changed : ℕ) (ids' row : List ℕ) (id : ℕ) (r' : Registers) (b : BatchValue) : Type 0 where
  pub held : IsHeld (held_of plan name changed ids' r') ids' r'
  pub is : held_of plan name changed ids' r' ≡ seen b.plan b.name b.changed (b.rows ++ (id, row) ∷ [])

pub pushed_held : (plan : PlanValue) (name : BatchName) (changed w : ℕ) (ids ids' row : List ℕ) (id : ℕ) (r r' : Registers) (b : BatchValue) → w ≡ 2 ^ plan.log2m
    → held_of plan name changed ids r ≡ b → IsHeld (held_of plan name changed ids r) ids r → IsRow b.plan b.name.source (id, row) → All (λ before. before < id) (ids_of b.rows) → length b.rows < b.changed
    → ids' ≡ ids ++ id ∷ [] → flat_of w r' ≡ flat_of w r ++ row → LieIn w r' → IsPushed plan name changed ids' row id r' b
pushed_held plan name changed w ids ids' row id r r' b width view held one above room is_ids flat lie =
    let m = 2 ^ plan.log2m in
    let more : flat_of m r' ≡ flat_of m r ++ row = rw width at flat in
    let p = pushed plan name changed ids (flat_of m r) ids' (flat_of m r') row id b view held.kept one above room is_ids more in
    record { held = record { kept = p.kept; lie = rw width at lie }; is = p.is }

-- a batch seen from its fields
held_kept : (plan : PlanValue) (name : BatchName) (changed : ℕ) (ids : List ℕ) (r : Registers) → IsHeld (held_of plan name changed ids r) ids r
    → Kept (held_of plan name changed ids r) ids (flat_of (2 ^ plan.log2m) r)
held_kept plan name changed ids r held = record { batch = held.kept.batch; room = held.kept.room; rows = refl }

held_lt : (a b : BatchValue) (i : ℕ) → a ≡ b → i < length b.rows → i < length a.rows
held_lt a b i same lt = subst (λ (x : BatchValue). i < length x.rows) (sym same) lt

-- the registers of a row lie within the registers
pub held_room : (plan : PlanValue) (name : BatchName) (changed w i : ℕ) (ids : List ℕ) (r : Registers) (b : BatchValue) → w ≡ 2 ^ plan.log2m → held_of plan name changed ids r ≡ b
    → IsHeld (held_of plan name changed ids r) ids r → i < length b.rows → (i + 1) * w ≤ length (flat_of w r)
held_room plan name changed w i ids r b width view held lt =
    let a = held_of plan name changed ids r in
    rw width (kept-room a i ids (flat_of (2 ^ plan.log2m) r) (held_kept plan name changed ids r held) (held_lt a b i view lt))

-- the registers of a row
pub held_row : (plan : PlanValue) (name : BatchName) (changed w i : ℕ) (ids : List ℕ) (r : Registers) (b : BatchValue) → w ≡ 2 ^ plan.log2m → held_of plan name changed ids r ≡ b
    → IsHeld (held_of plan name changed ids r) ids r → i < length b.rows → take w (drop (i * w) (flat_of w r)) ≡ get_or (registers_of b.rows) i []
held_row plan name changed w i ids r b width view held lt =
    let a = held_of plan name changed ids r in
    let same : take (2 ^ plan.log2m) (drop (i * 2 ^ plan.log2m) (flat_of (2 ^ plan.log2m) r)) ≡ get_or (registers_of a.rows) i [] =
    sym (kept-registers a i ids (flat_of (2 ^ plan.log2m) r) (held_kept plan name changed ids r held) (held_lt a b i view lt)) in
    rw width (same ∙ ap (λ (x : BatchValue). get_or (registers_of x.rows) i []) view)
