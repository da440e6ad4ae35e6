-- Rows, in memory and as bytes.
use Rattle.std.proofs.Common.{◌≡◌, ℕ, zero, suc, ◌+◌, ◌*◌, ◌^◌, ◌<◌, List, [], ◌∷◌, ◌++◌, length, get_or, take, drop, refl, sym, ap, ◌∙◌, append_assoc, arith}
use Rattle.std.specs.Prelude.{None, Some}
use Rattle.std.specs.List.{flat_map}
use Rattle.std.specs.Int.{w32, to_be_bytes}
use Rattle.std.proofs.Math.Nat.{suc-mul, zero-mul, add_comm}
use Rattle.std.proofs.lemmas.Bool.{eq-eqb, ne_eqb}
use Rattle.std.proofs.lemmas.List.{take_at, drop_at, take-append-drop, length-append, length-drop, drop-drop, nil_from_length, take-append-le, drop-append-le, append-nil}
use Rattle.std.proofs.lemmas.Nat.{from_be_bytes-to_be_bytes_4}
use Rattle.ball_model.specs.Batches.{row_bytes, find_row, ids_of, registers_of}
use Rattle.batches.specs.Kept.{field, row_at, first_rows, paired_rows}
use Rattle.batches.proofs.HeadLemmas.{IsBytes, IsBytes-drop, field_4}

-- rows that are read are spelled so
pub rows_take : (m n : ℕ) (bytes : List ℕ) → length bytes ≡ n * (4 + m) → IsBytes bytes → bytes ≡ flat_map row_bytes (first_rows m n bytes)
unfolding first_rows
rows_take m zero bytes len fits = nil_from_length bytes (len ∙ zero-mul (4 + m))
rows_take m (suc n) bytes len fits =
    let long : length bytes ≡ n * (4 + m) + (4 + m) = len ∙ suc-mul n (4 + m) in
    let front : take 4 bytes ≡ to_be_bytes w32 (field w32 0 bytes) = sym (field_4 0 bytes (omega (arith, long)) fits) in
    let one : bytes ≡ to_be_bytes w32 (field w32 0 bytes) ++ drop 4 bytes = sym (take-append-drop 4 bytes) ∙ ap (λ (t : List ℕ). t ++ drop 4 bytes) front in
    let second : drop 4 bytes ≡ take m (drop 4 bytes) ++ drop (4 + m) bytes = sym (take-append-drop m (drop 4 bytes)) ∙ ap (λ (t : List ℕ). take m (drop 4 bytes) ++ t) (drop-drop m 4 bytes) in
    let ih = rows_take m n (drop (4 + m) bytes) (omega (arith, length-drop (4 + m) bytes, long)) (IsBytes-drop (4 + m) bytes fits) in
    one ∙ ap (λ (t : List ℕ). to_be_bytes w32 (field w32 0 bytes) ++ t) (second ∙ ap (λ (t : List ℕ). take m (drop 4 bytes) ++ t) ih)
    ∙ sym (append_assoc (to_be_bytes w32 (field w32 0 bytes)) (take m (drop 4 bytes)) (flat_map row_bytes (first_rows m n (drop (4 + m) bytes))))

-- each row has m registers, and its vertex fits 32 bits
unfoldable pub AreWide : ℕ → List (ℕ × List ℕ) → Type 0
AreWide m [] = Unit {0}
AreWide m (row ∷ rows) = (row.0 < 2 ^ 32) × (length row.1 ≡ m) × AreWide m rows

row_again : (m : ℕ) (row : ℕ × List ℕ) (rest : List ℕ) → row.0 < 2 ^ 32 → length row.1 ≡ m → (row_at m (row_bytes row ++ rest) ≡ row) × (drop (4 + m) (row_bytes row ++ rest) ≡ rest)
row_again m row rest small len =
    let id = from_be_bytes-to_be_bytes_4 row.0 small in
    let registers : take m (row.1 ++ rest) ≡ row.1 = take_at row.1 rest m len in
    let after : drop m (row.1 ++ rest) ≡ rest = drop_at row.1 rest m len in
    let one : row_at m (row_bytes row ++ rest) ≡ row = ap (λ (n : ℕ). pair n (take m (row.1 ++ rest))) id ∙ ap (λ (t : List ℕ). pair row.0 t) registers in
    (one, sym (drop-drop m 4 (row_bytes row ++ rest)) ∙ after)
  where
    pair : ℕ → List ℕ → ℕ × List ℕ
    pair n t = (n, t)

-- rows that are spelled so are read
pub rows_again : (m : ℕ) (rows : List (ℕ × List ℕ)) → AreWide m rows → first_rows m (length rows) (flat_map row_bytes rows) ≡ rows
unfolding first_rows AreWide
rows_again m [] wide = refl
rows_again m (row ∷ rows) wide =
    let rest = flat_map row_bytes rows in
    let h = row_again m row rest wide.0 wide.1 in
    let step : first_rows m (suc (length rows)) (row_bytes row ++ rest) ≡ row_at m (row_bytes row ++ rest) ∷ first_rows m (length rows) (drop (4 + m) (row_bytes row ++ rest)) = refl in
    step ∙ ap (λ (r : ℕ × List ℕ). r ∷ first_rows m (length rows) (drop (4 + m) (row_bytes row ++ rest))) h.0 ∙ ap (λ (t : List ℕ). row ∷ first_rows m (length rows) t) h.1 ∙ ap (λ (t : List (ℕ × List ℕ)). row ∷ t) (rows_again m rows wide.2)

-- n rows are read
pub rows_len : (m n : ℕ) (bytes : List ℕ) → length (first_rows m n bytes) ≡ n
unfolding first_rows
rows_len m zero bytes = refl
rows_len m (suc n) bytes = ap suc (rows_len m n (drop (4 + m) bytes))

-- the length of the rows' spelling
pub flat_len : (m : ℕ) (rows : List (ℕ × List ℕ)) → AreWide m rows → length (flat_map row_bytes rows) ≡ length rows * (4 + m)
unfolding AreWide
flat_len m [] wide = sym (zero-mul (4 + m))
flat_len m (row ∷ rows) wide =
    length-append (row_bytes row) (flat_map row_bytes rows) ∙ omega (arith, flat_len m rows wide.2, length-append (to_be_bytes w32 row.0) row.1, wide.1, suc-mul (length rows) (4 + m))

-- a row for each vertex
pub paired_rows-length : (m : ℕ) (ids registers : List ℕ) → length (paired_rows m ids registers) ≡ length ids
unfolding paired_rows
paired_rows-length m [] registers = refl
paired_rows-length m (id ∷ ids) registers = ap suc (paired_rows-length m ids (drop m registers))

-- the rows are of these vertices
pub paired_rows-ids : (m : ℕ) (ids registers : List ℕ) → ids_of (paired_rows m ids registers) ≡ ids
unfolding paired_rows
paired_rows-ids m [] registers = refl
paired_rows-ids m (id ∷ ids) registers = ap (λ (t : List ℕ). id ∷ t) (paired_rows-ids m ids (drop m registers))

-- one row more
pub paired_rows-push : (m : ℕ) (ids registers : List ℕ) (id : ℕ) (row : List ℕ) → length registers ≡ length ids * m → length row ≡ m
    → paired_rows m (ids ++ id ∷ []) (registers ++ row) ≡ paired_rows m ids registers ++ (id, row) ∷ []
unfolding paired_rows
paired_rows-push m [] registers id row room len =
    let none : registers ≡ [] = nil_from_length registers (room ∙ zero-mul m) in
    let all : take m row ≡ row = ap (take m) (sym (append-nil row)) ∙ take_at row [] m len in
    rw (none) (ap (λ (r : List ℕ). (id, r) ∷ []) all)
paired_rows-push m (first ∷ ids) registers id row room len =
    let long : length registers ≡ length ids * m + m = room ∙ suc-mul (length ids) m in
    let front : take m (registers ++ row) ≡ take m registers = take-append-le m registers row (omega (arith, long)) in
    let back : drop m (registers ++ row) ≡ drop m registers ++ row = drop-append-le m registers row (omega (arith, long)) in
    let ih = paired_rows-push m ids (drop m registers) id row (omega (arith, length-drop m registers, long)) len in
    rw (front, back) (ap (λ (t : List (ℕ × List ℕ)). (first, take m registers) ∷ t) ih)

-- the registers of row i lie from place i * m on
pub paired_rows-registers : (m i : ℕ) (ids registers : List ℕ) → i < length ids → get_or (registers_of (paired_rows m ids registers)) i [] ≡ take m (drop (i * m) registers)
unfolding paired_rows
paired_rows-registers m i [] registers lt = absurd (omega arith)
paired_rows-registers m zero (id ∷ ids) registers lt = ap (λ (k : ℕ). take m (drop k registers)) (sym (zero-mul m))
paired_rows-registers m (suc i) (id ∷ ids) registers lt =
    let more : i * m + m ≡ suc i * m = sym (suc-mul i m) in
    paired_rows-registers m i ids (drop m registers) (omega arith) ∙ ap (take m) (drop-drop (i * m) m registers ∙ ap (λ (k : ℕ). drop k registers) (add_comm m (i * m) ∙ more))

-- the row of a vertex is found where it stands, if each vertex is above those before it
pub find_at : (m i z : ℕ) (ids registers : List ℕ) → ((j : ℕ) → j < i → get_or ids j 0 < z) → i < length ids → get_or ids i 0 ≡ z
    → find_row (paired_rows m ids registers) z ≡ Some (take m (drop (i * m) registers))
unfolding paired_rows find_row
find_at m i z [] registers before lt here = absurd (omega arith)
find_at m zero z (id ∷ ids) registers before lt here =
    let front : drop (0 * m) registers ≡ registers = ap (λ (k : ℕ). drop k registers) (zero-mul m) in
    rw (eq-eqb id z here, front) refl
find_at m (suc i) z (id ∷ ids) registers before lt here =
    let first : id < z = before 0 (omega arith) in
    let ne : id ≡ z → ⊥ = λ (same : id ≡ z). omega arith in
    let more : i * m + m ≡ suc i * m = sym (suc-mul i m) in
    let place : drop (i * m) (drop m registers) ≡ drop (suc i * m) registers = drop-drop (i * m) m registers ∙ ap (λ (k : ℕ). drop k registers) (add_comm m (i * m) ∙ more) in
    rw (ne_eqb id z ne) (find_at m i z ids (drop m registers) (λ j lt. before (suc j) (omega arith)) (omega arith) here ∙ ap (λ (t : List ℕ). Some (take m t)) place)

-- no row is found of a number that is none of the vertices
pub find_none : (m z : ℕ) (ids registers : List ℕ) → ((j : ℕ) → j < length ids → get_or ids j 0 ≡ z → ⊥) → find_row (paired_rows m ids registers) z ≡ None
unfolding paired_rows find_row
find_none m z [] registers other = refl
find_none m z (id ∷ ids) registers other = rw (ne_eqb id z (other 0 (omega arith))) (find_none m z ids (drop m registers) (λ j lt. other (suc j) (omega arith)))
