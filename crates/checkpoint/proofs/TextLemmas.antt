-- The bytes of a checkpoint, part by part.
use Rattle.std.proofs.Common.{◌≡◌, ℕ, zero, suc, ◌+◌, ◌*◌, ◌^◌, ◌<◌, ◌≤◌, Bool, true, false, List, [], ◌∷◌, ◌++◌, map, length, get_or, take, drop, refl, ap, sym, ◌∙◌, arith, append_assoc, if◌then◌else◌}
use Rattle.std.specs.Prelude.{Option, Some, None, slice_get}
use Rattle.std.specs.List.{flat_map, range_with_len, sum_by}
use Rattle.std.specs.Option.{option_to_list}
use Rattle.std.specs.Int.{w16, w32, w64, w128, to_be_bytes}
use Rattle.std.proofs.lemmas.List.{append-nil, get_or-map, length-append, length-map}
use Rattle.std.proofs.lemmas.List.FromFn.{length-range_with_len, get_or-range_with_len, fill_by_all}
use Rattle.std.proofs.lemmas.List.Sums.{sum_by-cons}
use Rattle.std.proofs.lemmas.Grind.{pow_more}
use mir.Val.{bool_byte}
use Rattle.ball_model.specs.Batches.{BatchValue, batch_bytes, header_bytes, row_bytes, ids_of, registers_of}
use Rattle.ball_model.specs.Checkpoint.{mask_of, mark_byte, no_figures, front_bytes, vertex_bytes, table_bytes, held_bytes, early_bytes, kept_batches}
use Rattle.ball_model.specs.Figures.{TallyValue}
use Rattle.figures.specs.Values.{value_of}
use Rattle.figures.specs.declared.tally.Tally.{Tally}
use Rattle.ball_model.specs.State.{State}
use Rattle.registers.specs.Flags.{number_of_flags}
use Rattle.replica.specs.Ahead.{IsTable}
use Rattle.replica.proofs.KeptLemmas.Kept.{three_levels}
use Rattle.checkpoint.specs.Parts.{heard_bytes, count_bytes, nth_bytes}
use Rattle.checkpoint.proofs.WriteLemmas.{pieces_more, pieces_split}
use Rattle.replica.proofs.AheadLemmas.{batches_in, few_batches}

-- ---- fields
pub front_is : (v : State) (magic : List ℕ) (log2m : ℕ) (parts number vertices size step job : List ℕ) → magic ≡ to_be_bytes w32 0x4842434b → log2m ≡ v.part.plan.log2m → parts ≡ to_be_bytes w16 v.part.plan.parts → number ≡ to_be_bytes w16 v.part.number → vertices ≡ to_be_bytes w32 v.part.plan.vertices →
    size ≡ to_be_bytes w32 (length v.part.preds) → step ≡ to_be_bytes w32 v.superstep → job ≡ v.part.plan.job →
    magic ++ ((2 ∷ []) ++ ((log2m ∷ []) ++ (parts ++ (number ++ (vertices ++ (size ++ (step ++ (job ++ [])))))))) ≡ front_bytes 2 v
unfolding front_bytes
front_is v magic log2m parts number vertices size step job z a b c d e f g = rw (z, a, b, c, d, e, f, g, append-nil v.part.plan.job) refl

pub vertex_is : (v : State) (i mark : ℕ) (last harm dist row : List ℕ) (changed : Bool) (tally : TallyValue) → mark ≡ mark_byte changed → changed ≡ get_or v.marks i false → tally ≡ get_or v.tallies i no_figures → last ≡ to_be_bytes w64 tally.last →
    harm ≡ to_be_bytes w64 tally.harm → dist ≡ to_be_bytes w128 tally.dist → row ≡ get_or v.rows i [] →
    (mark ∷ []) ++ (last ++ (harm ++ (dist ++ (row ++ [])))) ≡ vertex_bytes v i
unfolding vertex_bytes
vertex_is v i mark last harm dist row changed tally a b c d e f g = rw (a, d, e, f, g, b, c, append-nil (get_or v.rows i [])) refl

pub tally_is : (v : State) (tallies : List Tally) (i : ℕ) (tally : Tally) → i < length v.tallies → map value_of tallies ≡ v.tallies → tally ≡ get_or tallies i tally → value_of tally ≡ get_or v.tallies i no_figures
tally_is v tallies i tally lt same at =
    let long : length tallies ≡ length v.tallies = sym (length-map tallies value_of) ∙ ap length same in
    ap value_of at ∙ sym (ap (λ (l : List TallyValue). get_or l i no_figures) (sym same) ∙ get_or-map value_of tallies i tally no_figures (omega (arith, lt, long)))

pub row_is : (rows : List (ℕ × List ℕ)) (i id : ℕ) (bytes registers : List ℕ) → i < length rows → id ≡ get_or (ids_of rows) i 0 → bytes ≡ to_be_bytes w32 id → registers ≡ get_or (registers_of rows) i [] →
    bytes ++ (registers ++ []) ≡ row_bytes (get_or rows i (0, []))
row_is rows i id bytes registers lt a b c =
    let one : id ≡ (get_or rows i (0, [])).0 = a ∙ get_or-map (λ (row : ℕ × List ℕ). row.0) rows i (0, []) 0 lt in
    let other : registers ≡ (get_or rows i (0, [])).1 = c ∙ get_or-map (λ (row : ℕ × List ℕ). row.1) rows i (0, []) [] lt in
    rw (b, one, other, append-nil ((get_or rows i (0, [])).1)) refl

-- ---- one more of a range
pub range_more : (f : ℕ → List ℕ) (n k : ℕ) → k < n → flat_map f (take k (range_with_len 0 n)) ++ f k ≡ flat_map f (take (k + 1) (range_with_len 0 n))
range_more f n k lt =
    let at : get_or (range_with_len 0 n) k 0 ≡ k = get_or-range_with_len 0 n k 0 lt ∙ omega arith in
    sym (pieces_more f (range_with_len 0 n) k 0 (omega (arith, lt, length-range_with_len 0 n)) ∙ ap (λ (i : ℕ). flat_map f (take k (range_with_len 0 n)) ++ f i) at)

pub range_pieces : (f : ℕ → List ℕ) (n k : ℕ) → k < n → (flat_map f (take k (range_with_len 0 n)) ++ f k) ++ flat_map f (drop (suc k) (range_with_len 0 n)) ≡ flat_map f (range_with_len 0 n)
range_pieces f n k lt =
    let at : get_or (range_with_len 0 n) k 0 ≡ k = get_or-range_with_len 0 n k 0 lt ∙ omega arith in
    append_assoc (flat_map f (take k (range_with_len 0 n))) (f k) (flat_map f (drop (suc k) (range_with_len 0 n)))
    ∙ sym (pieces_split f (range_with_len 0 n) k 0 (omega (arith, lt, length-range_with_len 0 n)) ∙ ap (λ (i : ℕ). flat_map f (take k (range_with_len 0 n)) ++ (f i ++ flat_map f (drop (suc k) (range_with_len 0 n)))) at)

-- ---- one more of a list, if there is one
nth_first : {X : Type 0} (f : X → List ℕ) (xs : List X) (k : ℕ) → flat_map f (take k xs) ++ flat_map f (option_to_list (slice_get xs k)) ≡ flat_map f (take (suc k) xs)
nth_first f [] zero = refl
nth_first f [] (suc k) = refl
nth_first f (x ∷ xs) zero = refl
nth_first f (x ∷ xs) (suc k) = append_assoc (f x) (flat_map f (take k xs)) (flat_map f (option_to_list (slice_get xs k))) ∙ ap (λ (l : List ℕ). f x ++ l) (nth_first f xs k)

nth_whole : {X : Type 0} (f : X → List ℕ) (xs : List X) (k : ℕ) → flat_map f (take k xs) ++ flat_map f (drop k xs) ≡ flat_map f xs
nth_whole f xs zero = refl
nth_whole f [] (suc k) = refl
nth_whole f (x ∷ xs) (suc k) = append_assoc (f x) (flat_map f (take k xs)) (flat_map f (drop k xs)) ∙ ap (λ (l : List ℕ). f x ++ l) (nth_whole f xs k)

pub early_more : (v : State) (k : ℕ) → flat_map early_bytes (take k (kept_batches v.early)) ++ nth_bytes v k ≡ flat_map early_bytes (take (k + 1) (kept_batches v.early))
unfolding nth_bytes
early_more v k =
    let next : k + 1 ≡ suc k = omega arith in
    rw next (nth_first early_bytes (kept_batches v.early) k)

pub early_split : (v : State) (k : ℕ) → (flat_map early_bytes (take k (kept_batches v.early)) ++ nth_bytes v k) ++ flat_map early_bytes (drop (suc k) (kept_batches v.early)) ≡ flat_map early_bytes (kept_batches v.early)
unfolding nth_bytes
early_split v k =
    ap (λ (l : List ℕ). l ++ flat_map early_bytes (drop (suc k) (kept_batches v.early))) (nth_first early_bytes (kept_batches v.early) k)
    ∙ nth_whole early_bytes (kept_batches v.early) (suc k)

pub nth_some : (v : State) (k : ℕ) (b : BatchValue) → Some b ≡ slice_get (kept_batches v.early) k → early_bytes b ≡ nth_bytes v k
unfolding nth_bytes
nth_some v k b e =
    sym (ap (λ (o : Option BatchValue). flat_map early_bytes (option_to_list o)) (sym e) ∙ append-nil (early_bytes b))

pub nth_none : (v : State) (k : ℕ) → None ≡ slice_get (kept_batches v.early) k → [] ≡ nth_bytes v k
unfolding nth_bytes
nth_none v k e =
    sym (ap (λ (o : Option BatchValue). flat_map early_bytes (option_to_list o)) (sym e))

-- ---- how many batches there can be
pub early_few : (parts : ℕ) (early : List (List (Option BatchValue))) → IsTable parts early → length (kept_batches early) ≤ 3 * parts
early_few parts early t =
    let split : length (kept_batches early) ≡ length (batches_in (get_or early 0 []) ++ (batches_in (get_or early 1 []) ++ batches_in (get_or early 2 []))) =
    ap (λ (l : List BatchValue). length l) (three_levels early t.levels) in
    omega (
      arith,
      split,
      length-append (batches_in (get_or early 0 [])) (batches_in (get_or early 1 []) ++ batches_in (get_or early 2 [])),
      length-append (batches_in (get_or early 1 [])) (batches_in (get_or early 2 [])),
      few_batches (get_or early 0 []),
      few_batches (get_or early 1 []),
      few_batches (get_or early 2 []),
      t.sources 0 (omega arith),
      t.sources 1 (omega arith),
      t.sources 2 (omega arith),
    )

-- ---- flags as a number
sum_flag : (p q m s : ℕ) (flag : Bool) → q ≡ p * 2 → q * m ≡ s → p * (2 * m + (if flag then 1 else 0)) ≡ (if flag then p else 0) + s
sum_flag p q m s true twice rest =
    let more : p * (2 * m + 1) ≡ p + (p * 2) * m = omega arith in
    more ∙ ap (λ (n : ℕ). p + n) (ap (λ (n : ℕ). n * m) (sym twice) ∙ rest)
sum_flag p q m s false twice rest =
    let more : p * (2 * m + 0) ≡ 0 + (p * 2) * m = omega arith in
    more ∙ ap (λ (n : ℕ). 0 + n) (ap (λ (n : ℕ). n * m) (sym twice) ∙ rest)

flags_from : (g : ℕ → Bool) (a n : ℕ) → 2 ^ a * number_of_flags (map g (range_with_len a n)) ≡ sum_by (λ q. if g q then 2 ^ q else 0) (range_with_len a n)
unfolding number_of_flags
flags_from g a zero = omega arith
flags_from g a (suc n) =
    let twice : 2 ^ (a + 1) ≡ 2 ^ a * 2 = pow_more 2 a in
    sum_flag (2 ^ a) (2 ^ (a + 1)) (number_of_flags (map g (range_with_len (a + 1) n))) _ (g a) twice (flags_from g (a + 1) n)
    ∙ sym (sum_by-cons (λ q. if g q then 2 ^ q else 0) a (range_with_len (a + 1) n))

pub mask_is : (xs : List Bool) → length xs ≡ 64 → number_of_flags xs ≡ mask_of xs
unfolding mask_of
mask_is xs long =
    let all : xs ≡ map (λ q. get_or xs q false) (range_with_len 0 64) = fill_by_all (λ q. get_or xs q false) xs 64 false long (λ k lt. refl) in
    ap number_of_flags all ∙ (let one : number_of_flags (map (λ q. get_or xs q false) (range_with_len 0 64)) ≡ 2 ^ 0 * number_of_flags (map (λ q. get_or xs q false) (range_with_len 0 64)) = omega arith in one) ∙ flags_from (λ q. get_or xs q false) 0 64

-- ---- a batch
pub batch_is : (b : BatchValue) (long : ℕ) (number header : List ℕ) → long ≡ length (batch_bytes b) → number ≡ to_be_bytes w64 long → header ≡ header_bytes b → (number ++ (header ++ [])) ++ flat_map row_bytes b.rows ≡ early_bytes b
unfolding batch_bytes
batch_is b long number header a e f =
    rw (e, a, f, append-nil (header_bytes b)) (append_assoc (to_be_bytes w64 (length (header_bytes b ++ flat_map row_bytes b.rows))) (header_bytes b) (flat_map row_bytes b.rows))

-- ---- the parts together
pub table_whole : (v : State) (sums : List ℕ) → sums ≡ v.sums → flat_map (vertex_bytes v) (range_with_len 0 (length v.part.preds)) ++ flat_map (to_be_bytes w128) sums ≡ table_bytes v
unfolding table_bytes
table_whole v sums e = rw e refl

pub mark_is : (byte : ℕ) (mark : Bool) → byte ≡ bool_byte mark → byte ≡ mark_byte mark
mark_is byte true e = e
mark_is byte false e = e

pub heard_is : (v : State) (number change : ℕ) (mask : List ℕ) (heard : List Bool) (is : Bool) → length v.heard ≡ 64 → heard ≡ v.heard → number ≡ number_of_flags heard → mask ≡ to_be_bytes w64 number → is ≡ v.heard_change → change ≡ mark_byte is → mask ++ ((change ∷ []) ++ []) ≡ heard_bytes v
unfolding heard_bytes
heard_is v number change mask heard is long a b c d e =
    let whole : number ≡ mask_of v.heard = b ∙ ap number_of_flags a ∙ mask_is v.heard long in
    rw (c, e, d, whole) refl

pub count_is : (v : State) (count : ℕ) (bytes : List ℕ) → count ≡ length (kept_batches v.early) → bytes ≡ to_be_bytes w16 count → bytes ≡ count_bytes v
unfolding count_bytes
count_is v count bytes a b = b ∙ ap (to_be_bytes w16) a

pub held_is : (v : State) → ((heard_bytes v ++ flat_map (λ row. row) v.accumulated) ++ count_bytes v) ++ flat_map early_bytes (kept_batches v.early) ≡ held_bytes v
unfolding held_bytes heard_bytes count_bytes
held_is v = refl
