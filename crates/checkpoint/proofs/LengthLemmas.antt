-- How many bytes the parts of a checkpoint have.
use Rattle.std.proofs.Common.{◌≡◌, ℕ, zero, suc, ◌+◌, ◌*◌, ◌^◌, ◌<◌, ◌≤◌, List, [], ◌∷◌, ◌++◌, length, get_or, take, refl, ap, sym, ◌∙◌, arith}
use Rattle.std.specs.List.{flat_map, range_with_len}
use Rattle.std.specs.Int.{w128, to_be_bytes}
use Rattle.std.proofs.lemmas.List.{length-append}
use Rattle.std.proofs.Math.Nat.{pow-le-pow_right}
use Rattle.std.proofs.lemmas.Nat.{mul-le}
use Rattle.sha2.specs.Sha256.{sha256}
use Rattle.sha2.proofs.Facts256.{length-sha256}
use Rattle.ball_model.specs.Batches.{BatchValue, IsBatch}
use Rattle.ball_model.specs.Checkpoint.{front_bytes, vertex_bytes, table_bytes, held_bytes, early_bytes, kept_batches, checkpoint_bytes}
use Rattle.ball_model.specs.PlanValue.{most_vertices}
use Rattle.ball_model.specs.State.{State}
use Rattle.replica.proofs.IndexLemmas.Own.{part_size_le}
use Rattle.replica.specs.Seen.{IsState}
use Rattle.checkpoint.specs.Parts.{heard_bytes, count_bytes, nth_bytes}
use Rattle.checkpoint.proofs.TextLemmas.{held_is, early_more}

-- ---- pieces of one length
each_long : {X : Type 0} (f : X → List ℕ) (w : ℕ) → ((x : X) → length (f x) ≡ w) → (xs : List X) → length (flat_map f xs) ≡ length xs * w
each_long f w h [] = omega arith
each_long f w h (x ∷ xs) = let more = length-append (f x) (flat_map f xs) in let one = h x in let rest = each_long f w h xs in omega (arith, more, one, rest)

pub range_long : (f : ℕ → List ℕ) (w a n : ℕ) → ((i : ℕ) → i < a + n → length (f i) ≡ w) → length (flat_map f (range_with_len a n)) ≡ n * w
range_long f w a zero h = omega arith
range_long f w a (suc n) h =
    let more = length-append (f a) (flat_map f (range_with_len (a + 1) n)) in
    let one = h a (omega arith) in
    let rest = range_long f w (a + 1) n (λ i lt. h i (omega (arith, lt))) in
    omega (arith, more, one, rest)

rows_long : (w : ℕ) (rows : List (List ℕ)) → ((i : ℕ) → i < length rows → length (get_or rows i []) ≡ w) → length (flat_map (λ row. row) rows) ≡ length rows * w
rows_long w [] h = omega arith
rows_long w (row ∷ rest) h =
    let more = length-append row (flat_map (λ row. row) rest) in
    let one : length row ≡ w = h 0 (omega arith) in
    let others = rows_long w rest (λ i lt. h (suc i) (omega (arith, lt))) in
    omega (arith, more, one, others)

-- ---- the parts
pub front_long : (version : ℕ) (v : State) → IsState v → length (front_bytes version v) ≡ 54
unfolding front_bytes
front_long version v s = omega (arith, s.part.plan.digest)

pub vertex_long : (v : State) → IsState v → (i : ℕ) → i < length v.part.preds → length (vertex_bytes v i) ≡ 33 + 2 ^ v.part.plan.log2m
unfolding vertex_bytes
vertex_long v s i lt = let row = (s.rows.row i (omega (arith, lt, s.count))).width in omega (arith, row)

pub table_long : (v : State) → IsState v → length (table_bytes v) ≡ length v.part.preds * (33 + 2 ^ v.part.plan.log2m) + length v.sums * 16
unfolding table_bytes
table_long v s =
    let both = length-append (flat_map (vertex_bytes v) (range_with_len 0 (length v.part.preds))) (flat_map (to_be_bytes w128) v.sums) in
    let one = range_long (vertex_bytes v) (33 + 2 ^ v.part.plan.log2m) 0 (length v.part.preds) (λ i lt. vertex_long v s i (omega (arith, lt))) in
    let other = each_long (to_be_bytes w128) 16 (λ n. refl) v.sums in
    omega (arith, both, one, other)

pub heard_long : (v : State) → length (heard_bytes v) ≡ 9
unfolding heard_bytes
heard_long v = refl

pub count_long : (v : State) → length (count_bytes v) ≡ 2
unfolding count_bytes
count_long v = refl

pub accumulated_wide : (v : State) → IsState v → (i : ℕ) → i < length v.accumulated → length (get_or v.accumulated i []) ≡ 2 ^ v.part.plan.log2m
accumulated_wide v s i lt = (s.accumulated.rises i (omega (arith, lt, s.accumulated.count))).row.width

pub accumulated_long : (v : State) → IsState v → length (flat_map (λ row. row) v.accumulated) ≡ length v.part.preds * 2 ^ v.part.plan.log2m
accumulated_long v s =
    rows_long (2 ^ v.part.plan.log2m) v.accumulated (accumulated_wide v s) ∙ ap (λ (n : ℕ). n * 2 ^ v.part.plan.log2m) (s.accumulated.count ∙ s.count)

pub held_long : (v : State) → IsState v → length (held_bytes v) ≡ 9 + length v.part.preds * 2 ^ v.part.plan.log2m + 2 + length (flat_map early_bytes (kept_batches v.early))
held_long v s =
    let acc : List ℕ = flat_map (λ row. row) v.accumulated in
    let early : List ℕ = flat_map early_bytes (kept_batches v.early) in
    let whole : length (held_bytes v) ≡ length (((heard_bytes v ++ acc) ++ count_bytes v) ++ early) = sym (ap length (held_is v)) in
    let one = length-append ((heard_bytes v ++ acc) ++ count_bytes v) early in
    let two = length-append (heard_bytes v ++ acc) (count_bytes v) in
    let three = length-append (heard_bytes v) acc in
    let same = accumulated_long v s in
    omega (arith, whole, one, two, three, same, heard_long v, count_long v)

pub whole_long : (v : State) → IsState v → length (checkpoint_bytes v) ≡ 54 + length v.part.preds * (33 + 2 ^ v.part.plan.log2m) + 16 * length v.sums + 9 + length v.part.preds * 2 ^ v.part.plan.log2m + 2 + length (flat_map early_bytes (kept_batches v.early)) + 32
unfolding checkpoint_bytes
whole_long v s =
    let all = length-append ((front_bytes 2 v ++ table_bytes v) ++ held_bytes v) (sha256 ((front_bytes 2 v ++ table_bytes v) ++ held_bytes v)) in
    let two = length-append (front_bytes 2 v ++ table_bytes v) (held_bytes v) in
    let one = length-append (front_bytes 2 v) (table_bytes v) in
    omega (arith, all, two, one, front_long 2 v s, table_long v s, held_long v s, length-sha256 ((front_bytes 2 v ++ table_bytes v) ++ held_bytes v))

-- ---- batches
pub batch_few : (b : BatchValue) → IsBatch b → length b.rows * (4 + 2 ^ b.plan.log2m) ≤ most_vertices * (4 + 2 ^ 10)
batch_few b ok =
    let rows : length b.rows ≤ most_vertices = omega (arith, ok.count, ok.changed, part_size_le b.plan.vertices b.plan.parts b.name.source, ok.plan.vertices_to) in
    let width : 2 ^ b.plan.log2m ≤ 2 ^ 10 = pow-le-pow_right (omega arith) ok.plan.log2m_to in
    mul-le (length b.rows) (4 + 2 ^ b.plan.log2m) most_vertices (4 + 2 ^ 10) rows (omega (arith, width))

pub early_next : (v : State) (k n m : ℕ) → n ≡ length (flat_map early_bytes (take k (kept_batches v.early))) → m ≡ length (nth_bytes v k) → n + m ≡ length (flat_map early_bytes (take (k + 1) (kept_batches v.early)))
early_next v k n m a b =
    let more : length (flat_map early_bytes (take (k + 1) (kept_batches v.early))) ≡ length (flat_map early_bytes (take k (kept_batches v.early)) ++ nth_bytes v k) = sym (ap length (early_more v k)) in
    omega (arith, a, b, more, length-append (flat_map early_bytes (take k (kept_batches v.early))) (nth_bytes v k))
