-- Whatever the batches say, rows keep their shape, and no register falls.
use Rattle.std.proofs.Common.{◌≡◌, ℕ, zero, suc, ◌<◌, ◌≤◌, Bool, false, if◌then◌else◌, List, [], ◌∷◌, length, map, ◌+◌, ◌*◌, get_or, refl, arith, sym, ◌∙◌, subst, not}
use Rattle.replica.proofs.Names.{common_steps, filter, range_with_len, length-map-range_with_len, get_or-map-range_with_len, not-false, Measure, estimate_with, BatchValue, IsBatch, All-from_get_or, bytes_eq, max_each}
use Rattle.std.proofs.lemmas.Slice.Eq.{bytes_eq-Decides}
use Rattle.registers.proofs.MaxLemmas.{length-max_each}
use Rattle.ball_model.specs.Laws.{IsCounterRow}
use Rattle.ball_model.proofs.EstimateLemmas.{estimate_by-grows_wide}
use Rattle.replica.specs.Spread.{row_after, rows_after, rows_after_all, marked_rows}
use Rattle.replica.specs.Kept.{AreCounters, RowRises, AllRise}

-- registers that differ nowhere are the same
pub same_registers : (a b : List ℕ) → not (bytes_eq a b) ≡ false → a ≡ b
same_registers a b e = (bytes_eq-Decides a b).0 (not-false (bytes_eq a b) e)

max_at : (xs ys : List ℕ) (k : ℕ) → length xs ≡ length ys → get_or xs k 0 ≤ get_or (max_each xs ys) k 0
max_at [] ys k e = omega arith
max_at (x ∷ xs) [] k e = absurd (omega arith)
max_at (x ∷ xs) (y ∷ ys) zero e = omega arith
max_at (x ∷ xs) (y ∷ ys) (suc k) e = max_at xs ys k (omega arith)

max_all : (b : ℕ) (xs ys : List ℕ) → ((k : ℕ) → k < length xs → get_or xs k 0 ≤ b) → ((k : ℕ) → k < length ys → get_or ys k 0 ≤ b) → (k : ℕ) → k < length (max_each xs ys) → get_or (max_each xs ys) k 0 ≤ b
max_all b [] ys hx hy k lt = omega arith
max_all b (x ∷ xs) [] hx hy k lt = omega arith
max_all b (x ∷ xs) (y ∷ ys) hx hy zero lt = let p : x ≤ b = hx 0 (omega arith) in let q : y ≤ b = hy 0 (omega arith) in omega arith
max_all b (x ∷ xs) (y ∷ ys) hx hy (suc k) lt = max_all b xs ys (λ i l. hx (suc i) (omega arith)) (λ i l. hy (suc i) (omega arith)) k (omega arith)

-- the maximum of two rows
pub max_rises : (b : ℕ) (old other : List ℕ) → IsCounterRow b old → IsCounterRow b other → RowRises b old (max_each old other)
max_rises b old other p q =
    let same : length old ≡ length other = p.width ∙ sym q.width in
    record {
      row = record { from = p.from; to = p.to; width = omega (arith, length-max_each old other, same, p.width); ranks = All-from_get_or (λ r. r ≤ 33) (max_each old other) 0 (max_all 33 old other (λ k lt. p.ranks k 0 lt) (λ k lt. q.ranks k 0 lt)) };
      grew = λ k lt. max_at old other k same;
    }

stays : (b : ℕ) (old : List ℕ) → IsCounterRow b old → RowRises b old old
stays b old p = record { row = p; grew = λ k lt. omega arith }

pub rise_counters : (log2m : ℕ) (old new : List (List ℕ)) → AllRise log2m old new → AreCounters log2m new
rise_counters log2m old new h = record { row = λ i lt. (h.rises i (omega (arith, h.count))).row }

-- all rows as they are
pub all_stay : (b : ℕ) (rows : List (List ℕ)) → AreCounters b rows → AllRise b rows rows
all_stay b rows are = record { count = refl; rises = λ i lt. stays b (get_or rows i []) (are.row i lt) }

-- one rise of all after another
pub all_on : (b : ℕ) (x y z : List (List ℕ)) → AreCounters b x → AllRise b x y → AllRise b y z → AllRise b x z
all_on b x y z p f g = grind arith

spread_rise : (here : Bool) (b : ℕ) (row other : List ℕ) → IsCounterRow b row → IsCounterRow b other → RowRises b row (if here then max_each row other else row)
spread_rise here b row other p q = grind (arith, common_steps, max_rises)

-- rows to which another one is spread rise
one_rises : (b : ℕ) (places other : List ℕ) (rows : List (List ℕ)) → AreCounters b rows → IsCounterRow b other → AllRise b rows (rows_after places other rows)
unfolding rows_after row_after
one_rises b places other rows p q =
    grind (arith, length-map-range_with_len, get_or-map-range_with_len, spread_rise)

-- and so do rows to which several are
pub each_rises : (b : ℕ) (targets : List (List ℕ)) (others : List (ℕ × List ℕ)) (rows : List (List ℕ)) → AreCounters b rows → ((k : ℕ) (d : ℕ × List ℕ) → k < length others → IsCounterRow b (get_or others k d).1) → AllRise b rows (rows_after_all targets others rows)
unfolding rows_after_all
each_rises b targets [] rows p h = all_stay b rows p
each_rises b targets (other ∷ rest) rows p h =
    let one = one_rises b (get_or targets other.0 []) other.1 rows p (h 0 other (omega arith)) in
    all_on b rows (rows_after (get_or targets other.0 []) other.1 rows) _ p one
    (each_rises b targets rest (rows_after (get_or targets other.0 []) other.1 rows) (rise_counters b rows _ one) (λ k d lt. h (suc k) d (omega arith)))

-- no estimate falls
pub rise_estimate : (m : Measure) (old new : List (List ℕ)) (i : ℕ) → AreCounters m.log2m old → AllRise m.log2m old new → i < length old → estimate_with m (get_or old i []) ≤ estimate_with m (get_or new i [])
rise_estimate m old new i are h lt = grind (arith, estimate_by-grows_wide)

-- the rows of a batch are those of counters
pub batch_rows : (b : BatchValue) → IsBatch b → (k : ℕ) (d : ℕ × List ℕ) → k < length b.rows → IsCounterRow b.plan.log2m (get_or b.rows k d).1
batch_rows b ok k d lt = let row = ok.rows k d lt in record { from = ok.plan.log2m_from; to = ok.plan.log2m_to; width = row.width; ranks = row.ranks }

-- a marked row is one of the rows
marked_one : (b : Bool) (x : ℕ × List ℕ) (rest : List (ℕ × List ℕ)) (log2m : ℕ) → IsCounterRow log2m x.1 → ((k : ℕ) (d : ℕ × List ℕ) → k < length rest → IsCounterRow log2m (get_or rest k d).1) →
    (k : ℕ) (d : ℕ × List ℕ) → k < length (if b then (x ∷ rest) else rest) → IsCounterRow log2m (get_or (if b then (x ∷ rest) else rest) k d).1
marked_one b x rest log2m here later k d lt = grind arith

if_out : {A B : Type 0} (f : A → B) (b : Bool) (x : A) (rest : List A) → (if b then (f x ∷ map f rest) else map f rest) ≡ map f (if b then (x ∷ rest) else rest)
if_out f b x rest = grind arith

marked_from : (f : ℕ → ℕ × List ℕ) (t : ℕ → Bool) (log2m a n bound : ℕ) → a + n ≤ bound → ((i : ℕ) → i < bound → IsCounterRow log2m (f i).1) →
    (k : ℕ) (d : ℕ × List ℕ) → k < length (map f (filter t (range_with_len a n))) → IsCounterRow log2m (get_or (map f (filter t (range_with_len a n))) k d).1
marked_from f t log2m a zero bound le h k d lt = absurd (omega arith)
marked_from f t log2m a (suc n) bound le h k d lt =
    grind (arith, marked_from f t log2m (a + 1) n bound (omega arith) h, if_out, marked_one)

-- what is accumulated rises as the own marked rows are spread
pub own_rises : (log2m parts p n : ℕ) (targets rows accumulated own : List (List ℕ)) (marks : List Bool) → AreCounters log2m rows → AllRise log2m rows accumulated → n ≤ length rows →
    own ≡ rows_after_all targets (marked_rows parts p rows marks n) accumulated → AllRise log2m accumulated own
unfolding marked_rows
own_rises log2m parts p n targets rows accumulated own marks are rise le is =
    subst (λ (l : List (List ℕ)). AllRise log2m accumulated l) (sym is)
    (each_rises log2m targets (map (λ i. (i * parts + p, get_or rows i [])) (filter (λ i. get_or marks i false) (range_with_len 0 n))) accumulated (rise_counters log2m rows accumulated rise)
    (marked_from (λ i. (i * parts + p, get_or rows i [])) (λ i. get_or marks i false) log2m 0 n n (omega arith) (λ i lt. are.row i (omega arith))))
