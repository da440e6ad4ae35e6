-- Rows that are told as places in a table of those that changed.
use Rattle.std.proofs.Common.{◌≡◌, ℕ, zero, suc, ◌+◌, ◌-◌, ◌*◌, ◌^◌, ◌<◌, ◌≤◌, Bool, true, false, ◌&&◌, List, [], ◌∷◌, ◌++◌, length, length-append, get_or, take, drop, if◌then◌else◌, refl, ap, arith, sym, subst, ◌∙◌}
use Rattle.replica.proofs.Names.{range_with_len, flat_map, count_by, All, AllPairs, AllByRecursion, append-nil, take_at, drop_at, map_push, IsRow, ids_of, PlanValue, State, All-nil, All-push, All-append, IsNextMarked, at_next}
use Rattle.std.proofs.lemmas.List.Concat.{flat_map-append}
use Rattle.std.proofs.lemmas.List.Quantifiers.{all_pairs_push}
use Rattle.ball_model.specs.Masks.{has_bit}
use Rattle.ball_model.proofs.PartLemmas.{range_more}
use Rattle.batches.specs.Kept.{rows_at}
use Rattle.replica.specs.Seen.{IsState}
use Rattle.replica.specs.Sent.{IsTold, changed_registers, changed_row, changed_rows, sent_row, sent_rows, sent_batch}
use Rattle.replica.proofs.IndexLemmas.Counting.{range_split}
use Rattle.replica.proofs.IndexLemmas.Own.{part_size_le}
use Rattle.replica.proofs.SentLemmas.Sent.{ids_below, sent_below, sent_fits, sent_more}

-- ---- the table

-- one vertex more
pub changed_more : (v : State) (n : ℕ) → changed_rows v (n + 1) ≡ changed_rows v n ++ changed_row v n
unfolding changed_rows
changed_more v n = grind (arith, range_more, flat_map-append, append-nil)

-- one that did not change
changed_same : (v : State) (n : ℕ) → get_or v.marks n false ≡ false → changed_rows v (n + 1) ≡ changed_rows v n
changed_same v n off = grind (arith, changed_more, append-nil)

-- up to the next one that did
pub changed_over : (v : State) (from next : ℕ) (rows : List ℕ) → IsNextMarked v.marks from next → rows ≡ changed_rows v from → rows ≡ changed_rows v next
changed_over v from next rows is = at_next (λ n. rows ≡ changed_rows v n) v.marks from next is (λ k low lt off so_far. so_far ∙ sym (changed_same v k off))

-- no vertex
pub changed_none : (v : State) → changed_rows v 0 ≡ []
unfolding changed_rows
changed_none v = refl

abbrev rest : State → ℕ → ℕ → List ℕ
rest v n k = flat_map (λ i. changed_row v i) (range_with_len (n + 1) k)

changed_split : (v : State) (n k : ℕ) → changed_rows v (n + suc k) ≡ changed_rows v n ++ (changed_row v n ++ rest v n k)
unfolding changed_rows
changed_split v n k = grind (arith, range_split, flat_map-append)

-- a row that lies at a place of the table
record LiesAt (m place : ℕ) (table row : List ℕ) : Type 0 where
  row_is : take m (drop (place * m) table) ≡ row
  within : (place + 1) * m ≤ length table

lies_at : (m place : ℕ) (table before row after : List ℕ) → table ≡ before ++ (row ++ after) → place * m ≡ length before → length row ≡ m → LiesAt m place table row
lies_at m place table before row after is at width = grind (arith, drop_at, take_at, length-append)

-- a vertex that changed, and its row
abbrev width_of : State → ℕ
width_of v = 2 ^ v.part.plan.log2m

pub row_of_changed : (v : State) (n : ℕ) → get_or v.marks n false ≡ true → changed_row v n ≡ get_or v.rows n []
row_of_changed v n on = rw on refl

width_of_changed : (v : State) (n : ℕ) → IsState v → n < length v.part.preds → get_or v.marks n false ≡ true → length (changed_row v n) ≡ width_of v
width_of_changed v n s lt on = ap length (row_of_changed v n on) ∙ (s.rows.row n (omega (arith, s.count, lt))).width

-- its row lies behind those of the vertices before it
changed_lies : (v : State) (n place : ℕ) → IsState v → n < length v.part.preds → get_or v.marks n false ≡ true → place * width_of v ≡ length (changed_rows v n) → LiesAt (width_of v) place (changed_registers v) (changed_row v n)
changed_lies v n place s lt on at =
    let k : ℕ = length v.part.preds - suc n in
    let whole : length v.part.preds ≡ n + suc k = omega (arith, lt) in
    lies_at (width_of v) place (changed_registers v) (changed_rows v n) (changed_row v n) (rest v n k) (ap (changed_rows v) whole ∙ changed_split v n k) at (width_of_changed v n s lt on)

-- ---- rows at places

rows_at-push : (m : ℕ) (table ids places : List ℕ) (id place : ℕ) → length ids ≡ length places → rows_at m table (ids ++ id ∷ []) (places ++ place ∷ []) ≡ rows_at m table ids places ++ (id, take m (drop (place * m) table)) ∷ []
unfolding rows_at
rows_at-push m table [] [] id place same = refl
rows_at-push m table [] (q ∷ places) id place same = absurd (omega arith)
rows_at-push m table (x ∷ ids) [] id place same = absurd (omega arith)
rows_at-push m table (x ∷ ids) (q ∷ places) id place same =
    ap (λ (l : List (ℕ × List ℕ)). (x, take m (drop (q * m) table)) ∷ l) (rows_at-push m table ids places id place (omega arith))

rows_at-none : (m : ℕ) (table : List ℕ) → rows_at m table [] [] ≡ []
unfolding rows_at
rows_at-none m table = refl

sent_none : (v : State) (target : ℕ) → sent_rows v target 0 ≡ []
unfolding sent_rows
sent_none v target = refl

-- ---- what is told, vertex by vertex

told_nothing : (v : State) (target : ℕ) → IsTold v target 0 [] [] 0
told_nothing v target = grind (arith, rows_at-none, sent_none, changed_none)

-- of no vertex
pub told_none : (v : State) (target changed : ℕ) (ids places : List ℕ) → ids ≡ [] → places ≡ [] → changed ≡ 0 → IsTold v target 0 ids places changed
told_none v target changed ids places no_ids no_places none =
    subst (λ (n : ℕ). IsTold v target 0 ids places n) (sym none)
    (subst (λ (a : List ℕ). IsTold v target 0 a places 0) (sym no_ids) (subst (λ (b : List ℕ). IsTold v target 0 [] b 0) (sym no_places) (told_nothing v target)))

pub sent_same : (v : State) (target n : ℕ) → sent_row v target n ≡ [] → sent_rows v target (n + 1) ≡ sent_rows v target n
sent_same v target n none = sent_more v target n ∙ ap (λ (l : List (ℕ × List ℕ)). sent_rows v target n ++ l) none ∙ append-nil (sent_rows v target n)

-- a vertex that did not change
told_off : (v : State) (target n changed : ℕ) (ids places : List ℕ) → IsTold v target n ids places changed → get_or v.marks n false ≡ false → IsTold v target (n + 1) ids places changed
told_off v target n changed ids places is off = grind (arith, sent_same, changed_same)

-- up to the next one that did
pub told_over : (v : State) (target from next changed : ℕ) (ids places : List ℕ) → IsNextMarked v.marks from next → IsTold v target from ids places changed → IsTold v target next ids places changed
told_over v target from next changed ids places is =
    at_next (λ n. IsTold v target n ids places changed) v.marks from next is (λ k low lt off told. told_off v target k changed ids places told off)

pub counted : (v : State) (target n changed : ℕ) (ids places : List ℕ) → IsState v → n < length v.part.preds → IsTold v target n ids places changed → get_or v.marks n false ≡ true → (changed + 1) * width_of v ≡ length (changed_rows v (n + 1))
counted v target n changed ids places s lt is on = grind (arith, changed_more, length-append)

-- a vertex that changed, and has an edge into the target
told_one : (v : State) (target n changed id : ℕ) (ids places : List ℕ) → IsState v → n < length v.part.preds → IsTold v target n ids places changed → get_or v.marks n false ≡ true → has_bit (get_or v.part.feeds n 0) target ≡ true → id ≡ n * v.part.plan.parts + v.part.number →
    IsTold v target (n + 1) (ids ++ id ∷ []) (places ++ changed ∷ []) (changed + 1)
told_one v target n changed id ids places s lt is on fed vertex =
    let m : ℕ = width_of v in
    let table : List ℕ = changed_registers v in
    let lies = changed_lies v n changed s lt on is.before in
    let row : take m (drop (changed * m) table) ≡ get_or v.rows n [] = lies.row_is ∙ row_of_changed v n on in
    let one : sent_row v target n ≡ (id, get_or v.rows n []) ∷ [] = rw (on, fed, vertex) refl in
    search (
      arith,
      rows_at-push m table ids places id changed is.count,
      sent_more v target n,
      length-append ids (id ∷ []),
      length-append places (changed ∷ []),
      counted v target n changed ids places s lt is on,
      All-push,
    )

pub told_fed : (v : State) (target n changed id : ℕ) (ids places ids' places' : List ℕ) → IsState v → n < length v.part.preds → IsTold v target n ids places changed → get_or v.marks n false ≡ true → has_bit (get_or v.part.feeds n 0) target ≡ true → id ≡ n * v.part.plan.parts + v.part.number → ids' ≡ ids ++ id ∷ [] → places' ≡ places ++ changed ∷ [] →
    IsTold v target (n + 1) ids' places' (changed + 1)
told_fed v target n changed id ids places ids' places' s lt is on fed vertex more_ids more_places =
    subst (λ (a : List ℕ). IsTold v target (n + 1) a places' (changed + 1)) (sym more_ids)
    (subst (λ (b : List ℕ). IsTold v target (n + 1) (ids ++ id ∷ []) b (changed + 1)) (sym more_places) (told_one v target n changed id ids places s lt is on fed vertex))

-- how many changed fits
pub told_few : (v : State) (n changed : ℕ) → IsState v → n < length v.part.preds → changed ≤ n → changed + 1 < 2 ^ 32
told_few v n changed s lt few = omega (arith, lt, few, s.part.preds, part_size_le v.part.plan.vertices v.part.plan.parts v.part.number, s.part.plan.vertices_to)

-- ---- what is sent is a batch

all_if : (P : ℕ × List ℕ → Type 0) (b : Bool) (x : ℕ × List ℕ) → P x → All P (if b then x ∷ [] else [])
all_if P b x h = grind arith

pub sent_are_rows : (v : State) (target n : ℕ) → IsState v → n ≤ length v.part.preds → All (IsRow v.part.plan v.part.number) (sent_rows v target n)
unfolding sent_batch sent_rows
sent_are_rows v target zero s le = All-nil (IsRow v.part.plan v.part.number)
sent_are_rows v target (suc n) s le =
    let e : n + 1 ≡ suc n = omega arith in
    let P : ℕ × List ℕ → Type 0 = λ row. IsRow v.part.plan v.part.number row in
    let lt : n < length v.part.preds = omega (arith, le) in
    let one : P (n * v.part.plan.parts + v.part.number, get_or v.rows n []) = sent_fits v target n (n * v.part.plan.parts + v.part.number) (get_or v.rows n []) (sent_batch v target n) s refl lt refl refl in
    let row = all_if P (get_or v.marks n false && has_bit (get_or v.part.feeds n 0) target) (n * v.part.plan.parts + v.part.number, get_or v.rows n []) one in
    subst (λ (k : ℕ). All P (sent_rows v target k)) e
    (subst (λ (l : List (ℕ × List ℕ)). All P l) (sym (sent_more v target n)) (All-append P (sent_rows v target n) (sent_row v target n) (sent_are_rows v target n s (omega (arith, le))) row))

abbrev Rise : List (ℕ × List ℕ) → Type 0
Rise rows = AllPairs (λ (x y : ℕ). x < y) (ids_of rows)

rise_if : (b : Bool) (rows : List (ℕ × List ℕ)) (x : ℕ × List ℕ) → Rise rows → AllByRecursion (λ row. row.0 < x.0) rows → Rise (rows ++ (if b then x ∷ [] else []))
rise_if true rows x up below =
    subst (λ (l : List ℕ). AllPairs (λ (x y : ℕ). x < y) l) (sym (map_push (λ (r : ℕ × List ℕ). r.0) rows x))
    (all_pairs_push (λ (x y : ℕ). x < y) (ids_of rows) x.0 up (λ k d lt. ids_below rows x.0 below k d lt))
rise_if false rows x up below = subst Rise (sym (append-nil rows)) up

pub sent_rise : (v : State) (target n : ℕ) → 1 ≤ v.part.plan.parts → Rise (sent_rows v target n)
unfolding sent_rows
sent_rise v target zero some = λ i j d up lt. absurd (omega arith)
sent_rise v target (suc n) some =
    let e : n + 1 ≡ suc n = omega arith in
    let x : ℕ × List ℕ = (n * v.part.plan.parts + v.part.number, get_or v.rows n []) in
    subst (λ (k : ℕ). Rise (sent_rows v target k)) e
    (subst Rise (sym (sent_more v target n)) (rise_if (get_or v.marks n false && has_bit (get_or v.part.feeds n 0) target) (sent_rows v target n) x (sent_rise v target n some) (sent_below v target n some)))

-- what is told makes it
pub told_batch : (v : State) (target changed : ℕ) (plan : PlanValue) (superstep source count : ℕ) (table ids places : List ℕ) → IsTold v target (length v.part.preds) ids places changed → table ≡ changed_registers v → plan ≡ v.part.plan → superstep ≡ v.superstep → source ≡ v.part.number → count ≡ count_by (λ mark. mark) v.marks →
    record { plan = plan; name = record { superstep = superstep; source = source; target = target }; changed = count; rows = rows_at (2 ^ plan.log2m) table ids places } ≡ sent_batch v target (length v.part.preds)
unfolding sent_batch
told_batch v target changed plan superstep source count table ids places is same p t q n = rw (p, t, q, n, same, is.rows) refl
