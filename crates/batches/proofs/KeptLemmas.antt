-- What a batch keeps in memory.
use Rattle.std.proofs.Common.{◌≡◌, ℕ, suc, ◌+◌, ◌-◌, ◌*◌, ◌^◌, ◌<◌, ◌≤◌, List, [], ◌∷◌, ◌++◌, length, get_or, take, drop, refl, sym, ap, subst, ◌∙◌, arith, inl, inr}
use Rattle.std.specs.Prelude.{None, Some}
use Rattle.std.specs.List.{All}
use Rattle.std.specs.List.Sorted.{IsStrictlyIncreasing}
use Rattle.std.proofs.Math.Nat.{suc-mul, div-le_self, mul-le-mul_right}
use Rattle.std.proofs.Math.Seq.{get_or-append_seam}
use Rattle.std.proofs.lemmas.Bool.{cases_lt}
use Rattle.std.proofs.lemmas.List.{length-append, get_or_append_left, map_push, get_or-map}
use Rattle.std.proofs.lemmas.List.Elements.{All-push}
use Rattle.std.proofs.lemmas.List.Kept.{AllPairs-from_increasing}
use Rattle.ball_model.specs.declared.names.BatchName.{BatchName}
use Rattle.ball_model.specs.PlanValue.{PlanValue, IsPlan, part_size}
use Rattle.ball_model.specs.Batches.{BatchValue, IsRow, IsBatch, ids_of, registers_of, find_row}
use Rattle.batches.specs.Kept.{paired_rows, IsKept}
use Rattle.ball_model.proofs.PartLemmas.{part_size-is}
use Rattle.batches.proofs.RowLemmas.{paired_rows-length, paired_rows-ids, paired_rows-push, paired_rows-registers, find_at, find_none}

-- a batch, and the vertices and the registers that are its rows
pub record Kept (b : BatchValue) (ids registers : List ℕ) : Type 0 where
  pub batch : IsBatch b
  pub room : length registers ≡ length ids * 2 ^ b.plan.log2m
  pub rows : b.rows ≡ paired_rows (2 ^ b.plan.log2m) ids registers

-- a batch seen from its fields
pub kept_of : (plan : PlanValue) (name : BatchName) (changed : ℕ) (ids registers : List ℕ) (b : BatchValue)
    → record { plan = plan; name = name; changed = changed; rows = paired_rows (2 ^ plan.log2m) ids registers } ≡ b
    → IsKept (record { plan = plan; name = name; changed = changed; rows = paired_rows (2 ^ plan.log2m) ids registers }) ids registers → Kept b ids registers
kept_of plan name changed ids registers b same kept =
    let P : BatchValue → Type 0 = λ x. Kept x ids registers in
    subst P same (record { batch = kept.batch; room = kept.room; rows = refl })

-- a row for each vertex
pub kept-count : (b : BatchValue) (ids registers : List ℕ) → Kept b ids registers → length b.rows ≡ length ids
kept-count b ids registers kept = ap length kept.rows ∙ paired_rows-length (2 ^ b.plan.log2m) ids registers

-- the rows are of these vertices
pub kept-ids : (b : BatchValue) (ids registers : List ℕ) → Kept b ids registers → ids_of b.rows ≡ ids
kept-ids b ids registers kept = ap ids_of kept.rows ∙ paired_rows-ids (2 ^ b.plan.log2m) ids registers

-- the registers of a row
pub kept-registers : (b : BatchValue) (i : ℕ) (ids registers : List ℕ) → Kept b ids registers → i < length b.rows → get_or (registers_of b.rows) i [] ≡ take (2 ^ b.plan.log2m) (drop (i * 2 ^ b.plan.log2m) registers)
kept-registers b i ids registers kept lt =
    ap (λ (rows : List (ℕ × List ℕ)). get_or (registers_of rows) i []) kept.rows
    ∙ paired_rows-registers (2 ^ b.plan.log2m) i ids registers (omega (arith, lt, kept-count b ids registers kept))

-- the registers of a row lie within the registers
pub kept-room : (b : BatchValue) (i : ℕ) (ids registers : List ℕ) → Kept b ids registers → i < length b.rows → (i + 1) * 2 ^ b.plan.log2m ≤ length registers
kept-room b i ids registers kept lt =
    let le : i + 1 ≤ length ids = omega (arith, lt, kept-count b ids registers kept) in
    let cells : (i + 1) * 2 ^ b.plan.log2m ≤ length ids * 2 ^ b.plan.log2m = mul-le-mul_right (2 ^ b.plan.log2m) le in
    omega (arith, cells, kept.room)

-- the registers of a row are of the width
pub kept-width : (b : BatchValue) (i : ℕ) → IsBatch b → i < length b.rows → length (get_or (registers_of b.rows) i []) ≡ 2 ^ b.plan.log2m
kept-width b i is lt = ap length (get_or-map (λ (row : ℕ × List ℕ). row.1) b.rows i (0, []) [] lt) ∙ (is.rows i (0, []) lt).width

-- the registers of a row are ranks
pub kept-ranks : (b : BatchValue) (i : ℕ) → IsBatch b → i < length b.rows → All (λ r. r ≤ 33) (get_or (registers_of b.rows) i [])
kept-ranks b i is lt =
    let P : List ℕ → Type 0 = λ row. All (λ r. r ≤ 33) row in
    subst P (sym (get_or-map (λ (row : ℕ × List ℕ). row.1) b.rows i (0, []) [] lt)) (is.rows i (0, []) lt).ranks

-- fewer than 2^32 vertices are changed
pub batch-changed : (b : BatchValue) → IsBatch b → b.changed < 2 ^ 32
batch-changed b is =
    let p = b.plan in
    let size = part_size-is p.vertices p.parts b.name.source is.source in
    let most = div-le_self (p.vertices + (p.parts - 1 - b.name.source)) p.parts in
    omega (arith, size, most, is.changed, is.plan.vertices_to, is.plan.parts_to)

-- a batch has fewer than 2^32 rows
pub batch-few : (b : BatchValue) → IsBatch b → length b.rows < 2 ^ 32
batch-few b is = omega (arith, batch-changed b is, is.count)

-- each vertex is above those before it
pub ids_rise : (ids : List ℕ) (i j : ℕ) → IsStrictlyIncreasing ids → i ≤ j → j < length ids → get_or ids i 0 ≤ get_or ids j 0
ids_rise ids i j up le lt =
    elim (cases_lt i j) [
      | inl less ↦ let h = AllPairs-from_increasing ids up i j 0 less lt in omega (arith, h)
      | inr same ↦ let e : i ≡ j = omega arith in omega (arith, ap (λ (k : ℕ). get_or ids k 0) e)
    ]

-- the row of a vertex is found
pub kept-found : (b : BatchValue) (i z : ℕ) (ids registers : List ℕ) → Kept b ids registers → i < length ids → get_or ids i 0 ≡ z → Some (get_or (registers_of b.rows) i []) ≡ find_row b.rows z
kept-found b i z ids registers kept lt here =
    let m = 2 ^ b.plan.log2m in
    let up : IsStrictlyIncreasing ids = subst IsStrictlyIncreasing (kept-ids b ids registers kept) kept.batch.ascending in
    let before : (j : ℕ) → j < i → get_or ids j 0 < z = λ j less. let h = AllPairs-from_increasing ids up j i 0 less lt in omega (arith, h, here) in
    let found = find_at m i z ids registers before lt here in
    ap (λ (r : List ℕ). Some r) (kept-registers b i ids registers kept (omega (arith, lt, kept-count b ids registers kept)))
    ∙ sym found ∙ ap (λ (rows : List (ℕ × List ℕ)). find_row rows z) (sym kept.rows)

-- no row is found of another number
pub kept-none : (b : BatchValue) (z : ℕ) (ids registers : List ℕ) → Kept b ids registers → ((j : ℕ) → j < length ids → get_or ids j 0 ≡ z → ⊥) → None ≡ find_row b.rows z
kept-none b z ids registers kept other =
    sym (find_none (2 ^ b.plan.log2m) z ids registers other) ∙ ap (λ (rows : List (ℕ × List ℕ)). find_row rows z) (sym kept.rows)

-- a number above all comes after them
rises-push : (ids : List ℕ) (id : ℕ) → IsStrictlyIncreasing ids → All (λ before. before < id) ids → IsStrictlyIncreasing (ids ++ id ∷ [])
rises-push ids id up above k lt =
    let len = length-append ids (id ∷ []) in
    let here : get_or (ids ++ id ∷ []) k 0 ≡ get_or ids k 0 = get_or_append_left ids (id ∷ []) 0 k (omega (arith, len)) in
    elim (cases_lt (k + 1) (length ids)) [
      | inl less ↦ let next = get_or_append_left ids (id ∷ []) 0 (k + 1) less in let h = up k less in omega (arith, here, next, h)
      | inr most ↦
          let e : k + 1 ≡ length ids = omega (arith, len) in
          let next : get_or (ids ++ id ∷ []) (k + 1) 0 ≡ id = ap (λ (n : ℕ). get_or (ids ++ id ∷ []) n 0) e ∙ get_or-append_seam ids id [] 0 in
          let h = above k 0 (omega (arith, len)) in
          omega (arith, here, next, h)
    ]

-- a batch with one row more
pub batch-push : (b : BatchValue) (id : ℕ) (row : List ℕ) → IsBatch b → IsRow b.plan b.name.source (id, row) → All (λ before. before < id) (ids_of b.rows) → length b.rows < b.changed
    → IsBatch (record { plan = b.plan; name = b.name; changed = b.changed; rows = b.rows ++ (id, row) ∷ [] })
batch-push b id row is one above room = record {
  plan = is.plan;
  superstep = is.superstep;
  source = is.source;
  target = is.target;
  changed = is.changed;
  count = omega (arith, length-append b.rows ((id, row) ∷ []), room);
  ascending = subst IsStrictlyIncreasing (sym (map_push (λ (r : ℕ × List ℕ). r.0) b.rows (id, row))) (rises-push (ids_of b.rows) id is.ascending above);
  rows = All-push (IsRow b.plan b.name.source) b.rows (id, row) is.rows one;
}

-- a batch with no rows yet
pub kept_start : (plan : PlanValue) (name : BatchName) (changed m : ℕ) (ids registers : List ℕ) → IsPlan plan → name.superstep ≤ plan.limit → name.source < plan.parts → name.target < plan.parts
    → changed ≤ part_size plan.vertices plan.parts name.source → ids ≡ [] → registers ≡ []
    → IsKept (record { plan = plan; name = name; changed = changed; rows = paired_rows m ids registers }) ids registers
unfolding paired_rows
kept_start plan name changed m ids registers ok superstep source target size no_ids no_registers =
    rw (no_ids, no_registers) (record {
      batch = record { plan = ok; superstep = superstep; source = source; target = target; changed = size; count = omega arith; ascending = λ k lt. absurd (omega arith); rows = λ k d lt. absurd (omega arith) };
      room = omega arith;
    })

-- there are no rows without vertices
pub rows_none : (m : ℕ) (ids registers : List ℕ) → ids ≡ [] → paired_rows m ids registers ≡ []
unfolding paired_rows
rows_none m ids registers e = rw e refl

-- what a push needs of a batch, and what it makes of it
pub record Pushed (b : BatchValue) (ids registers row : List ℕ) (id : ℕ) (new : BatchValue) : Type 0 where
  pub kept : IsKept new (ids ++ id ∷ []) (registers ++ row)
  pub is : new ≡ record { plan = b.plan; name = b.name; changed = b.changed; rows = b.rows ++ (id, row) ∷ [] }

pushed_kept : (b : BatchValue) (ids registers row : List ℕ) (id : ℕ) → Kept b ids registers → IsRow b.plan b.name.source (id, row) → All (λ before. before < id) (ids_of b.rows) → length b.rows < b.changed
    → Pushed b ids registers row id (record { plan = b.plan; name = b.name; changed = b.changed; rows = paired_rows (2 ^ b.plan.log2m) (ids ++ id ∷ []) (registers ++ row) })
pushed_kept b ids registers row id kept one above room =
    let m = 2 ^ b.plan.log2m in
    let rows : paired_rows m (ids ++ id ∷ []) (registers ++ row) ≡ b.rows ++ (id, row) ∷ [] =
    paired_rows-push m ids registers id row kept.room one.width ∙ ap (λ (t : List (ℕ × List ℕ)). t ++ (id, row) ∷ []) (sym kept.rows) in
    let with_rows : List (ℕ × List ℕ) → BatchValue = λ t. record { plan = b.plan; name = b.name; changed = b.changed; rows = t } in
    let same : with_rows (paired_rows m (ids ++ id ∷ []) (registers ++ row)) ≡ with_rows (b.rows ++ (id, row) ∷ []) = ap with_rows rows in
    let more : length (ids ++ id ∷ []) ≡ suc (length ids) = omega (arith, length-append ids (id ∷ [])) in
    let cells : length (ids ++ id ∷ []) * m ≡ length ids * m + m = ap (λ (n : ℕ). n * m) more ∙ suc-mul (length ids) m in
    record {
      kept = record {
        batch = subst IsBatch (sym same) (batch-push b id row kept.batch one above room);
        room = omega (arith, length-append registers row, one.width, kept.room, cells);
      };
      is = same;
    }

-- a batch of these fields
abbrev pub seen : PlanValue → BatchName → ℕ → List (ℕ × List ℕ) → BatchValue
seen plan name changed rows = record { plan = plan; name = name; changed = changed; rows = rows }

-- one row more in memory, of a batch seen from its fields
pub pushed : (plan : PlanValue) (name : BatchName) (changed : ℕ) (ids registers ids' registers' row : List ℕ) (id : ℕ) (b : BatchValue)
    → record { plan = plan; name = name; changed = changed; rows = paired_rows (2 ^ plan.log2m) ids registers } ≡ b
    → IsKept (record { plan = plan; name = name; changed = changed; rows = paired_rows (2 ^ plan.log2m) ids registers }) ids registers
    → IsRow b.plan b.name.source (id, row) → All (λ before. before < id) (ids_of b.rows) → length b.rows < b.changed → ids' ≡ ids ++ id ∷ [] → registers' ≡ registers ++ row
    → record {
      kept : IsKept (record { plan = plan; name = name; changed = changed; rows = paired_rows (2 ^ plan.log2m) ids' registers' }) ids' registers';
      is : seen plan name changed (paired_rows (2 ^ plan.log2m) ids' registers') ≡ seen b.plan b.name b.changed (b.rows ++ (id, row) ∷ []);
    }
pushed plan name changed ids registers ids' registers' row id b view kept one above room is_ids is_registers =
    let before = kept_of plan name changed ids registers b view kept in
    let p = pushed_kept b ids registers row id before one above room in
    let now : BatchValue → BatchValue = λ v. record { plan = v.plan; name = v.name; changed = v.changed; rows = paired_rows (2 ^ v.plan.log2m) (ids ++ id ∷ []) (registers ++ row) } in
    let same : now (record { plan = plan; name = name; changed = changed; rows = paired_rows (2 ^ plan.log2m) ids registers }) ≡ now b = ap now view in
    rw (is_ids, is_registers) (record { kept = subst (λ (v : BatchValue). IsKept v (ids ++ id ∷ []) (registers ++ row)) (sym same) p.kept; is = same ∙ p.is })

-- where a binary search ends between lesser and greater vertices there is none
pub none_at : (ids : List ℕ) (z i : ℕ) → ((k : ℕ) → k < i → get_or ids k 0 < z) → ((k : ℕ) → i ≤ k → k < length ids → z < get_or ids k 0) → (j : ℕ) → j < length ids → get_or ids j 0 ≡ z → ⊥
none_at ids z i less more j lt same =
    elim (cases_lt j i) [
      | inl before ↦ let h = less j before in omega (arith, h, same)
      | inr after ↦ let h = more j after lt in omega (arith, h, same)
    ]
