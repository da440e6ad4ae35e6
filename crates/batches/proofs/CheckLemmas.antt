-- What the checks say, both ways.
use Rattle.std.proofs.Common.{◌≡◌, ℕ, zero, suc, ◌+◌, ◌*◌, ◌%◌, ◌^◌, ◌<◌, ◌≤◌, Bool, true, false, cond, ltb, leb, eqb, not, List, [], ◌∷◌, length, drop, Result, Ok, Err, refl, sym, ap, ◌∙◌, arith, max, ◌||◌}
use Rattle.std.proofs.lemmas.Bool.Decides.{nat_tests}
use Rattle.std.specs.Prelude.{slice_index}
use Rattle.std.specs.List.{list_any, All, fold}
use Rattle.std.specs.List.Sorted.{IsStrictlyIncreasing}
use Rattle.std.proofs.Math.Bool.{or_assoc, or-false}
use Rattle.std.proofs.Math.Nat.{suc-mul}
use Rattle.std.proofs.lemmas.Bool.{ltb-false, leb-false, le-ltb, lt-leb, eq-eqb, or_parts}
use Rattle.std.proofs.lemmas.List.{length-drop, length-take}
use Rattle.ball_model.specs.PlanValue.{PlanValue, part_size}
use Rattle.ball_model.specs.Batches.{IsRow, ids_of}
use Rattle.batches.specs.declared.error.BatchError.{BatchError}
use Rattle.batches.specs.declared.error.BatchError.TheVariants as errors
use Rattle.batches.specs.declared.header.Header.{Header}
use Rattle.batches.specs.Kept.{first_rows}
use Rattle.ball_model.specs.Checks.{◌>>=◌}
use Rattle.ball_model.proofs.CheckLemmas.{bind_ok, equal_checked, guard_ok}
use Rattle.batches.specs.Reading.{magic, check_head, check_length, check_row, check_rows}

-- a fault of the bytes
abbrev pub IsFault : BatchError → Type 0
IsFault errors.Memory = ⊥
IsFault e = Unit {0}

-- an answer that is no want of memory
unfoldable pub AsksNone : {A : Type 0} → Result A BatchError → Type 0
AsksNone (Ok x) = Unit {0}
AsksNone (Err e) = IsFault e

pub err_asks-none : (A : Type 0) (e : BatchError) → AsksNone {A = A} (Err e) → IsFault e
unfolding AsksNone
err_asks-none A e none = none

pub ok_asks-none : {A : Type 0} (x : A) → AsksNone {A = A} (Ok x)
unfolding AsksNone
ok_asks-none x = tt

pub guard_asks-none : {A : Type 0} (b : Bool) (d : BatchError) (r : Result A BatchError) → IsFault d → AsksNone r → AsksNone (cond b (Err d) r)
unfolding AsksNone
guard_asks-none true d r fault after = fault
guard_asks-none false d r fault after = after

pub bind_asks-none : {A B : Type 0} (r : Result A BatchError) (f : A → Result B BatchError) → AsksNone r → ((x : A) → AsksNone (f x)) → AsksNone (r >>= f)
unfolding AsksNone
bind_asks-none (Ok x) f one after = after x
bind_asks-none (Err e) f one after = one

pub head_asks-none : (plan : PlanValue) (h : Header) → AsksNone (check_head plan h)
unfolding check_head
head_asks-none plan h =
    guard_asks-none _ errors.Magic _ tt (guard_asks-none _ errors.Version _ tt (guard_asks-none _ errors.Size _ tt
    (guard_asks-none (ltb plan.limit h.name.superstep) errors.Name _ tt (guard_asks-none (leb plan.parts h.name.source) errors.Name _ tt
    (guard_asks-none (leb plan.parts h.name.target) errors.Name _ tt
    (guard_asks-none (ltb (part_size plan.vertices plan.parts h.name.source) h.changed) errors.Count _ tt
    (guard_asks-none (ltb h.changed h.count) errors.Count _ tt (ok_asks-none tt))))))))

pub length_asks-none : (wanted len : ℕ) → AsksNone (check_length wanted len)
unfolding check_length
length_asks-none wanted len = guard_asks-none _ errors.Short _ tt (guard_asks-none _ errors.Trailing _ tt (ok_asks-none tt))

pub rows_ask-none : (plan : PlanValue) (source least : ℕ) (rows : List (ℕ × List ℕ)) → AsksNone (check_rows plan source least rows)
unfolding check_rows check_row
rows_ask-none plan source least [] = ok_asks-none tt
rows_ask-none plan source least (row ∷ rows) =
    bind_asks-none (check_row plan source least row) _
    (guard_asks-none (leb plan.vertices row.0) errors.Vertex _ tt (guard_asks-none (not (eqb (row.0 % plan.parts) source)) errors.Vertex _ tt
    (guard_asks-none (ltb row.0 least) errors.Order _ tt (guard_asks-none (list_any (ltb 33) row.1) errors.Rank _ tt (ok_asks-none tt)))))
    (λ fine. rows_ask-none plan source (row.0 + 1) rows)

abbrev done : {A : Type 0} → A → Result A BatchError
done x = Ok x

-- one value at most was read
pub ok_is : {A : Type 0} (x y : A) → done x ≡ done y → x ≡ y
ok_is x y e = cc

-- what the checks of the fixed fields say
pub record IsHead (plan : PlanValue) (h : Header) : Type 0 where
  pub magic : h.magic ≡ magic
  pub version : h.version ≡ 1
  pub log2m : h.log2m ≡ plan.log2m
  pub superstep : h.name.superstep ≤ plan.limit
  pub source : h.name.source < plan.parts
  pub target : h.name.target < plan.parts
  pub changed : h.changed ≤ part_size plan.vertices plan.parts h.name.source
  pub count : h.count ≤ h.changed

differs_not : (a b : ℕ) → a ≡ b → not (eqb a b) ≡ false
differs_not a b e = ap not (eq-eqb a b e)

pub head_checked : (plan : PlanValue) (h : Header) (u : Unit {0}) → check_head plan h ≡ Ok u → IsHead plan h
unfolding check_head
head_checked plan h u e =
    let a = guard_ok (not (eqb h.magic magic)) errors.Magic _ u e in
    let b = guard_ok (not (eqb h.version 1)) errors.Version _ u a.1 in
    let c = guard_ok (not (eqb h.log2m plan.log2m)) errors.Size _ u b.1 in
    let d = guard_ok (ltb plan.limit h.name.superstep) errors.Name _ u c.1 in
    let f = guard_ok (leb plan.parts h.name.source) errors.Name _ u d.1 in
    let g = guard_ok (leb plan.parts h.name.target) errors.Name _ u f.1 in
    let i = guard_ok (ltb (part_size plan.vertices plan.parts h.name.source) h.changed) errors.Count _ u g.1 in
    let j = guard_ok (ltb h.changed h.count) errors.Count _ u i.1 in
    record {
      magic = equal_checked h.magic magic a.0;
      version = equal_checked h.version 1 b.0;
      log2m = equal_checked h.log2m plan.log2m c.0;
      superstep = ltb-false _ _ d.0;
      source = leb-false _ _ f.0;
      target = leb-false _ _ g.0;
      changed = ltb-false _ _ i.0;
      count = ltb-false _ _ j.0;
    }

pub head_passes : (plan : PlanValue) (h : Header) → IsHead plan h → check_head plan h ≡ Ok tt
unfolding check_head
head_passes plan h is =
    rw (
      differs_not h.magic magic is.magic,
      differs_not h.version 1 is.version,
      differs_not h.log2m plan.log2m is.log2m,
      le-ltb plan.limit h.name.superstep is.superstep,
      lt-leb plan.parts h.name.source is.source,
      lt-leb plan.parts h.name.target is.target,
      le-ltb (part_size plan.vertices plan.parts h.name.source) h.changed is.changed,
      le-ltb h.changed h.count is.count,
    ) refl

pub length_checked : (wanted len : ℕ) (u : Unit {0}) → check_length wanted len ≡ Ok u → len ≡ wanted
unfolding check_length
length_checked wanted len u e =
    let a = guard_ok (ltb len wanted) errors.Short _ u e in
    let b = guard_ok (ltb wanted len) errors.Trailing _ u a.1 in
    let le = ltb-false len wanted a.0 in
    let ge = ltb-false wanted len b.0 in
    omega arith

pub length_passes : (wanted len : ℕ) → len ≡ wanted → check_length wanted len ≡ Ok tt
unfolding check_length
length_passes wanted len e = rw (le-ltb len wanted (omega arith), le-ltb wanted len (omega arith)) refl

none_above : (rs : List ℕ) → list_any (ltb 33) rs ≡ false → All (λ r. r ≤ 33) rs
none_above [] e k d lt = absurd (omega arith)
none_above (r ∷ rs) e zero d lt = let p = or_parts (ltb 33 r) (list_any (ltb 33) rs) e in ltb-false 33 r p.0
none_above (r ∷ rs) e (suc k) d lt = let p = or_parts (ltb 33 r) (list_any (ltb 33) rs) e in none_above rs p.1 k d (omega arith)

all_below : (rs : List ℕ) → All (λ r. r ≤ 33) rs → list_any (ltb 33) rs ≡ false
all_below [] h = refl
all_below (r ∷ rs) h =
    let first : r ≤ 33 = h 0 0 (omega arith) in
    rw (le-ltb 33 r first) (all_below rs (λ k d lt. h (suc k) d (omega arith)))

-- rows that a batch of the source may have, of vertices from least on, each above the one before
unfoldable pub AreRows : PlanValue → ℕ → ℕ → List (ℕ × List ℕ) → Type 0
AreRows plan source least [] = Unit {0}
AreRows plan source least (row ∷ rows) = IsRow plan source row × (least ≤ row.0) × AreRows plan source (row.0 + 1) rows

pub rows_all : (plan : PlanValue) (source least : ℕ) (rows : List (ℕ × List ℕ)) → AreRows plan source least rows → All (IsRow plan source) rows
unfolding AreRows
rows_all plan source least [] are k d lt = absurd (omega arith)
rows_all plan source least (row ∷ rows) are zero d lt = are.0
rows_all plan source least (row ∷ rows) are (suc k) d lt = rows_all plan source (row.0 + 1) rows are.2 k d (omega arith)

pub rows_ascend : (plan : PlanValue) (source least : ℕ) (rows : List (ℕ × List ℕ)) → AreRows plan source least rows → IsStrictlyIncreasing (ids_of rows)
unfolding AreRows
rows_ascend plan source least [] are k lt = absurd (omega arith)
rows_ascend plan source least (row ∷ []) are k lt = absurd (omega arith)
rows_ascend plan source least (row ∷ next ∷ rows) are zero lt = omega (arith, are.2.1)
rows_ascend plan source least (row ∷ next ∷ rows) are (suc k) lt =
    let e : suc k + 1 ≡ suc (k + 1) = omega arith in
    rw e (rows_ascend plan source (row.0 + 1) (next ∷ rows) are.2 k (omega arith))

pub rows_are : (plan : PlanValue) (source least : ℕ) (rows : List (ℕ × List ℕ)) → (0 < length rows → least ≤ slice_index (ids_of rows) 0) → All (IsRow plan source) rows → IsStrictlyIncreasing (ids_of rows) → AreRows plan source least rows
unfolding AreRows
rows_are plan source least [] from all up = tt
rows_are plan source least (row ∷ []) from all up = (all 0 row (omega arith), from (omega arith), tt)
rows_are plan source least (row ∷ next ∷ rows) from all up =
    let less : row.0 < next.0 = up 0 (omega arith) in
    (all 0 row (omega arith), from (omega arith), rows_are plan source (row.0 + 1) (next ∷ rows) (λ some. omega arith) (λ k d lt. all (suc k) d (omega arith)) (λ k lt. let e : suc k + 1 ≡ suc (k + 1) = omega arith in rw e at (up (suc k) (omega arith))))

-- rows of m registers each
unfoldable pub AreEven : ℕ → List (ℕ × List ℕ) → Type 0
AreEven m [] = Unit {0}
AreEven m (row ∷ rows) = (length row.1 ≡ m) × AreEven m rows

pub rows_even : (m n : ℕ) (bytes : List ℕ) → length bytes ≡ n * (4 + m) → AreEven m (first_rows m n bytes)
unfolding first_rows AreEven
rows_even m zero bytes len = tt
rows_even m (suc n) bytes len =
    let long : length bytes ≡ n * (4 + m) + (4 + m) = len ∙ suc-mul n (4 + m) in
    (omega (arith, length-take m (drop 4 bytes), length-drop 4 bytes, long), rows_even m n (drop (4 + m) bytes) (omega (arith, length-drop (4 + m) bytes, long)))

pub rows_checked : (plan : PlanValue) (source least : ℕ) (rows : List (ℕ × List ℕ)) (u : Unit {0}) → AreEven (2 ^ plan.log2m) rows → check_rows plan source least rows ≡ Ok u → AreRows plan source least rows
unfolding check_rows check_row AreEven AreRows
rows_checked plan source least [] u even e = tt
rows_checked plan source least (row ∷ rows) u even e =
    let one = bind_ok (check_row plan source least row) (λ fine. check_rows plan source (row.0 + 1) rows) u e in
    let a = guard_ok (leb plan.vertices row.0) errors.Vertex _ one.0 one.1 in
    let b = guard_ok (not (eqb (row.0 % plan.parts) source)) errors.Vertex _ one.0 a.1 in
    let c = guard_ok (ltb row.0 least) errors.Order _ one.0 b.1 in
    let d = guard_ok (list_any (ltb 33) row.1) errors.Rank _ one.0 c.1 in
    (record { vertex = leb-false _ _ a.0; own = equal_checked _ _ b.0; width = even.0; ranks = none_above row.1 d.0 }, ltb-false _ _ c.0, rows_checked plan source (row.0 + 1) rows u even.1 one.2)

pub rows_pass : (plan : PlanValue) (source least : ℕ) (rows : List (ℕ × List ℕ)) → AreRows plan source least rows → check_rows plan source least rows ≡ Ok tt
unfolding check_rows check_row AreRows
rows_pass plan source least [] are = refl
rows_pass plan source least (row ∷ rows) are =
    rw (lt-leb plan.vertices row.0 are.0.vertex, differs_not (row.0 % plan.parts) source are.0.own, le-ltb row.0 least are.1, all_below row.1 are.0.ranks) (rows_pass plan source (row.0 + 1) rows are.2)

-- the greatest of numbers is above 33 where one of them is
pub greatest_above : (rs : List ℕ) → ltb 33 (fold max 0 rs) ≡ list_any (ltb 33) rs
greatest_above rs = greatest_from rs 0
  where
    either : (a b : ℕ) → ltb 33 (max a b) ≡ (ltb 33 a || ltb 33 b)
    either a b = grind (arith, nat_tests)

    greatest_from : (rs : List ℕ) (a : ℕ) → ltb 33 (fold max a rs) ≡ (ltb 33 a || list_any (ltb 33) rs)
    greatest_from [] a = sym (or-false (ltb 33 a))
    greatest_from (r ∷ rs) a = greatest_from rs (max a r) ∙ ap (λ (b : Bool). b || list_any (ltb 33) rs) (either a r) ∙ or_assoc (ltb 33 a) (ltb 33 r) (list_any (ltb 33) rs)
