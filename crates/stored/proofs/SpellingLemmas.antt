-- What is read is spelled as it is written.
use Rattle.std.proofs.Common.{◌≡◌, ℕ, zero, suc, ◌+◌, ◌-◌, ◌<◌, ◌≤◌, ◌^◌, Bool, true, false, List, [], ◌∷◌, ◌++◌, length, get_or, take, drop, Result, Ok, Err, refl, ap, sym, ◌∙◌, subst, arith, append_assoc, append-nil, length-append, cond, inl, inr}
use Rattle.std.specs.Prelude.{◌≢◌, ◌==◌, ◌||◌, not, nat_lt, Option, codes}
use Rattle.std.specs.List.{flat_map, sum_by, AllByRecursion}
use Rattle.std.specs.Int.{w32, w64, to_be_bytes}
use Rattle.std.proofs.Math.Seq.{take-add}
use Rattle.std.proofs.lemmas.Bool.{cases_lt, eqb-true, ltb-false, ne_eqb, eq-eqb}
use Rattle.std.proofs.lemmas.List.{drop_all, drop-drop, drop_more, get_or-drop, get_or-take, get_or_past, length-drop, length-take, length-take-le, take-append-drop}
use Rattle.std.proofs.lemmas.Nat.{be_bytes_4, be_bytes_8}
use Rattle.sha2.specs.declared.Sha256.{Sha256}
use Rattle.ball_model.specs.Input.{most_records}
use Rattle.ball_model.specs.PlanValue.{most_vertices}
use Rattle.ball_model.proofs.CheckLemmas.{bind_ok, equal_checked, guard_ok}
use Rattle.gapcode.specs.Lists.{all_of, AreAscending}
use Rattle.graph.specs.Lines.{labels_in}
use Rattle.gapcode.specs.declared.error.CodeError.{CodeError}
use Rattle.gapcode.proofs.WholeLemmas.{all_takes}
use Rattle.stored.specs.declared.error.StoredError.{StoredError}
use Rattle.stored.specs.declared.error.StoredError.TheVariants as errors
use Rattle.stored.specs.declared.header.StoredHeader.{StoredHeader}
use Rattle.stored.specs.Reading.{Reading, block_reading, blocks_reading, check_block, check_block_head, check_code, check_edges, check_stored_head, code_reading, content_reading, field, followed, head_reading, is_block, labels_reading, labels_told, lists_told, needs, stored_head_at, stored_magic, told, AreBytes, Tells}
use Rattle.stored.specs.Stored.{StoredValue, IsLabel, IsStorable, block_bytes, blocks_of, code_bytes, code_of, content_bytes, head_bytes, label_lines}
use Rattle.stored.proofs.BlockLemmas.{block_first, is_none}
use Rattle.stored.proofs.LabelLemmas.{has_labels, labels_passed}
use Rattle.stored.proofs.PackLemmas.{packed_are}
use Rattle.stored.proofs.PartsLemmas.{needed, ok_same, parts, passed, told_is}
use Rattle.stored.proofs.ReadBlockLemmas.{block_rest}
use Rattle.stored.proofs.ReadWholeLemmas.{after_header, after_labels}

-- ---- bytes
bytes_drop : (n : ℕ) (bytes : List ℕ) → AreBytes bytes → AreBytes (drop n bytes)
bytes_drop n bytes small i = rw get_or-drop (small (n + i))

bytes_take : (n : ℕ) (bytes : List ℕ) → AreBytes bytes → AreBytes (take n bytes)
bytes_take n bytes small i =
    elim (cases_lt i n) [
      | inl lt ↦ rw (get_or-take n bytes i 0 lt) (small i)
      | inr le ↦ rw (get_or_past (take n bytes) i 0 (omega (arith, length-take n bytes))) (omega arith)
    ]

split : (at n : ℕ) (bytes : List ℕ) → drop at bytes ≡ take n (drop at bytes) ++ drop (at + n) bytes
split at n bytes = sym (take-append-drop n (drop at bytes)) ∙ ap (λ (l : List ℕ). take n (drop at bytes) ++ l) (drop-drop n at bytes)

-- a number at a place, and what follows it
four : (at : ℕ) (bytes : List ℕ) → at + 4 ≤ length bytes → AreBytes bytes → drop at bytes ≡ to_be_bytes w32 (field w32 at bytes) ++ drop (at + 4) bytes
four at bytes long small =
    let is = be_bytes_4 (take 4 (drop at bytes)) (field w32 at bytes) (omega (arith, length-take 4 (drop at bytes), length-drop at bytes)) (bytes_take 4 (drop at bytes) (bytes_drop at bytes small)) refl in
    split at 4 bytes ∙ ap (λ (l : List ℕ). l ++ drop (at + 4) bytes) (sym is)

eight : (at : ℕ) (bytes : List ℕ) → at + 8 ≤ length bytes → AreBytes bytes → drop at bytes ≡ to_be_bytes w64 (field w64 at bytes) ++ drop (at + 8) bytes
eight at bytes long small =
    let is = be_bytes_8 (take 8 (drop at bytes)) (field w64 at bytes) (omega (arith, length-take 8 (drop at bytes), length-drop at bytes)) (bytes_take 8 (drop at bytes) (bytes_drop at bytes small)) refl in
    split at 8 bytes ∙ ap (λ (l : List ℕ). l ++ drop (at + 8) bytes) (sym is)

eight_small : (at : ℕ) (bytes : List ℕ) → AreBytes bytes → field w64 at bytes < 2 ^ 64
eight_small at bytes small =
    let s = bytes_take 8 (drop at bytes) (bytes_drop at bytes small) in
    omega (arith, s 0, s 1, s 2, s 3, s 4, s 5, s 6, s 7)

-- ---- the header
abbrev pub head_of : ℕ → ℕ → ℕ → List ℕ
head_of n m k = codes "HBGR" ++ (1 ∷ []) ++ to_be_bytes w32 n ++ to_be_bytes w64 m ++ to_be_bytes w64 k

head_is : (bytes : List ℕ) → length bytes ≡ 25 → AreBytes bytes → field w32 0 bytes ≡ 0x48424752 → get_or bytes 4 0 ≡ 1 → bytes ≡ head_of (field w32 5 bytes) (field w64 9 bytes) (field w64 17 bytes)
head_is bytes long small magic version =
    let none : drop 25 bytes ≡ [] = drop_all 25 bytes (omega (arith, long)) in
    let e1 : drop 17 bytes ≡ to_be_bytes w64 (field w64 17 bytes) = eight 17 bytes (omega (arith, long)) small ∙ ap (λ (l : List ℕ). to_be_bytes w64 (field w64 17 bytes) ++ l) none ∙ append-nil (to_be_bytes w64 (field w64 17 bytes)) in
    let e2 = eight 9 bytes (omega (arith, long)) small ∙ ap (λ (l : List ℕ). to_be_bytes w64 (field w64 9 bytes) ++ l) e1 in
    let e3 = four 5 bytes (omega (arith, long)) small ∙ ap (λ (l : List ℕ). to_be_bytes w32 (field w32 5 bytes) ++ l) e2 in
    let e4 = drop_more bytes 4 0 (omega (arith, long)) ∙ ap (λ (l : List ℕ). get_or bytes 4 0 ∷ l) e3 ∙ ap (λ (n : ℕ). n ∷ (to_be_bytes w32 (field w32 5 bytes) ++ (to_be_bytes w64 (field w64 9 bytes) ++ to_be_bytes w64 (field w64 17 bytes)))) version in
    four 0 bytes (omega (arith, long)) small ∙ ap (λ (n : ℕ). to_be_bytes w32 n ++ drop 4 bytes) magic ∙ ap (λ (l : List ℕ). to_be_bytes w32 0x48424752 ++ l) e4

-- a header that passes
record IsHead (h : StoredHeader) : Type 0 where
  magic : h.magic ≡ 0x48424752
  version : h.version ≡ 1
  few : h.vertices ≤ most_vertices
  few_edges : h.edges < 2 ^ 32

both_false : (a b : Bool) → a || b ≡ false → (a ≡ false) × (b ≡ false)
both_false true b e = absurd (cc)
both_false false b e = (refl, e)

head_passed : (h g : StoredHeader) → check_stored_head h ≡ Ok g → (h ≡ g) × IsHead h
unfolding check_stored_head
head_passed h g e =
    let a = guard_ok (not (h.magic == stored_magic)) errors.Magic _ g e in
    let b = guard_ok (not (h.version == 1)) errors.Version _ g a.1 in
    let c = guard_ok (nat_lt most_vertices h.vertices || nat_lt most_records h.edges) errors.Size _ g b.1 in
    let d = both_false (nat_lt most_vertices h.vertices) (nat_lt most_records h.edges) c.0 in
    let same : h ≡ g = cc in (
      same,
      record {
        magic = equal_checked h.magic stored_magic a.0;
        version = equal_checked h.version 1 b.0;
        few = ltb-false most_vertices h.vertices d.0;
        few_edges = omega (arith, ltb-false most_records h.edges d.1);
      },
    )

-- the bytes begin with this header
pub record HeadSpelled (h : StoredHeader) (bytes : List ℕ) : Type 0 where
  pub few : h.vertices ≤ most_vertices
  pub few_edges : h.edges < 2 ^ 32
  pub short : h.labels < 2 ^ 64
  pub spelled : bytes ≡ head_of h.vertices h.edges h.labels

head_at_spelled : (bytes : List ℕ) → length bytes ≡ 25 → AreBytes bytes → IsHead (stored_head_at bytes) → HeadSpelled (stored_head_at bytes) bytes
unfolding stored_head_at
head_at_spelled bytes long small p = record { few = p.few; few_edges = p.few_edges; short = eight_small 17 bytes small; spelled = head_is bytes long small p.magic p.version }

head_spelled : (bytes : List ℕ) (h : StoredHeader) (n : ℕ) → AreBytes bytes → head_reading bytes ≡ Ok (h, n) → (25 ≤ length bytes) × (n ≡ 25) × HeadSpelled h (take 25 bytes)
head_spelled bytes h n small is =
    let p = passed 25 (λ z. check_stored_head (stored_head_at z)) bytes h n is in
    let q = head_passed (stored_head_at (take 25 bytes)) h p.passes in
    (p.long, p.size, subst (λ (g : StoredHeader). HeadSpelled g (take 25 bytes)) q.0 (head_at_spelled (take 25 bytes) (length-take-le 25 bytes p.long) (bytes_take 25 bytes small) q.1))

-- ---- the labels
pub record LabelsSpelled (h : StoredHeader) (bytes : List ℕ) (labels : List (List ℕ)) (n : ℕ) : Type 0 where
  pub within : n ≤ length bytes
  pub size : n ≡ h.labels
  pub spelled : take n bytes ≡ label_lines labels
  pub many : length labels ≡ h.vertices
  pub each : AllByRecursion IsLabel labels

labels_spelled : (h : StoredHeader) (bytes : List ℕ) (labels : List (List ℕ)) (n : ℕ) → labels_reading h bytes ≡ Ok (labels, n) → LabelsSpelled h bytes labels n
labels_spelled h bytes labels n is =
    let p = passed h.labels (λ z. labels_told (labels_in h.vertices z)) bytes labels n is in
    let q = has_labels h.vertices (take h.labels bytes) labels (labels_passed (labels_in h.vertices (take h.labels bytes)) labels p.passes) in
    record { within = omega (arith, p.long, p.size); size = p.size; spelled = ap (λ (k : ℕ). take k bytes) p.size ∙ q.spelled; many = q.many; each = q.each }

-- ---- a block
pub record BlockSpelled (m left : ℕ) (bytes : List ℕ) (lists : List (List ℕ)) (n : ℕ) : Type 0 where
  pub within : n ≤ length bytes
  pub some : 0 < length lists
  pub fits : length lists ≤ left
  pub spelled : take n bytes ≡ block_bytes lists
  pub ascend : AreAscending m lists
  pub block : is_block (length lists == left) lists ≡ true

record BlockParts (m left : ℕ) (bytes : List ℕ) (lists : List (List ℕ)) (n : ℕ) : Type 0 where
  long : 12 ≤ length bytes
  passes : check_block_head left (take 12 bytes) ≡ Ok tt
  l : ℕ
  code : code_reading m left (take 12 bytes) (drop 12 bytes) ≡ Ok (lists, l)
  sum : n ≡ 12 + l

block_parts : (m left : ℕ) (bytes : List ℕ) (lists : List (List ℕ)) (n : ℕ) → block_reading m left bytes ≡ Ok (lists, n) → BlockParts m left bytes lists n
block_parts m left bytes lists n is =
    let a = parts (needs 12) (block_rest m left) bytes lists n is in
    let q = needed 12 bytes a.x a.k a.one in
    let b = parts (told (check_block_head left a.x)) (λ _. code_reading m left a.x) (drop a.k bytes) lists a.l a.two in
    let t = told_is (check_block_head left a.x) (drop a.k bytes) b.x b.k b.one in
    let rest : drop b.k (drop a.k bytes) ≡ drop 12 bytes = rw (t.1, q.2) refl in
    record {
      long = q.0;
      passes = subst (λ (x : List ℕ). check_block_head left x ≡ Ok tt) q.1 t.0;
      l = b.l;
      code = subst (λ (x : List ℕ). code_reading m left (take 12 bytes) x ≡ Ok (lists, b.l)) rest (subst (λ (x : List ℕ). code_reading m left x (drop b.k (drop a.k bytes)) ≡ Ok (lists, b.l)) q.1 b.two);
      sum = omega (arith, a.sum, b.sum, q.2, t.1);
    }

told_lists : (r : Result (List (List ℕ)) CodeError) (lists : List (List ℕ)) → lists_told r ≡ Ok lists → r ≡ Ok lists
told_lists (Ok xs) lists e = let same : xs ≡ lists = cc in ap Ok same
told_lists (Err d) lists e = absurd (cc)

block_passed : (left : ℕ) (xs lists : List (List ℕ)) (is : Bool) → is_block (length xs == left) xs ≡ is → cond is (Ok xs) (Err errors.Block) ≡ Ok lists → (xs ≡ lists) × (is_block (length xs == left) xs ≡ true)
block_passed left xs lists true e is = let same : xs ≡ lists = cc in (same, e)
block_passed left xs lists false e is = absurd (cc)

code_passed : (m left count : ℕ) (code : List ℕ) (lists : List (List ℕ)) → check_code m left count code ≡ Ok lists → (all_of m count code ≡ Ok lists) × (is_block (length lists == left) lists ≡ true)
unfolding check_block
code_passed m left count code lists is =
    let a = bind_ok (lists_told (all_of m count code)) (check_block left) lists is in
    let b = block_passed left a.0 lists (is_block (length a.0 == left) a.0) refl a.2 in
    (told_lists (all_of m count code) a.0 a.1 ∙ ap Ok b.0, subst (λ (l : List (List ℕ)). is_block (length l == left) l ≡ true) b.0 b.1)

some_passed : (left : ℕ) (head : List ℕ) → check_block_head left head ≡ Ok tt → (0 < field w32 0 head) × (field w32 0 head ≤ left)
unfolding check_block_head
some_passed left head is =
    let a = guard_ok ((field w32 0 head == 0) || nat_lt left (field w32 0 head)) errors.Block _ tt is in
    let b = both_false (field w32 0 head == 0) (nat_lt left (field w32 0 head)) a.0 in
    let other : field w32 0 head ≢ 0 = λ none. let yes_ = eq-eqb (field w32 0 head) 0 none in absurd (cc) in
    (omega (arith, other), ltb-false left (field w32 0 head) b.1)

head_fields : (head : List ℕ) → length head ≡ 12 → AreBytes head → head ≡ to_be_bytes w32 (field w32 0 head) ++ to_be_bytes w64 (field w64 4 head)
head_fields head long small =
    let none : drop 12 head ≡ [] = drop_all 12 head (omega (arith, long)) in
    let e = eight 4 head (omega (arith, long)) small ∙ ap (λ (l : List ℕ). to_be_bytes w64 (field w64 4 head) ++ l) none ∙ append-nil (to_be_bytes w64 (field w64 4 head)) in
    four 0 head (omega (arith, long)) small ∙ ap (λ (l : List ℕ). to_be_bytes w32 (field w32 0 head) ++ l) e

block_joined : (lists : List (List ℕ)) (head code : List ℕ) (count size : ℕ) → head ≡ to_be_bytes w32 count ++ to_be_bytes w64 size → length lists ≡ count → length code ≡ size → code ≡ code_bytes lists → head ++ code ≡ block_bytes lists
unfolding block_bytes
block_joined lists head code count size is many long spelled =
    let same : length (code_bytes lists) ≡ size = ap length (sym spelled) ∙ long in
    rw (is, spelled, many, same) (append_assoc (to_be_bytes w32 count) (to_be_bytes w64 size) (code_bytes lists))

block_spelled : (m left : ℕ) (bytes : List ℕ) (lists : List (List ℕ)) (n : ℕ) → AreBytes bytes → block_reading m left bytes ≡ Ok (lists, n) → BlockSpelled m left bytes lists n
block_spelled m left bytes lists n small is =
    let a = block_parts m left bytes lists n is in
    let head = take 12 bytes in
    let count = field w32 0 head in
    let size = field w64 4 head in
    let c = passed size (check_code m left count) (drop 12 bytes) lists a.l a.code in
    let code = take size (drop 12 bytes) in
    let d = code_passed m left count code lists c.passes in
    let s = all_takes m count code lists d.0 in
    let some = some_passed left head a.passes in
    let whole : n ≡ 12 + size = omega (arith, a.sum, c.size) in
    let spelled = packed_are code (code_of lists) (bytes_take size (drop 12 bytes) (bytes_drop 12 bytes small)) s.spelled in
    record {
      within = omega (arith, whole, c.long, a.long, length-drop 12 bytes);
      some = omega (arith, some.0, s.count);
      fits = omega (arith, some.1, s.count);
      spelled = ap (λ (k : ℕ). take k bytes) whole ∙ take-add 12 size bytes
          ∙ block_joined lists head code count size (head_fields head (length-take-le 12 bytes a.long) (bytes_take 12 bytes small)) s.count (length-take-le size (drop 12 bytes) c.long) spelled;
      ascend = s.ascend;
      block = d.1;
    }

-- ---- all blocks
pub record BlocksSpelled (m left : ℕ) (bytes : List ℕ) (lists : List (List ℕ)) (n : ℕ) : Type 0 where
  pub within : n ≤ length bytes
  pub many : length lists ≡ left
  pub spelled : take n bytes ≡ flat_map block_bytes (blocks_of lists)
  pub ascend : AreAscending m lists

all_both : (m : ℕ) (xs ys : List (List ℕ)) → AreAscending m xs → AreAscending m ys → AreAscending m (xs ++ ys)
all_both m [] ys p q = q
all_both m (x ∷ xs) ys p q = (p.0, all_both m xs ys p.1 q)

none_by : (others : List (List ℕ)) (k left : ℕ) → length others ≡ left - k → k ≤ left → is_none others ≡ (k == left)
none_by [] k left long le = sym (eq-eqb k left (omega (arith, long, le)))
none_by (xs ∷ others) k left long le = sym (ne_eqb k left (λ same. absurd (omega (arith, long, le, same))))

no_blocks : (m left : ℕ) (bytes : List ℕ) (lists : List (List ℕ)) (n : ℕ) → left ≡ 0 → [] ≡ lists → 0 ≡ n → BlocksSpelled m left bytes lists n
unfolding blocks_of
no_blocks m left bytes lists n none is size = rw (← is, ← size, none) (record { within = omega arith; many = refl; spelled = refl; ascend = tt })

blocks_joined : (m left : ℕ) (bytes : List ℕ) (block others lists : List (List ℕ)) (k l n : ℕ) → block ++ others ≡ lists → n ≡ k + l → BlockSpelled m left bytes block k → BlocksSpelled m (left - length block) (drop k bytes) others l → BlocksSpelled m left bytes lists n
blocks_joined m left bytes block others lists k l n is sum p q =
    let last : is_none others ≡ (length block == left) = none_by others (length block) left q.many p.fits in
    let first : blocks_of (block ++ others) ≡ block ∷ blocks_of others = block_first block others (ap (λ (b : Bool). is_block b block) last ∙ p.block) in
    rw (← is, sum) (record {
      within = omega (arith, p.within, q.within, length-drop k bytes);
      many = omega (arith, length-append block others, q.many, p.fits);
      spelled = take-add k l bytes ∙ ap (λ (x : List ℕ). x ++ take l (drop k bytes)) p.spelled ∙ ap (λ (x : List ℕ). block_bytes block ++ x) q.spelled ∙ ap (flat_map block_bytes) (sym first);
      ascend = all_both m block others p.ascend q.ascend;
    })

abbrev lists_or : Result (List (List ℕ)) StoredError → List (List ℕ)
lists_or (Ok lists) = lists
lists_or (Err e) = []

abbrev after_block : ℕ → ℕ → ℕ → List (List ℕ) → Reading (List (List ℕ))
after_block m most left block = followed (blocks_reading m most (left - length block)) (λ others. told (Ok (block ++ others)))

abbrev AreSpelledBy : ℕ → ℕ → Type 0
AreSpelledBy m most = (left : ℕ) (bytes : List ℕ) (lists : List (List ℕ)) (n : ℕ) → left ≤ most → AreBytes bytes → blocks_reading m most left bytes ≡ Ok (lists, n) → BlocksSpelled m left bytes lists n

blocks_by : (m most left : ℕ) (bytes : List ℕ) (lists : List (List ℕ)) (n : ℕ) (none : Bool) → (left == 0) ≡ none → left ≤ suc most → AreBytes bytes → AreSpelledBy m most
    → cond none (Ok ([], 0)) (followed (block_reading m left) (after_block m most left) bytes) ≡ Ok (lists, n) → BlocksSpelled m left bytes lists n
blocks_by m most left bytes lists n true e le small others is = let p = ok_same [] lists 0 n is in no_blocks m left bytes lists n (eqb-true left 0 e) p.0 p.1
blocks_by m most left bytes lists n false e le small others is =
    let a = parts (block_reading m left) (after_block m most left) bytes lists n is in
    let p = block_spelled m left bytes a.x a.k small a.one in
    let b = parts (blocks_reading m most (left - length a.x)) (λ rest. told (Ok (a.x ++ rest))) (drop a.k bytes) lists a.l a.two in
    let q = others (left - length a.x) (drop a.k bytes) b.x b.k (omega (arith, le, p.some)) (bytes_drop a.k bytes small) b.one in
    let joined : Result (List (List ℕ)) StoredError = Ok (a.x ++ b.x) in
    let t = told_is joined (drop b.k (drop a.k bytes)) lists b.l b.two in
    let same : a.x ++ b.x ≡ lists = ap (λ (r : Result (List (List ℕ)) StoredError). lists_or r) t.0 in
    blocks_joined m left bytes a.x b.x lists a.k b.k n same (omega (arith, a.sum, b.sum, t.1)) p q

blocks_spelled : (m most left : ℕ) (bytes : List ℕ) (lists : List (List ℕ)) (n : ℕ) → left ≤ most → AreBytes bytes → blocks_reading m most left bytes ≡ Ok (lists, n) → BlocksSpelled m left bytes lists n
unfolding blocks_reading
blocks_spelled m zero left bytes lists n le small is = let e = ok_same [] lists 0 n is in no_blocks m left bytes lists n (omega (arith, le)) e.0 e.1
blocks_spelled m (suc most) left bytes lists n le small is = blocks_by m most left bytes lists n (left == 0) refl le small (blocks_spelled m most) is

-- ---- the content
edges_passed : (edges : ℕ) (v w : StoredValue) → check_edges edges v ≡ Ok w → (v ≡ w) × (sum_by length v.preds ≡ edges)
unfolding check_edges
edges_passed edges v w is = by_cases (sum_by length v.preds == edges) refl is
  where
    by_cases : (same : Bool) → (sum_by length v.preds == edges) ≡ same → cond same (Ok v) (Err errors.Edges) ≡ Ok w → (v ≡ w) × (sum_by length v.preds ≡ edges)
    by_cases true e is = let one : v ≡ w = cc in (one, eqb-true (sum_by length v.preds) edges e)
    by_cases false e is = absurd (cc)

pub record ContentSpelled (bytes : List ℕ) (v : StoredValue) (n : ℕ) : Type 0 where
  pub within : n ≤ length bytes
  pub storable : IsStorable v
  pub spelled : take n bytes ≡ content_bytes v

heads_are : (labels preds : List (List ℕ)) (n m k : ℕ) → length preds ≡ n → sum_by length preds ≡ m → length (label_lines labels) ≡ k → head_of n m k ≡ head_bytes (record { labels = labels; preds = preds })
unfolding head_bytes
heads_are labels preds n m k a b c = rw (a, b, c) refl

content_joined : (bytes : List ℕ) (h : StoredHeader) (labels preds : List (List ℕ)) (k l : ℕ) → 25 ≤ length bytes → HeadSpelled h (take 25 bytes) → LabelsSpelled h (drop 25 bytes) labels k → BlocksSpelled h.vertices h.vertices (drop k (drop 25 bytes)) preds l
    → sum_by length preds ≡ h.edges → ContentSpelled bytes (record { labels = labels; preds = preds }) (25 + (k + l))
unfolding content_bytes
content_joined bytes h labels preds k l long p q r sum =
    let v : StoredValue = record { labels = labels; preds = preds } in
    let text : length (label_lines labels) ≡ h.labels = ap length (sym q.spelled) ∙ length-take-le k (drop 25 bytes) q.within ∙ q.size in
    let head : take 25 bytes ≡ head_bytes v = p.spelled ∙ heads_are labels preds h.vertices h.edges h.labels r.many sum text in
    record {
      within = omega (arith, long, q.within, r.within, length-drop 25 bytes, length-drop k (drop 25 bytes));
      storable = record {
        as_many = q.many ∙ sym r.many;
        few = omega (arith, r.many, p.few);
        few_edges = omega (arith, sum, p.few_edges);
        ascend = subst (λ (n : ℕ). AreAscending n preds) (sym r.many) r.ascend;
        labels = q.each;
        short = omega (arith, text, p.short);
      };
      spelled = take-add 25 (k + l) bytes ∙ ap (λ (x : List ℕ). x ++ take (k + l) (drop 25 bytes)) head
          ∙ ap (λ (x : List ℕ). head_bytes v ++ x) (take-add k l (drop 25 bytes) ∙ ap (λ (x : List ℕ). x ++ take l (drop k (drop 25 bytes))) q.spelled ∙ ap (λ (x : List ℕ). label_lines labels ++ x) r.spelled)
          ∙ sym (append_assoc (head_bytes v) (label_lines labels) (flat_map block_bytes (blocks_of preds)));
    }

pub content_spelled : (bytes : List ℕ) (v : StoredValue) (n : ℕ) → AreBytes bytes → content_reading bytes ≡ Ok (v, n) → ContentSpelled bytes v n
content_spelled bytes v n small is =
    let a = parts head_reading after_header bytes v n is in
    let p = head_spelled bytes a.x a.k small a.one in
    let b = parts (labels_reading a.x) (after_labels a.x) (drop a.k bytes) v a.l a.two in
    let h = a.x in
    let c = parts (blocks_reading h.vertices h.vertices h.vertices) (λ preds. told (check_edges h.edges (record { labels = b.x; preds = preds }))) (drop b.k (drop a.k bytes)) v b.l b.two in
    let d = told_is (check_edges h.edges (record { labels = b.x; preds = c.x })) (drop c.k (drop b.k (drop a.k bytes))) v c.l c.two in
    let e = edges_passed h.edges (record { labels = b.x; preds = c.x }) v d.0 in
    let size : n ≡ 25 + (b.k + c.k) = omega (arith, a.sum, b.sum, c.sum, d.1, p.1) in
    let from : drop a.k bytes ≡ drop 25 bytes = ap (λ (k : ℕ). drop k bytes) p.1 in
    let q = labels_spelled h (drop a.k bytes) b.x b.k b.one in
    let r = blocks_spelled h.vertices h.vertices h.vertices (drop b.k (drop a.k bytes)) c.x c.k (omega arith) (bytes_drop b.k (drop a.k bytes) (bytes_drop a.k bytes small)) c.one in
    let w : StoredValue = record { labels = b.x; preds = c.x } in
    subst (λ (x : StoredValue). ContentSpelled bytes x n) e.0
    (subst (λ (k : ℕ). ContentSpelled bytes w k) (sym size) (content_joined bytes h b.x c.x b.k c.k p.0 p.2 (subst (λ (x : List ℕ). LabelsSpelled h x b.x b.k) from q) (subst (λ (x : List ℕ). BlocksSpelled h.vertices h.vertices (drop b.k x) c.x c.k) from r) e.1))

-- lists that were read ascend
pub told_ascend : {R : Type 0} {remaining : R → Option (List ℕ)} {failed : R → ℕ} {sure : R → Option ℕ} {a b : R} {t u : Sha256} (n : ℕ) (lists : List (List ℕ)) → Tells remaining failed sure (blocks_reading n n n) a b t u lists → AreAscending n lists
told_ascend n lists p = (blocks_spelled n n n (p.piece ++ []) lists (length p.piece) (omega arith) (subst AreBytes (sym (append-nil p.piece)) p.bytes) (p.is_told [])).ascend
