-- What is written is read again.
use Rattle.std.proofs.Common.{◌≡◌, ℕ, zero, suc, ◌+◌, ◌-◌, ◌*◌, ◌/◌, ◌<◌, ◌≤◌, ◌^◌, Bool, true, false, List, [], ◌∷◌, ◌++◌, length, take, drop, Result, Ok, refl, ap, sym, ◌∙◌, subst, arith, append_assoc, append-nil, length-append, cond, inl, inr}
use Rattle.std.specs.Prelude.{◌≢◌, ◌==◌, replicate}
use Rattle.std.specs.List.{flat_map, sum_by, AllByRecursion}
use Rattle.std.specs.Int.{w32, w64, to_be_bytes}
use Rattle.std.proofs.lemmas.Bool.{cases_lt, eq-eqb, le-ltb, ne_eqb}
use Rattle.std.proofs.lemmas.List.{length-replicate, take_at, take-append-le, length-drop, length-take-le, take-append-drop}
use Rattle.std.proofs.lemmas.List.Sums.{sum_by-cons}
use Rattle.std.proofs.lemmas.Nat.{from_be_bytes-to_be_bytes_4, from_be_bytes-to_be_bytes_8}
use Rattle.std.proofs.Math.Dec.{leb}
use Rattle.ball_model.specs.Input.{most_records}
use Rattle.ball_model.specs.PlanValue.{most_vertices}
use Rattle.gapcode.specs.Bits.{bits_of, digits, gamma, log2, log2_below, number_of, AreBytesOf}
use Rattle.gapcode.specs.Lists.{all_of, gaps, list_bits, AreAscending}
use Rattle.gapcode.proofs.DigitsLemmas.{digits-number_of, length-digits}
use Rattle.gapcode.proofs.WholeLemmas.{all_again}
use Rattle.graph.specs.Lines.{labels_in}
use Rattle.stored.specs.declared.error.StoredError.{StoredError}
use Rattle.stored.specs.declared.header.StoredHeader.{StoredHeader}
use Rattle.stored.specs.Reading.{Reading, block_reading, blocks_reading, check_block_head, check_code, check_edges, check_stored_head, code_reading, content_reading, field, followed, goes_on, head_reading, is_block, labels_reading, labels_told, needs, stored_head_at, told}
use Rattle.stored.specs.Stored.{StoredValue, IsLabel, IsStorable, block_bytes, blocks_after, blocks_of, code_bytes, code_of, content_bytes, head_bytes, is_full, label_lines, packed}
use Rattle.stored.proofs.BlockLemmas.{after_full, after_more, is_none}
use Rattle.stored.proofs.LabelLemmas.{labels_again, labels_pass}
use Rattle.stored.proofs.PackLemmas.{zeros_split}
use Rattle.stored.proofs.ReadBlockLemmas.{block_rest, blocks-more, blocks-none, code_passes, head_passes, with_lists}
use Rattle.stored.proofs.ReadLemmas.{followed-at, needs-ok}
use Rattle.stored.proofs.ReadWholeLemmas.{after_header, after_labels, edges_pass}
use Rattle.stored.proofs.SpellingLemmas.{head_of}

-- a piece is read as this, whatever follows
abbrev pub Reads : {A : Type 0} → Reading A → List ℕ → A → Type 0
Reads reading piece x = (rest : List ℕ) → reading (piece ++ rest) ≡ Ok (x, length piece)

reads_then : {A B : Type 0} (first : Reading A) (second : A → Reading B) (one two : List ℕ) (x : A) (y : B) → Reads first one x → Reads (second x) two y → Reads (followed first second) (one ++ two) y
reads_then first second one two x y p q rest =
    ap (followed first second) (append_assoc one two rest) ∙ followed-at first second one (two ++ rest) x (p (two ++ rest)) ∙ rw (q rest, length-append one two) refl

reads_checked : {A B : Type 0} (first : Reading A) (check : A → Result B StoredError) (piece : List ℕ) (x : A) (y : B) → check x ≡ Ok y → Reads first piece x → Reads (followed first (λ z. told (check z))) piece y
unfolding told
reads_checked first check piece x y e p rest =
    let none : length piece + 0 ≡ length piece = omega arith in
    followed-at first (λ z. told (check z)) piece rest x (p rest) ∙ rw (e, none) refl

reads_told : {A : Type 0} (r : Result A StoredError) (x : A) → r ≡ Ok x → Reads (told r) [] x
unfolding told
reads_told r x e rest = rw e refl

-- ---- the header
header_of : ℕ → ℕ → ℕ → StoredHeader
header_of n m k = record { magic = 0x48424752; version = 1; vertices = n; edges = m; labels = k }

head_fields : (n m k : ℕ) → n < 2 ^ 32 → m < 2 ^ 64 → k < 2 ^ 64 → stored_head_at (head_of n m k) ≡ header_of n m k
unfolding stored_head_at header_of
head_fields n m k a b c =
    let e1 = from_be_bytes-to_be_bytes_4 n a in
    let e2 = from_be_bytes-to_be_bytes_8 m b in
    let e3 = from_be_bytes-to_be_bytes_8 k c in
    rw (e1, e2, e3) refl

head_allowed : (n m k : ℕ) → n ≤ most_vertices → m < 2 ^ 32 → check_stored_head (header_of n m k) ≡ Ok (header_of n m k)
unfolding check_stored_head header_of
head_allowed n m k few few_edges =
    let edges : m ≤ most_records = omega (arith, few_edges) in
    rw (le-ltb most_vertices n few, le-ltb most_records m edges) refl

head_again : (n m k : ℕ) → n ≤ most_vertices → m < 2 ^ 32 → k < 2 ^ 64 → Reads head_reading (head_of n m k) (header_of n m k)
head_again n m k few few_edges short =
    let is = head_fields n m k (omega (arith, few)) (omega (arith, few_edges)) short in
    reads_checked (needs 25) (λ bytes. check_stored_head (stored_head_at bytes)) (head_of n m k) (head_of n m k) (header_of n m k) (ap check_stored_head is ∙ head_allowed n m k few few_edges) (λ rest. needs-ok 25 (head_of n m k) rest refl)

-- ---- the labels
text_again : (n m k : ℕ) (labels : List (List ℕ)) → AllByRecursion IsLabel labels → length labels ≡ n → length (label_lines labels) ≡ k → Reads (labels_reading (header_of n m k)) (label_lines labels) labels
unfolding header_of
text_again n m k labels each many long =
    reads_checked (needs k) (λ text. labels_told (labels_in n text)) (label_lines labels) (label_lines labels) labels (labels_pass (labels_in n (label_lines labels)) labels (labels_again n labels each many)) (λ rest. needs-ok k (label_lines labels) rest long)

-- ---- the code of lists
log2_few : (n x : ℕ) → log2_below n x ≤ n
unfolding log2_below
log2_few zero x = omega arith
log2_few (suc n) x = by_cases (leb (2 ^ n) x) (log2_few n x)
  where
    by_cases : (b : Bool) → log2_below n x ≤ n → cond b n (log2_below n x) ≤ suc n
    by_cases true le = omega arith
    by_cases false le = omega (arith, le)

gamma_few : (x : ℕ) → length (gamma x) ≤ 129
unfolding gamma
gamma_few x = omega (arith, length-append (replicate (log2 x) false) (digits (log2 x + 1) x), length-replicate (log2 x) false, length-digits (log2 x + 1) x, log2_few 64 x)

gaps_few : (last : ℕ) (xs : List ℕ) → length (gaps last xs) ≤ 129 * length xs
gaps_few last [] = omega arith
gaps_few last (x ∷ xs) = omega (arith, length-append (gamma (x - last)) (gaps x xs), gamma_few (x - last), gaps_few x xs)

list_few : (xs : List ℕ) → length (list_bits xs) ≤ 129 * (length xs + 1)
list_few [] = omega (arith, gamma_few 1)
list_few (x ∷ xs) = omega (arith, length-append (gamma (length xs + 2)) (gamma (x + 1) ++ gaps x xs), length-append (gamma (x + 1)) (gaps x xs), gamma_few (length xs + 2), gamma_few (x + 1), gaps_few x xs)

code_few : (lists : List (List ℕ)) → length (code_of lists) ≤ 129 * (sum_by length lists + length lists)
code_few [] = omega arith
code_few (xs ∷ lists) = omega (arith, length-append (list_bits xs) (code_of lists), list_few xs, code_few lists, sum_by-cons length xs lists)

packed_long : (n : ℕ) (bits : List Bool) → length (packed n bits) ≡ n
unfolding packed
packed_long zero bits = refl
packed_long (suc n) bits = omega (arith, packed_long n (drop 8 bits))

code_short : (lists : List (List ℕ)) → sum_by length lists < 2 ^ 32 → length lists ≤ most_vertices → length (code_bytes lists) < 2 ^ 64
code_short lists few_edges few = omega (arith, packed_long ((length (code_of lists) + 7) / 8) (code_of lists), code_few lists, few_edges, few)

no_bits : (bits : List Bool) → length bits ≡ 0 → bits ≡ []
no_bits [] e = refl
no_bits (b ∷ bits) e = absurd (omega (arith, e))

packed_bits : (n pad : ℕ) (bits : List Bool) → pad < 8 → 8 * n ≡ length bits + pad → bits_of (packed n bits) ≡ bits ++ replicate pad false
unfolding packed
packed_bits zero pad bits short sum =
    let none = no_bits bits (omega (arith, sum)) in
    let no_pad : pad ≡ 0 = omega (arith, sum) in
    rw (none, no_pad) refl
packed_bits (suc n) pad bits short sum = elim (cases_lt (length bits) 8) [
  | inl lt ↦
      let padded = bits ++ replicate 8 false in
      let first = bits ++ replicate pad false in
      let eight : length first ≡ 8 = omega (arith, length-append bits (replicate pad false), length-replicate pad false, sum, lt, short) in
      let n_none : n ≡ 0 = omega (arith, sum, lt, short) in
      let two : 8 ≡ pad + (8 - pad) = omega (arith, short) in
      let split : padded ≡ first ++ replicate (8 - pad) false = ap (λ (k : ℕ). bits ++ replicate k false) two ∙ ap (λ (l : List Bool). bits ++ l) (zeros_split pad (8 - pad)) ∙ sym (append_assoc bits (replicate pad false) (replicate (8 - pad) false)) in
      let front : take 8 padded ≡ first = ap (take 8) split ∙ take_at first (replicate (8 - pad) false) 8 eight in
      let byte : digits 8 (number_of (take 8 padded)) ≡ first = ap (λ (l : List Bool). digits 8 (number_of l)) front ∙ subst (λ (k : ℕ). digits k (number_of first) ≡ first) eight (digits-number_of first) in
      rw n_none (ap (λ (l : List Bool). l ++ []) byte ∙ append-nil first)
  | inr le ↦
      let front : take 8 (bits ++ replicate 8 false) ≡ take 8 bits = take-append-le 8 bits (replicate 8 false) le in
      let eight : length (take 8 bits) ≡ 8 = length-take-le 8 bits le in
      let byte : digits 8 (number_of (take 8 (bits ++ replicate 8 false))) ≡ take 8 bits = ap (λ (l : List Bool). digits 8 (number_of l)) front ∙ subst (λ (k : ℕ). digits k (number_of (take 8 bits)) ≡ take 8 bits) eight (digits-number_of (take 8 bits)) in
      let rest = packed_bits n pad (drop 8 bits) short (omega (arith, sum, length-drop 8 bits, le)) in
      ap (λ (l : List Bool). l ++ bits_of (packed n (drop 8 bits))) byte ∙ ap (λ (l : List Bool). take 8 bits ++ l) rest ∙ sym (append_assoc (take 8 bits) (drop 8 bits) (replicate pad false)) ∙ ap (λ (l : List Bool). l ++ replicate pad false) (take-append-drop 8 bits)
]

code_spells : (lists : List (List ℕ)) → AreBytesOf (code_of lists) (code_bytes lists)
code_spells lists =
    let bits = code_of lists in
    let n = (length bits + 7) / 8 in
    let pad = 8 * n - length bits in
    let short : pad < 8 = omega arith in
    (pad, short, packed_bits n pad bits short (omega arith))

-- ---- a block
abbrev fields_of : ℕ → ℕ → List ℕ
fields_of count size = to_be_bytes w32 count ++ to_be_bytes w64 size

count_of : (count size : ℕ) → count < 2 ^ 32 → count ≡ field w32 0 (fields_of count size)
count_of count size small = sym (from_be_bytes-to_be_bytes_4 count small)

size_of : (count size : ℕ) → size < 2 ^ 64 → size ≡ field w64 4 (fields_of count size)
size_of count size small = sym (from_be_bytes-to_be_bytes_8 size small)

code_again : (n left count size : ℕ) (head : List ℕ) (lists : List (List ℕ)) → n ≤ 2 ^ 32 → count ≡ field w32 0 head → size ≡ field w64 4 head → length lists ≡ count → length (code_bytes lists) ≡ size → AreAscending n lists → is_block (length lists == left) lists ≡ true
    → Reads (code_reading n left head) (code_bytes lists) lists
code_again n left count size head lists bound is_count is_size many long ascend block =
    let code = code_bytes lists in
    let is : Ok lists ≡ all_of n count code = sym (ap (λ (k : ℕ). all_of n k code) (sym many) ∙ all_again n code lists bound (code_spells lists) ascend) in
    subst (λ (k : ℕ). Reads (followed (needs k) (λ z. told (check_code n left (field w32 0 head) z))) code lists) is_size
    (subst (λ (k : ℕ). Reads (followed (needs size) (λ z. told (check_code n left k z))) code lists) is_count
    (reads_checked (needs size) (check_code n left count) code code lists (code_passes n left count code lists is block) (λ rest. needs-ok size code rest long)))

block_again : (n left : ℕ) (lists : List (List ℕ)) → n ≤ 2 ^ 32 → 0 < length lists → length lists ≤ left → length lists < 2 ^ 32 → length (code_bytes lists) < 2 ^ 64 → AreAscending n lists → is_block (length lists == left) lists ≡ true → Reads (block_reading n left) (block_bytes lists) lists
unfolding block_bytes
block_again n left lists bound some within small short ascend block =
    let count = length lists in
    let code = code_bytes lists in
    let size = length code in
    let head = fields_of count size in
    let is = count_of count size small in
    let other : count ≢ 0 = λ none. absurd (omega (arith, some, none)) in
    let passes = head_passes left count head is other within in
    let told_all = reads_then (told (check_block_head left head)) (λ _. code_reading n left head) [] code tt lists (reads_told (check_block_head left head) tt passes) (code_again n left count size head lists bound is (size_of count size short) refl refl ascend block) in
    reads_then (needs 12) (block_rest n left) head code head lists (λ rest. needs-ok 12 head rest refl) told_all

-- ---- all blocks
record StartsWith (begun lists : List (List ℕ)) : Type 0 where
  taken : List (List ℕ)
  others : List (List ℕ)
  whole : lists ≡ taken ++ others
  first : blocks_after begun lists ≡ (begun ++ taken) ∷ blocks_of others
  goes : goes_on (is_none others) begun taken ≡ true

starts_full : (begun lists : List (List ℕ)) (xs : List ℕ) → is_full begun ≡ true → StartsWith begun (xs ∷ lists)
unfolding goes_on
starts_full begun lists xs full = record { taken = []; others = xs ∷ lists; whole = refl; first = after_full begun xs lists full ∙ ap (λ (l : List (List ℕ)). l ∷ blocks_of (xs ∷ lists)) (sym (append-nil begun)); goes = full }

starts_more : (begun lists : List (List ℕ)) (xs : List ℕ) → is_full begun ≡ false → StartsWith (begun ++ xs ∷ []) lists → StartsWith begun (xs ∷ lists)
unfolding goes_on
starts_more begun lists xs other p = record {
  taken = xs ∷ p.taken;
  others = p.others;
  whole = ap (λ (l : List (List ℕ)). xs ∷ l) p.whole;
  first = after_more begun xs lists other ∙ p.first ∙ ap (λ (l : List (List ℕ)). l ∷ blocks_of p.others) (append_assoc begun (xs ∷ []) p.taken);
  goes = rw other p.goes;
}

starts_by : (begun lists : List (List ℕ)) (xs : List ℕ) (full : Bool) → is_full begun ≡ full → StartsWith (begun ++ xs ∷ []) lists → StartsWith begun (xs ∷ lists)
starts_by begun lists xs true e p = starts_full begun lists xs e
starts_by begun lists xs false e p = starts_more begun lists xs e p

starts_with : (begun lists : List (List ℕ)) → StartsWith begun lists
unfolding blocks_after blocks_of goes_on
starts_with begun [] = record { taken = []; others = []; whole = refl; first = ap (λ (l : List (List ℕ)). l ∷ []) (sym (append-nil begun)); goes = refl }
starts_with begun (xs ∷ lists) = starts_by begun lists xs (is_full begun) refl (starts_with (begun ++ xs ∷ []) lists)

-- the first block of lists, and what follows it
record FirstBlock (lists : List (List ℕ)) : Type 0 where
  block : List (List ℕ)
  others : List (List ℕ)
  whole : lists ≡ block ++ others
  first : blocks_of lists ≡ block ∷ blocks_of others
  is : is_block (is_none others) block ≡ true
  some : 0 < length block

first_block : (xs : List ℕ) (lists : List (List ℕ)) → FirstBlock (xs ∷ lists)
unfolding blocks_of
first_block xs lists =
    let p = starts_with (xs ∷ []) lists in
    record { block = xs ∷ p.taken; others = p.others; whole = ap (λ (l : List (List ℕ)). xs ∷ l) p.whole; first = p.first; is = p.goes; some = omega arith }

all_first : (m : ℕ) (xs ys : List (List ℕ)) → AreAscending m (xs ++ ys) → AreAscending m xs × AreAscending m ys
all_first m [] ys p = (tt, p)
all_first m (x ∷ xs) ys p = let q = all_first m xs ys p.1 in ((p.0, q.0), q.1)

sum_both : (xs ys : List (List ℕ)) → sum_by length (xs ++ ys) ≡ sum_by length xs + sum_by length ys
sum_both [] ys = omega arith
sum_both (x ∷ xs) ys = omega (arith, sum_by-cons length x (xs ++ ys), sum_by-cons length x xs, sum_both xs ys)

none_same : (block others : List (List ℕ)) → is_none others ≡ (length block == length (block ++ others))
none_same block [] = sym (eq-eqb (length block) (length (block ++ [])) (omega (arith, length-append block [])))
none_same block (xs ∷ others) = sym (ne_eqb (length block) (length (block ++ xs ∷ others)) (λ same. absurd (omega (arith, same, length-append block (xs ∷ others)))))

abbrev AreReadBy : ℕ → ℕ → Type 0
AreReadBy n most = (lists : List (List ℕ)) → length lists ≤ most → length lists ≤ most_vertices → sum_by length lists < 2 ^ 32 → AreAscending n lists → Reads (blocks_reading n most (length lists)) (flat_map block_bytes (blocks_of lists)) lists

blocks_joined : (n most : ℕ) (block others : List (List ℕ)) → n ≤ 2 ^ 32 → AreReadBy n most → length (block ++ others) ≤ suc most → length (block ++ others) ≤ most_vertices → sum_by length (block ++ others) < 2 ^ 32 → AreAscending n (block ++ others) → is_block (is_none others) block ≡ true → 0 < length block
    → Reads (blocks_reading n (suc most) (length (block ++ others))) (block_bytes block ++ flat_map block_bytes (blocks_of others)) (block ++ others)
blocks_joined n most block others bound rest_is le few few_edges ascend is some rest =
    let left = length (block ++ others) in
    let total = length-append block others in
    let each = all_first n block others ascend in
    let sum = sum_both block others in
    let one = block_bytes block in
    let two = flat_map block_bytes (blocks_of others) in
    let ends : is_block (length block == left) block ≡ true = ap (λ (b : Bool). is_block b block) (sym (none_same block others)) ∙ is in
    let first = block_again n left block bound some (omega (arith, total)) (omega (arith, total, few)) (code_short block (omega (arith, sum, few_edges)) (omega (arith, total, few))) each.0 ends in
    let other : left ≢ 0 = λ none. absurd (omega (arith, total, some, none)) in
    let less : left - length block ≡ length others = omega (arith, total) in
    let second = rest_is others (omega (arith, total, some, le)) (omega (arith, total, few)) (omega (arith, sum, few_edges)) each.1 rest in
    ap (blocks_reading n (suc most) left) (append_assoc one two rest) ∙ blocks-more n most left one (two ++ rest) block other (first (two ++ rest))
    ∙ ap (λ (k : ℕ). with_lists block (length one) (blocks_reading n most k (two ++ rest))) less ∙ ap (with_lists block (length one)) second ∙ rw (length-append one two) refl

blocks_again : (n most : ℕ) → n ≤ 2 ^ 32 → AreReadBy n most
unfolding blocks_of
blocks_again n most bound [] le few few_edges ascend = λ rest. blocks-none n most rest
blocks_again n zero bound (xs ∷ lists) le few few_edges ascend = absurd (omega (arith, le))
blocks_again n (suc most) bound (xs ∷ lists) le few few_edges ascend =
    let p = first_block xs lists in
    let all = p.block ++ p.others in
    let read = blocks_joined n most p.block p.others bound (blocks_again n most bound) (subst (λ (l : List (List ℕ)). length l ≤ suc most) p.whole le) (subst (λ (l : List (List ℕ)). length l ≤ most_vertices) p.whole few)
    (subst (λ (l : List (List ℕ)). sum_by length l < 2 ^ 32) p.whole few_edges) (subst (AreAscending n) p.whole ascend) p.is p.some in
    subst (λ (b : List (List (List ℕ))). Reads (blocks_reading n (suc most) (length (xs ∷ lists))) (flat_map block_bytes b) (xs ∷ lists)) (sym p.first)
    (subst (λ (l : List (List ℕ)). Reads (blocks_reading n (suc most) (length l)) (block_bytes p.block ++ flat_map block_bytes (blocks_of p.others)) l) (sym p.whole) read)

-- ---- the content
content_parts : (v : StoredValue) → content_bytes v ≡ head_of (length v.preds) (sum_by length v.preds) (length (label_lines v.labels)) ++ (label_lines v.labels ++ flat_map block_bytes (blocks_of v.preds))
unfolding content_bytes head_bytes
content_parts v = refl

pub content_again : (v : StoredValue) → IsStorable v → Reads content_reading (content_bytes v) v
unfolding header_of
content_again v s =
    let n = length v.preds in
    let m = sum_by length v.preds in
    let k = length (label_lines v.labels) in
    let h = header_of n m k in
    let few = s.few in
    let blocks = flat_map block_bytes (blocks_of v.preds) in
    let check : List (List ℕ) → Result StoredValue StoredError = λ preds. check_edges m (record { labels = v.labels; preds = preds }) in
    let third = reads_checked (blocks_reading n n n) check blocks v.preds v (edges_pass m v refl) (blocks_again n n (omega (arith, few)) v.preds (omega arith) few s.few_edges s.ascend) in
    let second = reads_then (labels_reading h) (after_labels h) (label_lines v.labels) blocks v.labels v (text_again n m k v.labels s.labels s.as_many refl) third in
    subst (λ (l : List ℕ). Reads content_reading l v) (sym (content_parts v))
    (reads_then head_reading after_header (head_of n m k) (label_lines v.labels ++ blocks) h v (head_again n m k few s.few_edges s.short) second)
