-- What was read, as it is spelled.
use Rattle.std.proofs.Common.{◌≡◌, ℕ, Bool, zero, suc, ◌+◌, ◌<◌, ◌≤◌, List, [], ◌∷◌, ◌++◌, map, length, get_or, set, take, drop, refl, ap, ap₂, sym, ◌∙◌, subst, arith, append_assoc, append-nil, inl, inr}
use Rattle.std.specs.Prelude.{replicate, false, slice_index_or}
use Rattle.std.specs.List.{flat_map, range_with_len}
use Rattle.std.specs.Int.{w16, w64, w128, to_be_bytes, from_be_bytes}
use Rattle.std.proofs.Math.Seq.{drop-append_seam}
use Rattle.std.proofs.lemmas.Grind.{flat_map-append, take-set_at}
use Rattle.std.proofs.Math.ListN.{drop_of_length-le}
use Rattle.std.proofs.lemmas.Bool.{cases_lt}
use Rattle.std.proofs.lemmas.List.{length-map, take_all, take-append-drop, length-take, length-set, drop_more, get_or_append_left, get_or_past, get_or-set_other}
use Rattle.std.proofs.lemmas.Nat.{be_bytes_8}
use Rattle.ball_model.specs.Batches.{BatchValue, batch_bytes}
use Rattle.ball_model.specs.Checkpoint.{early_bytes, entry_bytes, mark_byte, no_figures}
use Rattle.ball_model.specs.Counter.{max_each}
use Rattle.batches.specs.Kept.{field}
use Rattle.registers.specs.Flags.{number_of_flags}
use Rattle.ball_model.specs.Figures.{TallyValue}
use Rattle.checkpoint.specs.Spelling.{held_text, table_text}

-- the maximum with zeros is the row
pub max_zeros : (w : ℕ) (row : List ℕ) → length row ≡ w → max_each (replicate w 0) row ≡ row
max_zeros zero [] e = refl
max_zeros zero (x ∷ xs) e = absurd (omega (arith, e))
max_zeros (suc w) [] e = absurd (omega (arith, e))
max_zeros (suc w) (x ∷ xs) e = ap₂ (λ (v : ℕ) (rest : List ℕ). v ∷ rest) (omega arith) (max_zeros w xs (omega (arith, e)))

abbrev pub joined : List (List ℕ) → List ℕ
joined rows = flat_map (λ row. row) rows

-- one row more is put
pub row_put : (w i : ℕ) (rows : List (List ℕ)) (bytes rest row after : List ℕ) → i < length rows → get_or rows i [] ≡ replicate w 0 → length row ≡ w
    → bytes ≡ joined (take i rows) ++ rest → rest ≡ row ++ after → bytes ≡ joined (take (i + 1) (set rows i (max_each (get_or rows i []) row))) ++ after
row_put w i rows bytes rest row after lt none len so_far split =
    let new : max_each (get_or rows i []) row ≡ row = ap (λ (l : List ℕ). max_each l row) none ∙ max_zeros w row len in
    let front : take (i + 1) (set rows i (max_each (get_or rows i []) row)) ≡ take i rows ++ row ∷ [] =
    take-set_at rows i (i + 1) (max_each (get_or rows i []) row) refl lt ∙ ap (λ (l : List ℕ). take i rows ++ l ∷ []) new in
    let more : joined (take (i + 1) (set rows i (max_each (get_or rows i []) row))) ≡ joined (take i rows) ++ row =
    ap joined front ∙ flat_map-append (λ (l : List ℕ). l) (take i rows) (row ∷ []) ∙ ap (λ (l : List ℕ). joined (take i rows) ++ l) (append-nil row) in
    so_far ∙ ap (λ (l : List ℕ). joined (take i rows) ++ l) split ∙ sym (append_assoc (joined (take i rows)) row after) ∙ ap (λ (l : List ℕ). l ++ after) (sym more)

-- a length and a batch
pub batch_read : (bytes number after spelling rest : List ℕ) (b : BatchValue) (n : ℕ) → bytes ≡ number ++ after → after ≡ spelling ++ rest → length number ≡ 8 → ((i : ℕ) → get_or number i 0 < 256)
    → n ≡ field w64 0 number → length spelling ≡ n → spelling ≡ batch_bytes b → bytes ≡ early_bytes b ++ rest
batch_read bytes number after spelling rest b n split then len fits is long spelled =
    let whole : take 8 number ≡ number = take_all 8 number (omega (arith, len)) in
    let told : length (batch_bytes b) ≡ from_be_bytes w64 number = ap length (sym spelled) ∙ long ∙ is ∙ ap (from_be_bytes w64) whole in
    let field_is : to_be_bytes w64 (length (batch_bytes b)) ≡ number = be_bytes_8 number (length (batch_bytes b)) len fits told in
    split ∙ ap (λ (l : List ℕ). number ++ l) (then ∙ ap (λ (l : List ℕ). l ++ rest) spelled) ∙ sym (append_assoc number (batch_bytes b) rest)
    ∙ ap (λ (l : List ℕ). (l ++ batch_bytes b) ++ rest) (sym field_is)

-- one batch more
pub batch_added : (bytes rest after : List ℕ) (batches : List BatchValue) (b : BatchValue) → bytes ≡ flat_map early_bytes batches ++ rest → rest ≡ early_bytes b ++ after → bytes ≡ flat_map early_bytes (batches ++ b ∷ []) ++ after
batch_added bytes rest after batches b so_far split =
    let more : flat_map early_bytes (batches ++ b ∷ []) ≡ flat_map early_bytes batches ++ early_bytes b =
    flat_map-append early_bytes batches (b ∷ []) ∙ ap (λ (l : List ℕ). flat_map early_bytes batches ++ l) (append-nil (early_bytes b)) in
    so_far ∙ ap (λ (l : List ℕ). flat_map early_bytes batches ++ l) split ∙ sym (append_assoc (flat_map early_bytes batches) (early_bytes b) after) ∙ ap (λ (l : List ℕ). l ++ after) (sym more)

-- a beginning of bytes is of bytes
pub front_fits : (bytes front rest : List ℕ) → bytes ≡ front ++ rest → ((i : ℕ) → get_or bytes i 0 < 256) → (i : ℕ) → get_or front i 0 < 256
front_fits bytes front rest split fits i = elim (cases_lt i (length front)) [
  | inl lt ↦ let here : get_or bytes i 0 ≡ get_or front i 0 = ap (λ (l : List ℕ). get_or l i 0) split ∙ get_or_append_left front rest 0 i lt in omega (arith, here, fits i)
  | inr le ↦ omega (arith, get_or_past front i 0 le)
]

-- what a loop over rows keeps
pub rows_next : (w i : ℕ) (rows : List (List ℕ)) (bytes rest row after : List ℕ) → i < length rows → ((k : ℕ) → i ≤ k → k < length rows → get_or rows k [] ≡ replicate w 0) → length row ≡ w
    → bytes ≡ joined (take i rows) ++ rest → rest ≡ row ++ after → (k : ℕ) → i + 1 ≤ k → k < length (set rows i (max_each (get_or rows i []) row)) → get_or (set rows i (max_each (get_or rows i []) row)) k [] ≡ replicate w 0
rows_next w i rows bytes rest row after lt zeros len so_far split k le in_range =
    let y = max_each (get_or rows i []) row in
    let other : k ≡ i → ⊥ = λ e. omega (arith, e, le) in
    get_or-set_other rows i k y [] other ∙ zeros k (omega (arith, le)) (omega (arith, in_range, length-set rows i y))

-- sources and the bit
pub fields_read : (fields : List ℕ) (n heard mark : ℕ) → length fields ≡ 9 → ((i : ℕ) → get_or fields i 0 < 256) → n ≡ field w64 0 fields → heard ≡ n → get_or fields 8 0 ≡ mark → fields ≡ to_be_bytes w64 heard ++ mark ∷ []
fields_read fields n heard mark len fits is same last =
    let front = take 8 fields in
    let number : to_be_bytes w64 heard ≡ front = be_bytes_8 front heard (omega (arith, len, length-take 8 fields)) (front_fits fields front (drop 8 fields) (sym (take-append-drop 8 fields)) fits) (same ∙ is) in
    let none : drop 9 fields ≡ [] = drop_of_length-le fields {i = 9} (omega (arith, len)) in
    let end : drop 8 fields ≡ mark ∷ [] = drop_more fields 8 0 (omega (arith, len)) ∙ ap₂ (λ (x : ℕ) (l : List ℕ). x ∷ l) last none in
    sym (take-append-drop 8 fields) ∙ ap₂ (λ (a b : List ℕ). a ++ b) (sym number) end

pub held_read : (bytes fields after rows rest early : List ℕ) (n heard mark : ℕ) → bytes ≡ fields ++ after → length fields ≡ 9 → ((i : ℕ) → get_or bytes i 0 < 256) → n ≡ field w64 0 fields → heard ≡ n → get_or fields 8 0 ≡ mark
    → after ≡ rows ++ rest → rest ≡ early → bytes ≡ (to_be_bytes w64 heard ++ mark ∷ []) ++ (rows ++ early)
held_read bytes fields after rows rest early n heard mark split len fits is same last then end =
    split ∙ ap₂ (λ (a b : List ℕ). a ++ b) (fields_read fields n heard mark len (front_fits bytes fields after split fits) is same last) (then ∙ ap (λ (l : List ℕ). rows ++ l) end)

-- all that is held
pub held_is_read : {A : Type 0} (value : A → BatchValue) (items : List A) (bytes fields after rest : List ℕ) (rows : List (List ℕ)) (heard : List Bool) (change : Bool) (n : ℕ)
    → bytes ≡ fields ++ after → length fields ≡ 9 → ((i : ℕ) → get_or bytes i 0 < 256) → n ≡ field w64 0 fields → number_of_flags heard ≡ n → get_or fields 8 0 ≡ mark_byte change
    → after ≡ joined rows ++ rest → rest ≡ to_be_bytes w16 (length items) ++ flat_map early_bytes (map value items) → bytes ≡ held_text heard change rows (map value items)
unfolding held_text
held_is_read value items bytes fields after rest rows heard change n split len fits is same last then end =
    let early = flat_map early_bytes (map value items) in
    let count : length (map value items) ≡ length items = length-map items value in
    held_read bytes fields after (joined rows) rest (to_be_bytes w16 (length (map value items)) ++ early) n (number_of_flags heard) (mark_byte change) split len fits is same last then
    (end ∙ ap (λ (k : ℕ). to_be_bytes w16 k ++ early) (sym count))

-- vertices and sums
pub table_is_read : (marks : List Bool) (tallies : List TallyValue) (rows : List (List ℕ)) (sums : List ℕ) (bytes after rest : List ℕ)
    → bytes ≡ flat_map (λ i. entry_bytes (slice_index_or marks i false) (slice_index_or tallies i no_figures) (slice_index_or rows i [])) (range_with_len 0 (length rows)) ++ after
    → after ≡ flat_map (to_be_bytes w128) sums ++ rest → bytes ≡ table_text marks tallies rows sums ++ rest
unfolding table_text
table_is_read marks tallies rows sums bytes after rest split then =
    let entries = flat_map (λ i. entry_bytes (slice_index_or marks i false) (slice_index_or tallies i no_figures) (slice_index_or rows i [])) (range_with_len 0 (length rows)) in
    split ∙ ap (λ (l : List ℕ). entries ++ l) then ∙ sym (append_assoc entries (flat_map (to_be_bytes w128) sums) rest)

-- what follows n bytes
pub rest_is : (n : ℕ) (bytes front body : List ℕ) → bytes ≡ front ++ body → length front ≡ n → drop n bytes ≡ body
rest_is n bytes front body split len = ap (drop n) split ∙ subst (λ (k : ℕ). drop k (front ++ body) ≡ body) len (drop-append_seam front body)
