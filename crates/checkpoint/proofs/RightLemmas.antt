-- Bytes that are a spelling are read as what they spell.
use Rattle.std.proofs.Common.{◌≡◌, ℕ, zero, suc, ◌+◌, ◌^◌, ◌<◌, ◌≤◌, Bool, false, List, [], ◌∷◌, ◌++◌, map, length, get_or, set, take, drop, refl, ap, ap₂, sym, ◌∙◌, subst, arith, append_assoc}
use Rattle.std.specs.Prelude.{replicate, true, ⊤, Option, None, Result, Ok, Err, IfOk, IfErr}
use Rattle.std.specs.Arc.{arc_value}
use Rattle.std.specs.Option.{option_to_list}
use Rattle.std.specs.List.{flat_map, range_with_len}
use Rattle.std.specs.Int.{w16, w64, w128, to_be_bytes, from_be_bytes}
use Rattle.std.proofs.Math.ListN.{drop_of_length-le}
use Rattle.std.proofs.Math.Seq.{take-suc}
use Rattle.std.proofs.lemmas.Grind.{take-set_at}
use Rattle.std.proofs.lemmas.List.{drop_more, length-append, length-drop, length-map, take_all}
use Rattle.std.proofs.lemmas.List.FromFn.{length-range_with_len, get_or-range_with_len}
use Rattle.std.proofs.lemmas.Nat.{from_be_bytes-to_be_bytes_2, from_be_bytes-to_be_bytes_8}
use Rattle.ball_model.specs.Batches.{BatchValue, IsBatch, batch_bytes}
use Rattle.ball_model.specs.Counter.{max_each}
use Rattle.ball_model.specs.Checkpoint.{early_bytes, entry_bytes, held_bytes, kept_batches, mark_byte, mask_of, no_figures, table_bytes, vertex_bytes, without_names}
use Rattle.ball_model.specs.Figures.{TallyValue}
use Rattle.ball_model.specs.Masks.{has_bit}
use Rattle.ball_model.specs.State.{State}
use Rattle.ball_model.specs.Table.{Table}
use Rattle.batches.specs.Kept.{field}
use Rattle.batches.proofs.WholeLemmas.{batch_length}
use Rattle.figures.specs.Values.{value_of}
use Rattle.figures.specs.declared.tally.Tally.{Tally}
use Rattle.registers.specs.Flags.{flags_of, number_of_flags}
use Rattle.replica.specs.Saved.{IsKeepable}
use Rattle.replica.specs.Seen.{IsState}
use Rattle.replica.proofs.SeenLemmas.Read.{length-tallies}
use Rattle.checkpoint.specs.declared.error.KeepError.{KeepError}
use Rattle.checkpoint.specs.declared.error.KeepError.TheVariants as errors
use Rattle.checkpoint.specs.declared.saved.Held.{Held}
use Rattle.checkpoint.specs.declared.saved.Vertices.{Vertices}
use Rattle.checkpoint.specs.Parts.{count_bytes, heard_bytes}
use Rattle.checkpoint.specs.Told.{AreNext, AreOf, IfOkButMemory, IsHeldOf, IsSmall, IsUnnamed}
use Rattle.checkpoint.proofs.HeldLemmas.{max_zeros}
use Rattle.checkpoint.proofs.LawLemmas.{halves, mask_fits, same_8, same_16, same_flags, estimate_at}
use Rattle.checkpoint.proofs.LengthLemmas.{batch_few, heard_long, held_long, table_long}
use Rattle.checkpoint.proofs.SavedLemmas.{more_tallies}
use Rattle.checkpoint.proofs.TextLemmas.{early_few, held_is, mask_is}

-- ---- numbers
pub right_8 : (m n : ℕ) (bytes here rest : List ℕ) → m < 2 ^ 64 → n < 2 ^ 64 → bytes ≡ to_be_bytes w64 m ++ here → bytes ≡ to_be_bytes w64 n ++ rest → (m ≡ n) × (here ≡ rest)
right_8 m n bytes here rest few also read is =
    let both = halves (to_be_bytes w64 m) (to_be_bytes w64 n) here rest refl (sym read ∙ is) in
    (same_8 m n few also both.0, both.1)

pub right_16 : (m n : ℕ) (bytes here rest : List ℕ) → m < 2 ^ 128 → n < 2 ^ 128 → bytes ≡ to_be_bytes w128 m ++ here → bytes ≡ to_be_bytes w128 n ++ rest → (m ≡ n) × (here ≡ rest)
right_16 m n bytes here rest few also read is =
    let both = halves (to_be_bytes w128 m) (to_be_bytes w128 n) here rest refl (sym read ∙ is) in
    (same_16 m n few also both.0, both.1)

-- a number of two bytes, and what is behind it
pub count_here : (n count : ℕ) (bytes number after more : List ℕ) → n < 2 ^ 16 → bytes ≡ number ++ after → length number ≡ 2 → count ≡ field w16 0 number → bytes ≡ to_be_bytes w16 n ++ more → (n ≡ count) × (after ≡ more)
count_here n count bytes number after more few split len is whole =
    let both = halves number (to_be_bytes w16 n) after more len (sym split ∙ whole) in
    let same : count ≡ n = is ∙ ap (from_be_bytes w16) (take_all 2 number (omega (arith, len)) ∙ both.0) ∙ from_be_bytes-to_be_bytes_2 n (omega (arith, few)) in
    (sym same, both.1)

-- the first byte of a vertex is its mark
pub entry_front : (bytes entry here : List ℕ) (mark : Bool) (tally : TallyValue) (rest : List ℕ) → bytes ≡ entry ++ here → length entry ≡ 33 → bytes ≡ entry_bytes mark tally rest → get_or entry 0 0 ≡ mark_byte mark
entry_front bytes [] here mark tally rest split long is = absurd (omega (arith, long))
entry_front bytes (x ∷ entry) here mark tally rest split long is = ap (λ (l : List ℕ). get_or l 0 0) (sym split ∙ is)

-- and its figures, and the bytes after them
pub entry_right : (bytes here : List ℕ) (first last harm dist : ℕ) (mark : Bool) (tally : TallyValue) (rest : List ℕ) → IsSmall tally → last < 2 ^ 64 → harm < 2 ^ 64 → dist < 2 ^ 128
    → bytes ≡ first ∷ (to_be_bytes w64 last ++ (to_be_bytes w64 harm ++ (to_be_bytes w128 dist ++ here))) → bytes ≡ entry_bytes mark tally rest
    → (last ≡ tally.last) × (harm ≡ tally.harm) × (dist ≡ tally.dist) × (here ≡ rest)
entry_right bytes here first last harm dist mark tally rest small few_last few_harm few_dist read is =
    let behind : List ℕ = to_be_bytes w128 tally.dist ++ rest in
    let a = right_8 last tally.last _ (to_be_bytes w64 harm ++ (to_be_bytes w128 dist ++ here)) (to_be_bytes w64 tally.harm ++ behind) few_last small.last refl (ap (drop 1) (sym read ∙ is)) in
    let b = right_8 harm tally.harm _ (to_be_bytes w128 dist ++ here) behind few_harm (omega (arith, small.last, small.figures.harm)) refl a.1 in
    let d = right_16 dist tally.dist _ here rest few_dist (omega (arith, small.last, small.figures.dist)) refl b.1 in
    (a.0, b.0, d.0, d.1)

-- ---- one item after another
-- what stands here are the items from the i-th on, and more behind them
abbrev pub Stands : {X : Type 0} → (X → List ℕ) → List X → ℕ → List ℕ → List ℕ → Type 0
Stands f items i here more = here ≡ flat_map f (drop i items) ++ more

pub stands_next : {X : Type 0} (f : X → List ℕ) (items : List X) (d : X) (i : ℕ) (here more : List ℕ) → i < length items → Stands f items i here more → here ≡ f (get_or items i d) ++ (flat_map f (drop (i + 1) items) ++ more)
stands_next {X} f items d i here more lt is =
    is ∙ ap (λ (l : List X). flat_map f l ++ more) (drop_more items i d lt) ∙ append_assoc (f (get_or items i d)) (flat_map f (drop (i + 1) items)) more

pub stands_last : {X : Type 0} (f : X → List ℕ) (items : List X) (i : ℕ) (here more : List ℕ) → length items ≤ i → Stands f items i here more → here ≡ more
stands_last {X} f items i here more le is = is ∙ ap (λ (l : List X). flat_map f l ++ more) (drop_of_length-le items le)

pub taken_next : {X : Type 0} (items so_far : List X) (d x : X) (i : ℕ) → i < length items → so_far ≡ take i items → x ≡ get_or items i d → so_far ++ x ∷ [] ≡ take (i + 1) items
taken_next {X} items so_far d x i lt is same =
    let next : i + 1 ≡ suc i = omega arith in
    ap₂ (λ (l : List X) (y : X). l ++ y ∷ []) is same ∙ sym (take-suc items i d lt) ∙ ap (λ (n : ℕ). take n items) (sym next)

pub taken_all : {X : Type 0} (items so_far : List X) (i : ℕ) → length items ≤ i → so_far ≡ take i items → so_far ≡ items
taken_all items so_far i le is = is ∙ take_all i items le

-- ---- rows
pub row_next : (w i : ℕ) (rows wanted : List (List ℕ)) (row : List ℕ) → i < length rows → i < length wanted → get_or rows i [] ≡ replicate w 0 → length row ≡ w → row ≡ get_or wanted i [] → take i rows ≡ take i wanted
    → take (i + 1) (set rows i (max_each (get_or rows i []) row)) ≡ take (i + 1) wanted
row_next w i rows wanted row lt also none long same so_far =
    let new : max_each (get_or rows i []) row ≡ row = ap (λ (l : List ℕ). max_each l row) none ∙ max_zeros w row long in
    take-set_at rows i (i + 1) (max_each (get_or rows i []) row) refl lt ∙ taken_next wanted (take i rows) [] (max_each (get_or rows i []) row) i also so_far (new ∙ same)

-- the row that stands here
pub row_here : (w : ℕ) (here row after wanted more : List ℕ) → length row ≡ w → length wanted ≡ w → here ≡ row ++ after → here ≡ wanted ++ more → (row ≡ wanted) × (after ≡ more)
row_here w here row after wanted more long also read is = halves row wanted after more (long ∙ sym also) (sym read ∙ is)

-- ---- vertices
-- of the replica's vertices the first i are read, and the others stand here
pub record AreFirst (v : State) (i : ℕ) (vertices : Vertices) (here more : List ℕ) : Type 0 where
  pub marks : vertices.marks.items ≡ take i v.marks
  pub tallies : map value_of vertices.tallies.items ≡ take i v.tallies
  pub rows : take i vertices.rows.rows ≡ take i v.rows
  pub stand : Stands (vertex_bytes v) (range_with_len 0 (length v.part.preds)) i here more

abbrev mark_at : State → ℕ → Bool
mark_at v i = get_or v.marks i false

-- vertex i, as it stands here
pub record IsVertex (v : State) (i : ℕ) (here more : List ℕ) : Type 0 where
  pub small : IsSmall (get_or v.tallies i no_figures)
  pub long : length (get_or v.rows i []) ≡ 2 ^ v.part.plan.log2m
  pub text : here ≡ entry_bytes (get_or v.marks i false) (get_or v.tallies i no_figures) (get_or v.rows i []) ++ (flat_map (vertex_bytes v) (drop (i + 1) (range_with_len 0 (length v.part.preds))) ++ more)

pub vertex_here : (v : State) (i : ℕ) (vertices : Vertices) (here more : List ℕ) → IsKeepable v → i < length v.part.preds → AreFirst v i vertices here more → IsVertex v i here more
unfolding vertex_bytes
vertex_here v i vertices here more k lt first =
    let range = range_with_len 0 (length v.part.preds) in
    let here_is = stands_next (vertex_bytes v) range 0 i here more (omega (arith, lt, length-range_with_len 0 (length v.part.preds))) first.stand in
    let place : get_or range i 0 ≡ i = get_or-range_with_len 0 (length v.part.preds) i 0 lt ∙ omega arith in
    let a = estimate_at v k.state i lt in
    record {
      small = record { last = omega (arith, a); figures = k.figures i no_figures (omega (arith, lt, length-tallies v k.state)) };
      long = (k.state.rows.row i (omega (arith, lt, k.state.count))).width;
      text = here_is ∙ ap (λ (n : ℕ). vertex_bytes v n ++ (flat_map (vertex_bytes v) (drop (i + 1) range) ++ more)) place;
    }

pub first_more : (v : State) (i : ℕ) (old new : Vertices) (here after more : List ℕ) → IsKeepable v → i < length v.part.preds → length old.rows.rows ≡ length v.part.preds → AreFirst v i old here more
    → AreNext old new i (get_or v.marks i false) (get_or v.tallies i no_figures) (get_or v.rows i []) → after ≡ flat_map (vertex_bytes v) (drop (i + 1) (range_with_len 0 (length v.part.preds))) ++ more
    → AreFirst v (i + 1) new after more
first_more v i old new here after more k lt count first next rest = record {
  marks = next.marks ∙ taken_next v.marks old.marks.items false (get_or v.marks i false) i (omega (arith, lt, k.state.marks)) first.marks refl;
  tallies = next.tallies ∙ taken_next v.tallies (map value_of old.tallies.items) no_figures (get_or v.tallies i no_figures) i (omega (arith, lt, length-tallies v k.state)) first.tallies refl;
  rows = ap (λ (l : List (List ℕ)). take (i + 1) l) next.rows
      ∙ take-set_at old.rows.rows i (i + 1) (get_or v.rows i []) refl (omega (arith, lt, count))
      ∙ taken_next v.rows (take i old.rows.rows) [] (get_or v.rows i []) i (omega (arith, lt, k.state.count)) first.rows refl;
  stand = rest;
}

pub first_all : (v : State) (i : ℕ) (vertices : Vertices) (here more : List ℕ) → IsKeepable v → length v.part.preds ≤ i → length vertices.rows.rows ≤ i → AreFirst v i vertices here more → AreOf v vertices × (here ≡ more)
first_all v i vertices here more k le count first = (
  record {
    marks = taken_all v.marks vertices.marks.items i (omega (arith, le, k.state.marks)) first.marks;
    tallies = taken_all v.tallies (map value_of vertices.tallies.items) i (omega (arith, le, length-tallies v k.state)) first.tallies;
    rows = taken_all v.rows vertices.rows.rows i (omega (arith, le, k.state.count)) (sym (take_all i vertices.rows.rows count) ∙ first.rows);
  },
  stands_last (vertex_bytes v) (range_with_len 0 (length v.part.preds)) i here more (omega (arith, le, length-range_with_len 0 (length v.part.preds))) first.stand,
)

pub next_is : (old new : Vertices) (i : ℕ) (read : Bool) (told : Tally) (found : List ℕ) (mark : Bool) (tally : TallyValue) (row : List ℕ) → read ≡ mark → value_of told ≡ tally → found ≡ row → length row ≡ old.rows.width → get_or old.rows.rows i [] ≡ replicate old.rows.width 0
    → new.marks.items ≡ old.marks.items ++ read ∷ [] → new.tallies.items ≡ old.tallies.items ++ told ∷ [] → new.rows.rows ≡ set old.rows.rows i (max_each (get_or old.rows.rows i []) found) → AreNext old new i mark tally row
next_is old new i read told found mark tally row a b e wide zeros marks tallies rows = record {
  marks = marks ∙ ap (λ (m : Bool). old.marks.items ++ m ∷ []) a;
  tallies = more_tallies old new told tallies ∙ ap (λ (t : TallyValue). map value_of old.tallies.items ++ t ∷ []) b;
  rows = rows ∙ ap (λ (r : List ℕ). set old.rows.rows i r) (ap₂ (λ (l r : List ℕ). max_each l r) zeros e ∙ max_zeros old.rows.width row wide);
}

-- an answer that is an error is not Ok
pub never : false ≡ true → ⊥
never e = subst is_false e tt
  where
    is_false : Bool → Type 0
    is_false false = ⊤
    is_false true = ⊥

-- the vertices stand before the sums
pub table_here : (v : State) (bytes rest : List ℕ) → bytes ≡ table_bytes v ++ rest → bytes ≡ flat_map (vertex_bytes v) (range_with_len 0 (length v.part.preds)) ++ (flat_map (to_be_bytes w128) v.sums ++ rest)
unfolding table_bytes
table_here v bytes rest is = is ∙ append_assoc (flat_map (vertex_bytes v) (range_with_len 0 (length v.part.preds))) (flat_map (to_be_bytes w128) v.sums) rest

-- ---- batches
-- a length and a batch stand here
pub batch_here : (b : BatchValue) (bytes number after rest : List ℕ) (n : ℕ) → IsBatch b → bytes ≡ number ++ after → length number ≡ 8 → n ≡ field w64 0 number → bytes ≡ early_bytes b ++ rest
    → (n ≡ length (batch_bytes b)) × (after ≡ batch_bytes b ++ rest)
batch_here b bytes number after rest n ok split long is right =
    let told = length (batch_bytes b) in
    let both = halves number (to_be_bytes w64 told) after (batch_bytes b ++ rest) long (sym split ∙ right ∙ append_assoc (to_be_bytes w64 told) (batch_bytes b) rest) in
    let number_is : field w64 0 number ≡ told =
    ap (from_be_bytes w64) (take_all 8 number (omega (arith, long)) ∙ both.0) ∙ from_be_bytes-to_be_bytes_8 told (omega (arith, batch_length b ok, batch_few b ok)) in
    (is ∙ number_is, both.1)

-- ---- what is held
abbrev pub rows_of : State → List ℕ
rows_of v = flat_map (λ row. row) v.accumulated

-- what stands in what is held: what is heard, the accumulators, and the batches
pub record IsHeld (v : State) (fields after : List ℕ) : Type 0 where
  pub heard : fields ≡ heard_bytes v
  pub change : get_or fields 8 0 ≡ mark_byte v.heard_change
  pub mask : field w64 0 fields ≡ mask_of v.heard
  pub rest : after ≡ rows_of v ++ (to_be_bytes w16 (length (kept_batches v.early)) ++ flat_map early_bytes (kept_batches v.early))

pub held_here : (v : State) (bytes fields after : List ℕ) → IsState v → bytes ≡ fields ++ after → length fields ≡ 9 → bytes ≡ held_bytes v → IsHeld v fields after
unfolding heard_bytes count_bytes
held_here v bytes fields after s split long is =
    let early : List ℕ = flat_map early_bytes (kept_batches v.early) in
    let turned : held_bytes v ≡ heard_bytes v ++ (rows_of v ++ (count_bytes v ++ early)) =
    sym (held_is v) ∙ append_assoc (heard_bytes v ++ rows_of v) (count_bytes v) early ∙ append_assoc (heard_bytes v) (rows_of v) (count_bytes v ++ early) in
    let both = halves fields (heard_bytes v) after (rows_of v ++ (count_bytes v ++ early)) (long ∙ sym (heard_long v)) (sym split ∙ is ∙ turned) in
    record {
      heard = both.0;
      change = ap (λ (l : List ℕ). get_or l 8 0) both.0;
      mask = ap (λ (l : List ℕ). field w64 0 l) both.0 ∙ from_be_bytes-to_be_bytes_8 (mask_of v.heard) (mask_fits v.heard s.heard.count);
      rest = both.1;
    }

pub heard_is_read : (v : State) (fields after : List ℕ) (bits : ℕ) (heard : List Bool) → IsState v → IsHeld v fields after → bits ≡ field w64 0 fields → heard ≡ flags_of bits → number_of_flags heard ≡ bits → heard ≡ v.heard
unfolding flags_of
heard_is_read v fields after bits heard s held number is back =
    let long : length heard ≡ 64 = ap (λ (l : List Bool). length l) is ∙ length-map (range_with_len 0 64) (has_bit bits) in
    same_flags heard v.heard (long ∙ sym s.heard.count) (back ∙ number ∙ held.mask ∙ sym (mask_is v.heard s.heard.count))

pub batches_fit : (v : State) → IsState v → length (kept_batches v.early) < 2 ^ 16
batches_fit v s = omega (arith, early_few v.part.plan.parts v.early s.early.table, s.part.plan.parts_to)

pub held_least : (v : State) → IsState v → 9 ≤ length (held_bytes v)
held_least v s = omega (arith, held_long v s)

-- nothing is held where the batches are forgotten
abbrev no_slots : ℕ → List (Option BatchValue)
no_slots parts = replicate parts None

none_in : (parts : ℕ) → flat_map option_to_list (no_slots parts) ≡ []
none_in zero = refl
none_in (suc n) = none_in n

none_kept : (parts n : ℕ) → kept_batches (replicate n (replicate parts None)) ≡ []
unfolding kept_batches
none_kept parts zero = refl
none_kept parts (suc n) = ap₂ (λ (a b : List BatchValue). a ++ b) (none_in parts) (none_kept parts n)

pub unnamed_is : (v : State) (rows : Table) (h : Held) → rows.rows ≡ v.rows → IsUnnamed rows h → IsHeldOf (without_names v) h
unnamed_is v rows h same un = record {
  heard = un.heard;
  change = un.change;
  accumulated = ap (λ (t : Table). t.rows) un.accumulated ∙ same;
  early = ap (λ l. map arc_value l) un.early ∙ sym (none_kept v.part.plan.parts 3);
}

pub unnamed_or_memory : (v : State) (rows : Table) (r : Result Held KeepError) → rows.rows ≡ v.rows → IfOk r (IsUnnamed rows) → IfErr r (λ e. e ≡ errors.Memory) → IfOkButMemory r (IsHeldOf (without_names v))
unnamed_or_memory v rows (Ok h) same un memory = unnamed_is v rows h same un
unnamed_or_memory v rows (Err e) same un memory = memory

-- vertices and sums stand behind the fixed fields, so these are there
pub behind_front : (v : State) (text more : List ℕ) → IsKeepable v → drop 54 text ≡ table_bytes v ++ more → 54 ≤ length text
behind_front v text more k is =
    omega (arith, ap (λ (l : List ℕ). length l) is, length-drop 54 text, length-append (table_bytes v) more, table_long v k.state, k.state.sums.count)
