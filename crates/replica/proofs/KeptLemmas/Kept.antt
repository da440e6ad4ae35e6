-- The batches that are kept, one after the other.
use Rattle.std.proofs.Common.{◌≡◌, ℕ, suc, ◌+◌, ◌*◌, ◌<◌, ◌≤◌, nat_lt, Bool, true, false, List, [], ◌∷◌, ◌++◌, length, map, get_or, take, drop, option_map, refl, ap, arith, sym, ◌∙◌, is_some, IfSome}
use Rattle.replica.proofs.Names.{Option, Some, None, range_with_len, filter, flat_map, slice_get, common_steps, map-append, length-append, append-nil, same_lists, take_all, take-append-drop, length-take-le, length-drop, length-map, get_or-take, get_or-drop, get_or_default, drop-drop, length-map-range_with_len, get_or-map-range_with_len, BatchValue, true_batch, names_of, Job, State, StandsFor, content_of, early_at, filter-append, BatchName}
use Rattle.std.specs.Option.{option_to_list}
use Rattle.std.proofs.lemmas.Bool.Decides.{nat_tests}
use Rattle.std.proofs.lemmas.Grind.{flat_map-append}
use Rattle.std.proofs.lemmas.Option.{slice_get-map, IfSome_then}
use Rattle.replica.specs.Ahead.{table_of, early_names}
use Rattle.ball_model.specs.Checkpoint.{kept_batches}
use Rattle.replica.specs.Seen.{IsState}
use Rattle.replica.proofs.AheadLemmas.{batches_in, few_batches, level_in, levels}

-- ---- slots

-- what stands in slots, one by one
batches_in-map : {X : Type 0} (f : X → BatchValue) (slots : List (Option X)) → batches_in (map (option_map f) slots) ≡ map f (flat_map option_to_list slots)
unfolding batches_in
batches_in-map f [] = refl
batches_in-map f (None ∷ rest) = batches_in-map f rest
batches_in-map f (Some x ∷ rest) = ap (λ (l : List BatchValue). f x ∷ l) (batches_in-map f rest)

-- those of two stretches of slots
batches_in-append : (xs ys : List (Option BatchValue)) → batches_in (xs ++ ys) ≡ batches_in xs ++ batches_in ys
unfolding batches_in
batches_in-append xs ys = flat_map-append option_to_list xs ys

-- those of a table, level by level
pub three_levels : (early : List (List (Option BatchValue))) → length early ≡ 3 → kept_batches early ≡ batches_in (get_or early 0 []) ++ (batches_in (get_or early 1 []) ++ batches_in (get_or early 2 []))
unfolding kept_batches batches_in
three_levels early long = grind (arith, common_steps)

-- a level of a table is a stretch of its slots
stretch : (a n : ℕ) (slots : List (Option BatchValue)) → a + n ≤ length slots → map (λ q. get_or slots (a + q) None) (range_with_len 0 n) ≡ take n (drop a slots)
stretch a n slots long =
    grind (arith, length-map-range_with_len, length-take-le, length-drop, same_lists, get_or-map-range_with_len, get_or_default, get_or-drop, get_or-take)

level_taken : (parts : ℕ) (slots : List (Option BatchValue)) (i a : ℕ) → i < 3 → i * parts ≡ a → a + parts ≤ length slots → get_or (table_of parts slots) i [] ≡ take parts (drop a slots)
level_taken parts slots i a lt at long =
    level_in parts slots i lt ∙ ap (λ n. map (λ q. get_or slots (n + q) None) (range_with_len 0 parts)) at ∙ stretch a parts slots long

-- slots, in two stretches
parted : (n : ℕ) (slots : List (Option BatchValue)) → batches_in slots ≡ batches_in (take n slots) ++ batches_in (drop n slots)
parted n slots = ap batches_in (sym (take-append-drop n slots)) ∙ batches_in-append (take n slots) (drop n slots)

drop_none : {X : Type 0} (xs : List X) → drop 0 xs ≡ xs
drop_none xs = grind arith

-- THE TABLE: its batches are those of its slots
table_batches : (parts : ℕ) (slots : List (Option BatchValue)) → length slots ≡ 3 * parts → kept_batches (table_of parts slots) ≡ batches_in slots
table_batches parts slots long =
    let one : get_or (table_of parts slots) 0 [] ≡ take parts slots = level_taken parts slots 0 0 (omega arith) (omega arith) (omega arith) ∙ ap (take parts) (drop_none slots) in
    let two : get_or (table_of parts slots) 1 [] ≡ take parts (drop parts slots) = level_taken parts slots 1 parts (omega arith) (omega arith) (omega arith) in
    let three : get_or (table_of parts slots) 2 [] ≡ drop parts (drop parts slots) =
    level_taken parts slots 2 (parts + parts) (omega arith) (omega arith) (omega arith)
    ∙ take_all parts (drop (parts + parts) slots) (omega (arith, length-drop (parts + parts) slots))
    ∙ sym (drop-drop parts parts slots) in
    grind (arith, three_levels, levels, parted)

-- THE SLOTS: what stands in them, one by one, is what a table of them keeps
pub kept_one_by_one : {X : Type 0} (f : X → BatchValue) (parts : ℕ) (slots : List (Option X)) → length slots ≡ 3 * parts → kept_batches (table_of parts (map (option_map f) slots)) ≡ map f (flat_map option_to_list slots)
kept_one_by_one f parts slots long = search (arith, table_batches, length-map, batches_in-map)

-- and one of them
pub nth_one_by_one : {X : Type 0} (f : X → BatchValue) (parts : ℕ) (slots : List (Option X)) (i : ℕ) → length slots ≡ 3 * parts → option_map f (slice_get (flat_map option_to_list slots) i) ≡ slice_get (kept_batches (table_of parts (map (option_map f) slots))) i
nth_one_by_one f parts slots i long = search (arith, kept_one_by_one, slice_get-map)

-- ---- names

-- the names of a superstep that are held
abbrev names_at : State → ℕ → List BatchName
names_at v s = map (λ q. record { superstep = s; source = q; target = v.part.number }) (filter (λ q. (content_of v).holds s q) (range_with_len 0 v.part.plan.parts))

-- the names of what stands in a row
row_names : (h : ℕ → Bool) (name : ℕ → BatchName) (xs : List (Option BatchValue)) (k : ℕ) → ((q n : ℕ) → n ≡ k + q → is_some (get_or xs q None) ≡ h n) →
    ((q n : ℕ) → n ≡ k + q → IfSome (get_or xs q None) (λ b. b.name ≡ name n)) → map (λ b. b.name) (batches_in xs) ≡ map name (filter h (range_with_len k (length xs)))
unfolding batches_in
row_names h name [] k held named = refl
row_names h name (None ∷ xs) k held named =
    let off : h k ≡ false = sym (held 0 k (omega arith)) in
    rw off (row_names h name xs (k + 1) (λ q n e. held (suc q) n (omega arith)) (λ q n e. named (suc q) n (omega arith)))
row_names h name (Some b ∷ xs) k held named =
    let on : h k ≡ true = sym (held 0 k (omega arith)) in
    let first : b.name ≡ name k = named 0 k (omega arith) in
    rw (on, first) (ap (λ (l : List BatchName). name k ∷ l) (row_names h name xs (k + 1) (λ q n e. held (suc q) n (omega arith)) (λ q n e. named (suc q) n (omega arith))))

level_names : (v : State) (i s : ℕ) → IsState v → i < 3 → s ≡ v.superstep + 1 + i → map (λ b. b.name) (batches_in (get_or v.early i [])) ≡ names_at v s
level_names v i s st lt at = grind (arith, row_names)

filter_step : {X : Type 0} (test : X → Bool) (a b c d : List X) → filter test a ≡ c → filter test b ≡ d → filter test (a ++ b) ≡ c ++ d
filter_step test a b c d p q = filter-append test a b ∙ rw (p, q) refl

-- names of the superstep are none of a later one
none_later : (t p : ℕ) (qs : List ℕ) → filter (λ (name : BatchName). nat_lt t name.superstep) (map (λ q. record { superstep = t; source = q; target = p }) qs) ≡ []
none_later t p [] = refl
none_later t p (q ∷ qs) = let no : nat_lt t t ≡ false = grind (arith, nat_tests) in rw no (none_later t p qs)

all_later : (t s p : ℕ) (qs : List ℕ) → t < s → filter (λ (name : BatchName). nat_lt t name.superstep) (map (λ q. record { superstep = s; source = q; target = p }) qs) ≡ map (λ q. record { superstep = s; source = q; target = p }) qs
all_later t s p [] lt = refl
all_later t s p (q ∷ qs) lt = let yes : nat_lt t s ≡ true = grind (arith, nat_tests) in rw yes (ap (λ (l : List BatchName). record { superstep = s; source = q; target = p } ∷ l) (all_later t s p qs lt))

-- the names of later supersteps, one superstep after the other
later_names : (v : State) → early_names v ≡ names_at v (v.superstep + 1) ++ (names_at v (v.superstep + 1 + 1) ++ names_at v (v.superstep + 1 + 1 + 1))
unfolding early_names names_of
later_names v =
    let t = v.superstep in
    let test : BatchName → Bool = λ name. nat_lt t name.superstep in
    let p = v.part.number in
    let at : ℕ → List ℕ = λ s. filter (λ q. (content_of v).holds s q) (range_with_len 0 v.part.plan.parts) in
    filter_step test (names_at v t) _ [] _ (none_later t p (at t))
    (filter_step test (names_at v (t + 1)) _ _ _ (all_later t (t + 1) p (at (t + 1)) (omega arith))
    (filter_step test (names_at v (t + 1 + 1)) _ _ _ (all_later t (t + 1 + 1) p (at (t + 1 + 1)) (omega arith))
    (ap (filter test) (append-nil (names_at v (t + 1 + 1 + 1))) ∙ all_later t (t + 1 + 1 + 1) p (at (t + 1 + 1 + 1)) (omega arith))))

-- THE NAMES: what is kept has the names that are held of later supersteps, in their order
pub early_named : (v : State) → IsState v → map (λ b. b.name) (kept_batches v.early) ≡ early_names v
early_named v st = grind (arith, three_levels, map-append, level_names, later_names)

-- ---- true batches

row_true : (j : Job) (xs : List (Option BatchValue)) → ((q : ℕ) → IfSome (get_or xs q None) (λ b. b ≡ true_batch j b.name)) → batches_in xs ≡ map (true_batch j) (map (λ b. b.name) (batches_in xs))
unfolding batches_in
row_true j [] h = refl
row_true j (None ∷ xs) h = row_true j xs (λ q. h (suc q))
row_true j (Some b ∷ xs) h = let first : b ≡ true_batch j b.name = h 0 in ap (λ (a : BatchValue). a ∷ flat_map option_to_list xs) first ∙ ap (λ (l : List BatchValue). true_batch j b.name ∷ l) (row_true j xs (λ q. h (suc q)))

rows_true : (j : Job) (early : List (List (Option BatchValue))) → ((i q : ℕ) → IfSome (early_at early i q) (λ b. b ≡ true_batch j b.name)) → kept_batches early ≡ map (true_batch j) (map (λ b. b.name) (kept_batches early))
unfolding kept_batches batches_in
rows_true j [] h = refl
rows_true j (row ∷ rest) h =
    let name : BatchValue → BatchName = λ b. b.name in
    ap (λ (l : List BatchValue). l ++ flat_map batches_in rest) (row_true j row (λ q. h 0 q))
    ∙ ap (λ (l : List BatchValue). map (true_batch j) (map name (batches_in row)) ++ l) (rows_true j rest (λ i q. h (suc i) q))
    ∙ sym (map-append (true_batch j) (map name (batches_in row)) (map name (flat_map batches_in rest)))
    ∙ ap (map (true_batch j)) (sym (map-append name (batches_in row) (flat_map batches_in rest)))

-- a true batch is the one of its own name
pub true_named : (j : Job) (n : BatchName) (b : BatchValue) → b ≡ true_batch j n → b ≡ true_batch j b.name
unfolding true_batch
true_named j n b is = let same : b.name ≡ n = ap (λ (a : BatchValue). a.name) is in is ∙ ap (true_batch j) (sym same)

-- THE BATCHES: where the replica stands for a job they are the true ones of these names
pub early_true : (j : Job) (p t : ℕ) (v : State) → StandsFor j p t v → IsState v → kept_batches v.early ≡ map (true_batch j) (early_names v)
early_true j p t v h st =
    rows_true j v.early (λ i q. IfSome_then (early_at v.early i q) (h.early.true_of i q) (λ b is. true_named j _ b is))
    ∙ ap (map (true_batch j)) (early_named v st)

-- ---- one of them

option_map-twice : {X Y Z : Type 0} (g : Y → Z) (f : X → Y) (o : Option X) → option_map (λ x. g (f x)) o ≡ option_map g (option_map f o)
option_map-twice g f o = grind arith

-- its name
pub nth_name : {X : Type 0} (f : X → BatchValue) (v : State) (i : ℕ) (o : Option X) → IsState v → option_map f o ≡ slice_get (kept_batches v.early) i → option_map (λ x. (f x).name) o ≡ slice_get (early_names v) i
nth_name f v i o st is =
    option_map-twice (λ b. b.name) f o
    ∙ ap (option_map (λ b. b.name)) is ∙ sym (slice_get-map (λ b. b.name) (kept_batches v.early) i) ∙ ap (λ (l : List BatchName). slice_get l i) (early_named v st)

-- and the true batch of it
pub nth_true : (j : Job) (p t i : ℕ) (v : State) (o : Option BatchValue) → StandsFor j p t v → IsState v → o ≡ slice_get (kept_batches v.early) i → o ≡ option_map (true_batch j) (slice_get (early_names v) i)
nth_true j p t i v o h st is = grind (arith, early_true, slice_get-map)

-- there are at most 192
pub few_early : (v : State) → IsState v → length (kept_batches v.early) ≤ 192
few_early v st = grind (arith, three_levels, length-append, few_batches)
