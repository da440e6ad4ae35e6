-- Slots of batches, and the table that they are.
use Rattle.std.proofs.Common.{◌≡◌, ℕ, zero, suc, ◌+◌, ◌*◌, ◌<◌, ◌≤◌, ◌==◌, Bool, true, false, ◌&&◌, List, [], ◌∷◌, length, map, get_or, set, replicate, option_map, refl, ap, subst, arith, sym, ◌∙◌, inl, inr, if◌then◌else◌, min}
use Rattle.replica.proofs.Names.{common_steps, Option, Some, None, range_with_len, flat_map, cases_lt, eq-eqb, and_from, eqb-true, get_or-drop, get_or-append_right, get_or-set_same, get_or-set_other, get_or_past, length-map-range_with_len, get_or-map-range_with_len, BatchValue, early_at, copies-at}
use Rattle.std.proofs.Math.ListN.{get_or-append}
use Rattle.std.proofs.Math.Nat.{mul-le-mul_right}
use Rattle.std.specs.Cmp.{first_so, second_so}
use Rattle.std.specs.Option.{option_to_list}
use Rattle.replica.specs.Ahead.{table_of, IsTable, StaysTable, either, union_of_slots, slots_after}

-- the batches that stand in slots, in their order
unfoldable pub batches_in : List (Option BatchValue) → List BatchValue
batches_in slots = flat_map option_to_list slots

-- what stands at a place after a shift
pub shifted_at : (n k : ℕ) (slots : List (Option BatchValue)) → get_or (slots_after n slots) k None ≡ get_or slots (n + k) None
shifted_at n k slots =
    grind (arith, get_or-append, get_or-drop, get_or-append_right, copies-at, get_or_past)

-- a list with nothing in it
pub all_none : {X Y : Type 0} (f : X → Y) (xs : List (Option X)) (n : ℕ) → length xs ≡ n → ((k : ℕ) (d : Option X) → k < n → get_or xs k d ≡ None) → map (option_map f) xs ≡ replicate n None
all_none f [] n count none = let e : n ≡ 0 = omega arith in rw e refl
all_none f (x ∷ xs) zero count none = absurd (omega arith)
all_none f (x ∷ xs) (suc n) count none =
    let here : x ≡ None = none 0 x (omega arith) in
    rw here (ap (λ rest. None ∷ rest) (all_none f xs n (omega arith) (λ k d lt. none (suc k) d (omega arith))))

-- what stands at a place of two that are joined
pub filled_at : (slots others : List (Option BatchValue)) (k : ℕ) → length others ≡ length slots → get_or (union_of_slots slots others) k None ≡ either (get_or slots k None) (get_or others k None)
unfolding union_of_slots
filled_at slots others k same =
    grind (arith, get_or-map-range_with_len, get_or_past, length-map-range_with_len)

-- as many batches as slots at most
pub few_batches : (xs : List (Option BatchValue)) → length (batches_in xs) ≤ length xs
unfolding batches_in
few_batches [] = omega arith
few_batches (None ∷ xs) = let e = few_batches xs in omega arith
few_batches (Some b ∷ xs) = let e = few_batches xs in omega arith

-- ---- the table
pub level_in : (parts : ℕ) (slots : List (Option BatchValue)) (i : ℕ) → i < 3 → get_or (table_of parts slots) i [] ≡ map (λ q. get_or slots (i * parts + q) None) (range_with_len 0 parts)
unfolding table_of
level_in parts slots i lt = get_or-map-range_with_len (λ k. map (λ q. get_or slots (k * parts + q) None) (range_with_len 0 parts)) 0 3 i i [] lt (omega arith)

pub levels : (parts : ℕ) (slots : List (Option BatchValue)) → length (table_of parts slots) ≡ 3
unfolding table_of
levels parts slots = length-map-range_with_len (λ k. map (λ q. get_or slots (k * parts + q) None) (range_with_len 0 parts)) 0 3

pub is_table : (parts : ℕ) (slots : List (Option BatchValue)) → IsTable parts (table_of parts slots)
is_table parts slots = grind (arith, levels, level_in, length-map-range_with_len)

-- inside the table
pub early_in : (parts : ℕ) (slots : List (Option BatchValue)) (i q : ℕ) → i < 3 → q < parts → early_at (table_of parts slots) i q ≡ get_or slots (i * parts + q) None
early_in parts slots i q lt below = grind (arith, level_in, get_or-map-range_with_len)

-- outside of any table there is nothing
pub no_level : (early : List (List (Option BatchValue))) (i q : ℕ) → length early ≤ i → early_at early i q ≡ None
no_level early i q out = ap (λ (l : List (Option BatchValue)). get_or l q None) (get_or_past early i [] out)

pub no_source : (parts : ℕ) (early : List (List (Option BatchValue))) (i q : ℕ) → IsTable parts early → parts ≤ q → early_at early i q ≡ None
no_source parts early i q is out = grind (arith, get_or_past)

pub out_level : (parts : ℕ) (slots : List (Option BatchValue)) (i q : ℕ) → 3 ≤ i → early_at (table_of parts slots) i q ≡ None
out_level parts slots i q out = no_level (table_of parts slots) i q (omega (arith, levels parts slots))

pub out_source : (parts : ℕ) (slots : List (Option BatchValue)) (i q : ℕ) → parts ≤ q → early_at (table_of parts slots) i q ≡ None
out_source parts slots i q out = no_source parts (table_of parts slots) i q (is_table parts slots) out

-- the places of slots differ
rows_apart : (parts a b k q : ℕ) → a < b → k < parts → a * parts + k ≡ b * parts + q → ⊥
rows_apart parts a b k q lt fits e = grind arith

same_place : (parts a b k q : ℕ) → k < parts → q < parts → a * parts + k ≡ b * parts + q → (a ≡ b) × (k ≡ q)
same_place parts a b k q kf qf e =
    elim (cases_lt a b) [
      | inl below ↦ absurd (rows_apart parts a b k q below kf e)
      | inr above ↦ elim (cases_lt b a) [
        | inl more ↦ absurd (rows_apart parts b a q k more qf (sym e))
        | inr less ↦ let same : a ≡ b = omega arith in (same, let f : a * parts ≡ b * parts = ap (λ n. n * parts) same in omega (arith, f))
      ]
    ]

pub place_fits : (parts i q : ℕ) → i < 3 → q < parts → i * parts + q < 3 * parts
place_fits parts i q low lt = let le : i * parts ≤ 2 * parts = mul-le-mul_right parts (omega arith) in omega (arith, le)

pub kept_one : (e : Bool) (parts level source i k : ℕ) (slots : List (Option BatchValue)) (b : BatchValue) → level < 3 → source < parts → k < parts → length slots ≡ 3 * parts → ((i == level) && (k == source)) ≡ e →
    get_or (set slots (level * parts + source) (Some b)) (i * parts + k) None ≡ (if e then Some b else get_or slots (i * parts + k) None)
kept_one true parts level source i k slots b low lt klt long at =
    grind (arith, common_steps, eqb-true, first_so, second_so, get_or-set_same, place_fits)
kept_one false parts level source i k slots b low lt klt long at =
    get_or-set_other slots (level * parts + source) (i * parts + k) (Some b) None
    (λ e. let s = same_place parts i level k source klt lt e in
    let both : ((i == level) && (k == source)) ≡ true = and_from (i == level) (k == source) (eq-eqb i level s.0) (eq-eqb k source s.1) in
    let no : true ≡ false = sym both ∙ at in cc)

-- two tables of as many sources
pub as_many : (a b : ℕ) (slots : List (Option BatchValue)) → IsTable a (table_of b slots) → b ≡ a
as_many a b slots is = sym ((is_table b slots).sources 0 (omega arith)) ∙ is.sources 0 (omega arith)

-- past all that is kept it makes no difference how far
pub past_gap : (parts : ℕ) (early : List (List (Option BatchValue))) (i a q : ℕ) → IsTable parts early → early_at early (i + min a 3) q ≡ early_at early (i + a) q
past_gap parts early i a q is = grind (arith, no_level)

pub shifted_told : (parts : ℕ) (early shifted : List (List (Option BatchValue))) (a gap : ℕ) → IsTable parts early → gap ≡ min a 3 → ((i k : ℕ) → early_at shifted i k ≡ early_at early (i + gap) k) → (i k : ℕ) → early_at shifted i k ≡ early_at early (i + a) k
shifted_told parts early shifted a gap is at told i k = told i k ∙ ap (λ n. early_at early (i + n) k) at ∙ past_gap parts early i a k is

-- ---- tables of as many sources

-- slots of as many sources make a table as before
pub stays_table : (a : ℕ) (mine later : List (Option BatchValue)) (early : List (List (Option BatchValue))) → table_of a mine ≡ early → StaysTable early (table_of a later)
stays_table a mine later early is parts t =
    subst (λ n. IsTable n (table_of a later)) (as_many parts a mine (subst (λ (e : List (List (Option BatchValue))). IsTable parts e) (sym is) t)) (is_table a later)

-- where the other one is a table as this one, it is of as many
pub same_parts : (a b : ℕ) (mine theirs : List (Option BatchValue)) (early other : List (List (Option BatchValue))) → table_of a mine ≡ early → table_of b theirs ≡ other → StaysTable early other → b ≡ a
same_parts a b mine theirs early other is also stays =
    as_many a b theirs (subst (λ (e : List (List (Option BatchValue))). IsTable a e) (sym also) (stays a (subst (λ (e : List (List (Option BatchValue))). IsTable a e) is (is_table a mine))))
