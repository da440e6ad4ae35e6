-- The blocks of lists.
use Rattle.std.proofs.Common.{◌≡◌, ℕ, zero, suc, ◌+◌, ◌<◌, ◌≤◌, Bool, true, false, List, [], ◌∷◌, ◌++◌, length, get_or, take, drop, refl, ap, sym, ◌∙◌, arith, append_assoc, append-nil, cond, inl, inr, length-append, subst}
use Rattle.std.specs.Prelude.{◌^◌, ◌&&◌, ◌||◌, ◌⊎◌, not}
use Rattle.std.specs.List.{flat_map}
use Rattle.std.proofs.Math.Seq.{drop-cons, take-suc}
use Rattle.std.proofs.lemmas.List.{drop_all, length-take-le, take_all, take-take, take-append-drop}
use Rattle.std.proofs.Math.Dec.{leb}
use Rattle.std.proofs.lemmas.Bool.{le-leb, leb-true}
use Rattle.std.proofs.lemmas.Grind.{flat_map-append}
use Rattle.gapcode.specs.Lists.{list_bits}
use Rattle.stored.specs.Reading.{goes_on, is_block}
use Rattle.stored.specs.Stored.{blocks_after, blocks_of, is_full}

abbrev lists_in : List (List (List ℕ)) → List (List ℕ)
lists_in blocks = flat_map (λ block. block) blocks

-- a full block, and the list after it
pub after_full : (block : List (List ℕ)) (xs : List ℕ) (lists : List (List ℕ)) → is_full block ≡ true → blocks_after block (xs ∷ lists) ≡ block ∷ blocks_of (xs ∷ lists)
unfolding blocks_after blocks_of
after_full block xs lists full = rw full refl

-- a block that is not full, and the list after it
pub after_more : (block : List (List ℕ)) (xs : List ℕ) (lists : List (List ℕ)) → is_full block ≡ false → blocks_after block (xs ∷ lists) ≡ blocks_after (block ++ xs ∷ []) lists
unfolding blocks_after
after_more block xs lists other = rw other refl

all_after : (block lists : List (List ℕ)) → lists_in (blocks_after block lists) ≡ block ++ lists
unfolding blocks_after
all_after block [] = refl
all_after block (xs ∷ lists) = by_cases (is_full block) (all_after (xs ∷ []) lists) (all_after (block ++ xs ∷ []) lists)
  where
    by_cases : (full : Bool) → lists_in (blocks_after (xs ∷ []) lists) ≡ (xs ∷ []) ++ lists → lists_in (blocks_after (block ++ xs ∷ []) lists) ≡ (block ++ xs ∷ []) ++ lists
        → lists_in (cond full (block ∷ blocks_after (xs ∷ []) lists) (blocks_after (block ++ xs ∷ []) lists)) ≡ block ++ xs ∷ lists
    by_cases true p q = ap (λ (l : List (List ℕ)). block ++ l) p
    by_cases false p q = q ∙ append_assoc block (xs ∷ []) lists

-- the blocks of lists are these lists
pub blocks_all : (lists : List (List ℕ)) → lists_in (blocks_of lists) ≡ lists
unfolding blocks_of
blocks_all [] = refl
blocks_all (xs ∷ lists) = all_after (xs ∷ []) lists

-- whether there is none
abbrev pub is_none : List (List ℕ) → Bool
is_none [] = true
is_none (xs ∷ lists) = false

ended : (block others : List (List ℕ)) → is_none others || is_full block ≡ true → blocks_after block others ≡ (block ++ []) ∷ blocks_of others
unfolding blocks_after blocks_of
ended block [] is = ap (λ (l : List (List ℕ)). l ∷ []) (sym (append-nil block))
ended block (xs ∷ others) is = rw (is, append-nil block) refl

-- a list that does not follow a full block, and what comes after it
one_more : (block : List (List ℕ)) (xs : List ℕ) (lists others : List (List ℕ)) (full : Bool) → is_full block ≡ full
    → (goes_on (is_none others) (block ++ xs ∷ []) lists ≡ true → blocks_after (block ++ xs ∷ []) (lists ++ others) ≡ ((block ++ xs ∷ []) ++ lists) ∷ blocks_of others)
    → not full && goes_on (is_none others) (block ++ xs ∷ []) lists ≡ true → blocks_after block (xs ∷ (lists ++ others)) ≡ (block ++ xs ∷ lists) ∷ blocks_of others
one_more block xs lists others true e next is = absurd (cc)
one_more block xs lists others false e next is =
    after_more block xs (lists ++ others) e ∙ next is ∙ ap (λ (l : List (List ℕ)). l ∷ blocks_of others) (append_assoc block (xs ∷ []) lists)

-- a block that has begun has these lists too and ends, and others follow
ends_after : (block lists others : List (List ℕ)) → goes_on (is_none others) block lists ≡ true → blocks_after block (lists ++ others) ≡ (block ++ lists) ∷ blocks_of others
unfolding goes_on
ends_after block [] others is = ended block others is
ends_after block (xs ∷ lists) others is = one_more block xs lists others (is_full block) refl (ends_after (block ++ xs ∷ []) lists others) is

-- lists that are a block, and others
pub block_first : (lists others : List (List ℕ)) → is_block (is_none others) lists ≡ true → blocks_of (lists ++ others) ≡ lists ∷ blocks_of others
unfolding blocks_of
block_first [] others is = absurd (cc)
block_first (xs ∷ lists) others is = ends_after (xs ∷ []) lists others is

-- ---- as a writer finds them
-- the lists up to a place begin the block that the first of all is in
pub record Begins (lists : List (List ℕ)) (k : ℕ) : Type 0 where
  pub within : k ≤ length lists
  pub so_far : 0 < k → blocks_of lists ≡ blocks_after (take k lists) (drop k lists)

pub begins_none : (lists : List (List ℕ)) → Begins lists 0
begins_none lists = record { within = omega arith; so_far = λ lt. absurd (omega (arith, lt)) }

first_of : (lists : List (List ℕ)) → 0 < length lists → blocks_of lists ≡ blocks_after (take 1 lists) (drop 1 lists)
unfolding blocks_of
first_of [] lt = absurd (omega (arith, lt))
first_of (xs ∷ lists) lt = refl

pub begins_more : (lists : List (List ℕ)) (k : ℕ) → k < length lists → is_full (take k lists) ≡ false → Begins lists k → Begins lists (k + 1)
begins_more lists zero lt other p =
    let one : 0 + 1 ≡ 1 = omega arith in
    record { within = omega (arith, lt); so_far = λ _. rw one (first_of lists (omega (arith, lt))) }
begins_more lists (suc k) lt other p =
    let next : suc k + 1 ≡ suc (suc k) = omega arith in
    record {
      within = omega (arith, lt);
      so_far = λ _. p.so_far (omega arith) ∙ ap (blocks_after (take (suc k) lists)) (drop-cons lists (suc k) [] lt)
          ∙ after_more (take (suc k) lists) (get_or lists (suc k) []) (drop (suc (suc k)) lists) other
          ∙ rw next (ap (λ (l : List (List ℕ)). blocks_after l (drop (suc (suc k)) lists)) (sym (take-suc lists (suc k) [] lt)));
    }

-- where the block is full, or all lists are in it, it ends
pub begins_ends : (lists : List (List ℕ)) (k : ℕ) → 0 < k → (length lists ≤ k) ⊎ (is_full (take k lists) ≡ true) → Begins lists k → blocks_of lists ≡ take k lists ∷ blocks_of (drop k lists)
unfolding blocks_after blocks_of
begins_ends lists k some (inl le) p =
    let none : drop k lists ≡ [] = drop_all k lists (omega (arith, le)) in
    p.so_far some ∙ rw none refl
begins_ends lists k some (inr full) p = p.so_far some ∙ by_rest (drop k lists)
  where
    by_rest : (rest : List (List ℕ)) → blocks_after (take k lists) rest ≡ take k lists ∷ blocks_of rest
    by_rest [] = refl
    by_rest (xs ∷ rest) = after_full (take k lists) xs rest full

-- ---- as a reader checks them
-- the lists up to a place are all of one block, if it ends where they end
record Passes (last : Bool) (lists : List (List ℕ)) (k : ℕ) : Type 0 where
  so_far : 0 < k → is_block last lists ≡ goes_on last (take k lists) (drop k lists)

passes_none : (last : Bool) (lists : List (List ℕ)) → Passes last lists 0
passes_none last lists = record { so_far = λ lt. absurd (omega (arith, lt)) }

pass_first : (last : Bool) (lists : List (List ℕ)) → 0 < length lists → is_block last lists ≡ goes_on last (take 1 lists) (drop 1 lists)
pass_first last [] lt = absurd (omega (arith, lt))
pass_first last (xs ∷ lists) lt = refl

goes_more : (last : Bool) (block : List (List ℕ)) (xs : List ℕ) (lists : List (List ℕ)) → is_full block ≡ false → goes_on last block (xs ∷ lists) ≡ goes_on last (block ++ xs ∷ []) lists
unfolding goes_on
goes_more last block xs lists other = rw other refl

goes_not : (last : Bool) (block : List (List ℕ)) (xs : List ℕ) (lists : List (List ℕ)) → is_full block ≡ true → goes_on last block (xs ∷ lists) ≡ false
unfolding goes_on
goes_not last block xs lists full = rw full refl

passes_more : (last : Bool) (lists : List (List ℕ)) (k : ℕ) → k < length lists → is_full (take k lists) ≡ false → Passes last lists k → Passes last lists (k + 1)
passes_more last lists zero lt other p =
    let one : 0 + 1 ≡ 1 = omega arith in
    record { so_far = λ _. rw one (pass_first last lists (omega (arith, lt))) }
passes_more last lists (suc k) lt other p =
    let next : suc k + 1 ≡ suc (suc k) = omega arith in
    record {
      so_far = λ _. p.so_far (omega arith) ∙ ap (goes_on last (take (suc k) lists)) (drop-cons lists (suc k) [] lt)
          ∙ goes_more last (take (suc k) lists) (get_or lists (suc k) []) (drop (suc (suc k)) lists) other
          ∙ rw next (ap (λ (l : List (List ℕ)). goes_on last l (drop (suc (suc k)) lists)) (sym (take-suc lists (suc k) [] lt)));
    }

none_full : is_full [] ≡ false
unfolding is_full
none_full = refl

-- a list that follows a full block
passes_not : (last : Bool) (lists : List (List ℕ)) (k : ℕ) → k < length lists → is_full (take k lists) ≡ true → Passes last lists k → is_block last lists ≡ false
passes_not last lists zero lt full p = let none = none_full in absurd (cc)
passes_not last lists (suc k) lt full p =
    p.so_far (omega arith) ∙ ap (goes_on last (take (suc k) lists)) (drop-cons lists (suc k) [] lt)
    ∙ goes_not last (take (suc k) lists) (get_or lists (suc k) []) (drop (suc (suc k)) lists) full

-- all of them
passes_all : (last : Bool) (lists : List (List ℕ)) (k : ℕ) → k ≡ length lists → 0 < k → Passes last lists k → is_block last lists ≡ last || is_full lists
unfolding goes_on
passes_all last lists k all some p =
    let none : drop k lists ≡ [] = drop_all k lists (omega (arith, all)) in
    let whole : take k lists ≡ lists = take_all k lists (omega (arith, all)) in
    p.so_far some ∙ rw (none, whole) refl

-- whether lists are full, by their number and their bits
pub full_by : (lists : List (List ℕ)) (count bits : ℕ) (full : Bool) → count ≡ length lists → bits ≡ length (flat_map list_bits lists) → full ≡ (leb (2 ^ 16) count || leb (2 ^ 20) bits) → is_full lists ≡ full
unfolding is_full
full_by lists count bits full e f is = rw (is, e, f) refl

-- whether the first k are
pub full_at : (lists : List (List ℕ)) (k bits : ℕ) (full : Bool) → k ≤ length lists → bits ≡ length (flat_map list_bits (take k lists)) → full ≡ (leb (2 ^ 16) k || leb (2 ^ 20) bits) → is_full (take k lists) ≡ full
full_at lists k bits full le f is = full_by (take k lists) k bits full (sym (length-take-le k lists le)) f is

pub some_full : (lists : List (List ℕ)) (k : ℕ) → is_full (take k lists) ≡ true → 0 < k
some_full lists zero full = let none = none_full in absurd (cc)
some_full lists (suc k) full = omega arith

-- ---- lists that are full before their last
bits_less : (lists : List (List ℕ)) (j k : ℕ) → j ≤ k → length (flat_map list_bits (take j lists)) ≤ length (flat_map list_bits (take k lists))
bits_less lists j k le =
    let one = take j lists in
    let two = drop j (take k lists) in
    let whole : one ++ two ≡ take k lists = ap (λ (l : List (List ℕ)). l ++ two) (sym (take-take j k lists le)) ∙ take-append-drop j (take k lists) in
    omega (arith, ap (λ (l : List (List ℕ)). length (flat_map list_bits l)) whole, ap length (flat_map-append list_bits one two), length-append (flat_map list_bits one) (flat_map list_bits two))

leb_less : (n a b : ℕ) → a ≤ b → leb n a ≡ true → leb n b ≡ true
leb_less n a b le is = le-leb n b (omega (arith, leb-true n a is, le))

either : (a b : Bool) → a || b ≡ true → (a ≡ true) ⊎ (b ≡ true)
either true b e = inl refl
either false b e = inr e

or_right : (a b : Bool) → b ≡ true → a || b ≡ true
or_right true b e = refl
or_right false b e = e

full_less : (lists : List (List ℕ)) (j k : ℕ) → j ≤ k → k ≤ length lists → is_full (take j lists) ≡ true → is_full (take k lists) ≡ true
unfolding is_full
full_less lists j k le within full =
    let few = length-take-le j lists (omega (arith, le, within)) in
    let many = length-take-le k lists within in
    elim (either (leb (2 ^ 16) (length (take j lists))) (leb (2 ^ 20) (length (flat_map list_bits (take j lists)))) full) [
      | inl a ↦ let b : leb (2 ^ 16) (length (take k lists)) ≡ true = leb_less (2 ^ 16) (length (take j lists)) (length (take k lists)) (omega (arith, few, many, le)) a in rw b refl
      | inr a ↦ or_right (leb (2 ^ 16) (length (take k lists))) (leb (2 ^ 20) (length (flat_map list_bits (take k lists)))) (leb_less (2 ^ 20) (length (flat_map list_bits (take j lists))) (length (flat_map list_bits (take k lists))) (bits_less lists j k le) a)
    ]

-- some of the lists are full before a place, and so they are no block
record FullBefore (last : Bool) (lists : List (List ℕ)) (k : ℕ) : Type 0 where
  at : ℕ
  before : at < k
  full : is_full (take at lists) ≡ true
  refused : is_block last lists ≡ false

passes_to : (last : Bool) (lists : List (List ℕ)) (k : ℕ) → k ≤ length lists → Passes last lists k ⊎ FullBefore last lists k
passes_to last lists zero le = inl (passes_none last lists)
passes_to last lists (suc k) le = next (passes_to last lists k (omega (arith, le))) (is_full (take k lists)) refl
  where
    next : Passes last lists k ⊎ FullBefore last lists k → (full : Bool) → is_full (take k lists) ≡ full → Passes last lists (suc k) ⊎ FullBefore last lists (suc k)
    next (inr q) full e = inr (record { at = q.at; before = omega (arith, q.before); full = q.full; refused = q.refused })
    next (inl p) true e = inr (record { at = k; before = omega arith; full = e; refused = passes_not last lists k (omega (arith, le)) e p })
    next (inl p) false e = let step : k + 1 ≡ suc k = omega arith in inl (subst (Passes last lists) step (passes_more last lists k (omega (arith, le)) e p))

pub full_not : (last : Bool) (lists : List (List ℕ)) (k : ℕ) → k < length lists → is_full (take k lists) ≡ true → is_block last lists ≡ false
full_not last lists k lt full = elim (passes_to last lists k (omega (arith, lt))) [ inl p ↦ passes_not last lists k lt full p | inr q ↦ q.refused ]

full_last : (last : Bool) (lists : List (List ℕ)) (k : ℕ) → length lists ≡ k + 1 → is_full (take k lists) ≡ false → is_block last lists ≡ last || is_full lists
full_last last lists k long other = elim (passes_to last lists k (omega (arith, long))) [
  | inl p ↦ passes_all last lists (k + 1) (sym long) (omega arith) (passes_more last lists k (omega (arith, long)) other p)
  | inr q ↦ let full = full_less lists q.at k (omega (arith, q.before)) (omega (arith, long)) q.full in absurd (cc)
]

pub no_block : (last : Bool) (lists : List (List ℕ)) → length lists ≡ 0 → is_block last lists ≡ false
no_block last [] e = refl
no_block last (xs ∷ lists) e = absurd (omega (arith, e))

or_stays : (a b : Bool) → a ≡ true → a ≡ a || b
or_stays true b e = refl
or_stays false b e = absurd (cc)

or_other : (a b : Bool) → a ≡ false → b ≡ a || b
or_other true b e = absurd (cc)
or_other false b e = refl

pub ends_all : (last : Bool) (lists : List (List ℕ)) (k : ℕ) → last ≡ true → length lists ≡ k + 1 → is_full (take k lists) ≡ false → last ≡ is_block last lists
ends_all last lists k e long other = or_stays last (is_full lists) e ∙ sym (full_last last lists k long other)

pub ends_full : (last : Bool) (lists : List (List ℕ)) (k n : ℕ) (full : Bool) → last ≡ false → length lists ≡ k + 1 → n ≡ length lists → is_full (take k lists) ≡ false → is_full (take n lists) ≡ full → full ≡ is_block last lists
ends_full last lists k n full e long all other is = sym is ∙ ap is_full (take_all n lists (omega (arith, all))) ∙ or_other last (is_full lists) e ∙ sym (full_last last lists k long other)
