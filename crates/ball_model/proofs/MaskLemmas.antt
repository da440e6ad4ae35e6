-- Feed masks, bit by bit.
use Rattle.std.proofs.Common.{◌≡◌, ◌∙◌, ℕ, zero, suc, ◌+◌, ◌-◌, ◌*◌, ◌%◌, ◌^◌, ◌<◌, ◌≤◌, Bool, true, false, ◌&&◌, ◌==◌, List, [], ◌∷◌, if◌then◌else◌, refl, ap, arith, sym, subst, inl, inr, tests, pow_mono}
use Rattle.std.specs.Int.{bit_at}
use Rattle.std.specs.List.{list_any, range_with_len, sum_by}
use Rattle.std.proofs.Math.Nat.{mod-lt, pow-succ'}
use Rattle.std.proofs.Math.Bool.{and-false}
use Rattle.std.proofs.lemmas.Nat.Bits.{bit_at_cat_low, bit_at_cat_high, bit_at_above, same_from_bits_below}
use Rattle.std.proofs.lemmas.Bool.{cases_lt}
use Rattle.std.proofs.lemmas.List.Sums.{sum_by-append, sum_by-cons}
use Rattle.ball_model.specs.Graph.{Graph}
use Rattle.ball_model.specs.Job.{feeds_into, feed_mask}
use Rattle.ball_model.specs.Masks.{has_bit}
use Rattle.ball_model.proofs.PartLemmas.{range_more}

-- the sum of the powers of two whose exponents pass
abbrev pub powers : (ℕ → Bool) → ℕ → ℕ
powers f n = sum_by (λ r. if f r then 2 ^ r else 0) (range_with_len 0 n)

abbrev pub bit : Bool → ℕ
bit b = if b then 1 else 0

power-of : (b : Bool) (n : ℕ) → (if b then 2 ^ n else 0) ≡ bit b * 2 ^ n
power-of true n = omega arith
power-of false n = omega arith

powers-next : (f : ℕ → Bool) (n : ℕ) → powers f (n + 1) ≡ bit (f n) * 2 ^ n + powers f n
powers-next f n =
    ap (sum_by (λ r. if f r then 2 ^ r else 0)) (range_more n) ∙ sum_by-append (λ r. if f r then 2 ^ r else 0) (range_with_len 0 n) (n ∷ [])
    ∙ omega (arith, sum_by-cons (λ r. if f r then 2 ^ r else 0) n [], power-of (f n) n)

bit-times : (b : Bool) (n : ℕ) → bit b * 2 ^ n ≤ 2 ^ n
bit-times true n = omega arith
bit-times false n = omega arith

pow-next : (n : ℕ) → 2 ^ (n + 1) ≡ 2 * 2 ^ n
pow-next n = let e : n + 1 ≡ suc n = omega arith in ap (λ k. 2 ^ k) e ∙ pow-succ' 2 n

powers-lt : (f : ℕ → Bool) (n : ℕ) → powers f n < 2 ^ n
powers-lt f zero = omega arith
powers-lt f (suc n) =
    let e : n + 1 ≡ suc n = omega arith in
    let next : powers f (n + 1) < 2 ^ (n + 1) = rw (powers-next f n, pow-next n) (omega (arith, powers-lt f n, bit-times (f n) n)) in
    subst (λ (k : ℕ). powers f k < 2 ^ k) e next

bit-at-low : (b : Bool) → bit_at (bit b) 0 ≡ bit b
bit-at-low true = refl
bit-at-low false = refl

-- bit i of the sum is set where i passes
powers-bit : (f : ℕ → Bool) (n i : ℕ) → i < n → bit_at (powers f n) i ≡ bit (f i)
powers-bit f zero i lt = absurd (omega arith)
powers-bit f (suc n) i lt =
    let e : n + 1 ≡ suc n = omega arith in
    subst (λ (k : ℕ). bit_at (powers f k) i ≡ bit (f i)) e (rw (powers-next f n)
    (elim (cases_lt i n) [
      | inl less ↦ bit_at_cat_low (bit (f n)) n (powers f n) i less ∙ powers-bit f n i less
      | inr more ↦
          let at : n ≡ i = omega arith in
          let none : n - n ≡ 0 = omega arith in
          subst (λ (k : ℕ). bit_at (bit (f n) * 2 ^ n + powers f n) k ≡ bit (f k)) at
          (bit_at_cat_high (bit (f n)) n (powers f n) n (powers-lt f n) (omega arith) ∙ rw none (bit-at-low (f n)))
    ]))

powers-above : (f : ℕ → Bool) (n i : ℕ) → n ≤ i → bit_at (powers f n) i ≡ 0
powers-above f n i le = bit_at_above (powers f n) n i (powers-lt f n) le

-- no edge leads into a partition that is none
no-feed : (es : List (ℕ × ℕ)) (parts y r : ℕ) → 0 < parts → parts ≤ r → list_any (λ e. (e.0 == y) && (e.1 % parts == r)) es ≡ false
no-feed [] parts y r some le = refl
no-feed (e ∷ es) parts y r some le =
    let small : e.1 % parts < parts = mod-lt e.1 (omega arith) in
    let off : (e.1 % parts == r) ≡ false = search (tests, arith) in
    rw (off, and-false (e.0 == y), no-feed es parts y r some le) refl

-- a number with these bits is the feed mask
pub mask-is : (g : Graph) (parts y m : ℕ) → 0 < parts → parts ≤ 64 → m < 2 ^ 64 → ((r : ℕ) → r < 64 → bit_at m r ≡ bit (list_any (λ e. (e.0 == y) && (e.1 % parts == r)) g.edges)) → m ≡ feed_mask g parts y
unfolding feed_mask feeds_into
mask-is g parts y m some few small bits =
    let f : ℕ → Bool = λ r. list_any (λ e. (e.0 == y) && (e.1 % parts == r)) g.edges in
    let fits : powers f parts < 2 ^ 64 = omega (arith, powers-lt f parts, pow_mono {i = parts} {j = 64} few) in
    same_from_bits_below 64 m (powers f parts) small fits
    (λ r lt. bits r lt ∙ elim (cases_lt r parts) [
      | inl less ↦ sym (powers-bit f parts r less)
      | inr more ↦ ap bit (no-feed g.edges parts y r some more) ∙ sym (powers-above f parts r more)
    ])

bit-test : (b : Bool) → (bit b == 1) ≡ b
bit-test true = refl
bit-test false = refl

-- bit r of the feed mask of y is set exactly where y has an edge into partition r
pub mask-bit : (g : Graph) (parts y r : ℕ) → 0 < parts → has_bit (feed_mask g parts y) r ≡ feeds_into g parts y r
unfolding feed_mask feeds_into
mask-bit g parts y r some =
    let f : ℕ → Bool = λ k. list_any (λ e. (e.0 == y) && (e.1 % parts == k)) g.edges in
    elim (cases_lt r parts) [
      | inl less ↦ ap (λ n. n == 1) (powers-bit f parts r less) ∙ bit-test (f r)
      | inr more ↦ ap (λ n. n == 1) (powers-above f parts r more) ∙ sym (no-feed g.edges parts y r some more)
    ]
