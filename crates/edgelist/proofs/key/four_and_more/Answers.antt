use Rattle.std.proofs.Common.{◌≡◌, ◌∙◌, ◌+◌, ◌-◌, ◌*◌, ◌^◌, ◌%◌, ◌<◌, ◌≤◌, ℕ, List, [], ◌∷◌, length, get_or, take, drop, bit_or, arith, ap₂, sym}
use Rattle.std.specs.Int.Bits.{or_self, or_zero_l, or_zero_r}
use Rattle.std.proofs.lemmas.Nat.{or_block}
use Rattle.edgelist.specs.Guessing.{bytes_after}
use Rattle.edgelist.proofs.key.four_and_more.Goals as goal

-- numbers that overlap in digits that are the same
overlap : (k a b c : ℕ) → c < 2 ^ k → b * 2 ^ k + c < 2 ^ 32 → bit_or (a * 2 ^ 32 + b * 2 ^ k) (b * 2 ^ k + c) ≡ a * 2 ^ 32 + (b * 2 ^ k + c)
overlap k a b c small fits =
    let high : bit_or (a * 2 ^ 32 + b * 2 ^ k) (0 * 2 ^ 32 + (b * 2 ^ k + c)) ≡ bit_or a 0 * 2 ^ 32 + bit_or (b * 2 ^ k) (b * 2 ^ k + c) = or_block 32 a 0 (b * 2 ^ k) (b * 2 ^ k + c) (omega (arith, fits)) fits in
    let low : bit_or (b * 2 ^ k + 0) (b * 2 ^ k + c) ≡ bit_or b b * 2 ^ k + bit_or 0 c = or_block k b b 0 c (omega (arith, small)) small in
    let left : b * 2 ^ k + 0 ≡ b * 2 ^ k = omega arith in
    let right : 0 * 2 ^ 32 + (b * 2 ^ k + c) ≡ b * 2 ^ k + c = omega arith in
    let low_is : bit_or (b * 2 ^ k) (b * 2 ^ k + c) ≡ b * 2 ^ k + c = rw (left, or_self b, or_zero_l c) at low in
    rw (right, low_is, or_zero_r a) at high

-- numbers of which one overlaps the other
joins : (k a b c x y n : ℕ) → x ≡ a * 2 ^ 32 + b * 2 ^ k → y ≡ b * 2 ^ k + c → c < 2 ^ k → b * 2 ^ k + c < 2 ^ 32 → n ≡ a * 2 ^ 32 + (b * 2 ^ k + c) → bit_or x y ≡ n
joins k a b c x y n first last small fits is = ap₂ bit_or first last ∙ overlap k a b c small fits ∙ sym is

-- the first four bytes and the last four
joined : (xs : List ℕ) (first last : ℕ) → 4 ≤ length xs → length xs ≤ 8 → ((i : ℕ) → get_or xs i 0 < 256)
    → first ≡ bytes_after 0 (take 4 xs) → last ≡ bytes_after 0 (take (length xs - (length xs - 4)) (drop (length xs - 4) xs))
    → bit_or (first * 2 ^ (8 * (length xs - 4)) % 18446744073709551616) last ≡ bytes_after 0 xs
unfolding bytes_after
joined [] first last least most bytes front back = absurd (omega (arith, least))
joined (a ∷ []) first last least most bytes front back = absurd (omega (arith, least))
joined (a ∷ b ∷ []) first last least most bytes front back = absurd (omega (arith, least))
joined (a ∷ b ∷ c ∷ []) first last least most bytes front back = absurd (omega (arith, least))
joined (a ∷ b ∷ c ∷ d ∷ []) first last least most bytes front back =
    let small : (a < 256) × (b < 256) × (c < 256) × (d < 256) = (bytes 0, bytes 1, bytes 2, bytes 3) in
    joins 0 0 (((a * 256 + b) * 256 + c) * 256 + d) 0 (first * 2 ^ 0 % 18446744073709551616) last (bytes_after 0 (a ∷ b ∷ c ∷ d ∷ [])) (omega (arith, front, small)) (omega (arith, back, small)) (omega (arith, small)) (omega (arith, small)) (omega arith)
joined (a ∷ b ∷ c ∷ d ∷ e ∷ []) first last least most bytes front back =
    let small : (a < 256) × (b < 256) × (c < 256) × (d < 256) × (e < 256) = (bytes 0, bytes 1, bytes 2, bytes 3, bytes 4) in
    joins 8 a ((b * 256 + c) * 256 + d) e (first * 2 ^ 8 % 18446744073709551616) last (bytes_after 0 (a ∷ b ∷ c ∷ d ∷ e ∷ [])) (omega (arith, front, small)) (omega (arith, back, small)) (omega (arith, small)) (omega (arith, small)) (omega arith)
joined (a ∷ b ∷ c ∷ d ∷ e ∷ f ∷ []) first last least most bytes front back =
    let small : (a < 256) × (b < 256) × (c < 256) × (d < 256) × (e < 256) × (f < 256) = (bytes 0, bytes 1, bytes 2, bytes 3, bytes 4, bytes 5) in
    joins 16 (a * 256 + b) (c * 256 + d) (e * 256 + f) (first * 2 ^ 16 % 18446744073709551616) last (bytes_after 0 (a ∷ b ∷ c ∷ d ∷ e ∷ f ∷ [])) (omega (arith, front, small)) (omega (arith, back, small)) (omega (arith, small)) (omega (arith, small)) (omega arith)
joined (a ∷ b ∷ c ∷ d ∷ e ∷ f ∷ g ∷ []) first last least most bytes front back =
    let small : (a < 256) × (b < 256) × (c < 256) × (d < 256) × (e < 256) × (f < 256) × (g < 256) = (bytes 0, bytes 1, bytes 2, bytes 3, bytes 4, bytes 5, bytes 6) in
    joins 24 ((a * 256 + b) * 256 + c) d ((e * 256 + f) * 256 + g) (first * 2 ^ 24 % 18446744073709551616) last (bytes_after 0 (a ∷ b ∷ c ∷ d ∷ e ∷ f ∷ g ∷ [])) (omega (arith, front, small)) (omega (arith, back, small)) (omega (arith, small)) (omega (arith, small)) (omega arith)
joined (a ∷ b ∷ c ∷ d ∷ e ∷ f ∷ g ∷ h ∷ []) first last least most bytes front back =
    let small : (a < 256) × (b < 256) × (c < 256) × (d < 256) × (e < 256) × (f < 256) × (g < 256) × (h < 256) = (bytes 0, bytes 1, bytes 2, bytes 3, bytes 4, bytes 5, bytes 6, bytes 7) in
    joins 32 (((a * 256 + b) * 256 + c) * 256 + d) 0 (((e * 256 + f) * 256 + g) * 256 + h) (first * 2 ^ 32 % 18446744073709551616) last (bytes_after 0 (a ∷ b ∷ c ∷ d ∷ e ∷ f ∷ g ∷ h ∷ [])) (omega (arith, front, small)) (omega (arith, back, small)) (omega (arith, small)) (omega (arith, small)) (omega arith)
joined (a ∷ b ∷ c ∷ d ∷ e ∷ f ∷ g ∷ h ∷ i ∷ xs) first last least most bytes front back = absurd (omega (arith, most))

pub returns : goal.returns
returns c = joined c.args.part.now c.four-first.result c.four-last.result c.requires.least c.requires.most (λ i. search (arith, c.type_inv.part i)) c.four-first.ensures c.four-last.ensures
