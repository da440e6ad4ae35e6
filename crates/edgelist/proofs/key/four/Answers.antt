use Rattle.std.proofs.Common.{◌≡◌, ◌∙◌, ℕ, List, [], ◌∷◌, length, get_or, arith}
use Rattle.std.specs.Int.{from_be_bytes, w32}
use Rattle.edgelist.specs.Guessing.{bytes_after}
use Rattle.edgelist.proofs.key.four.Goals as goal

digits-of : (a b c d : ℕ) → from_be_bytes w32 (a ∷ b ∷ c ∷ d ∷ []) ≡ bytes_after 0 (a ∷ b ∷ c ∷ d ∷ [])
unfolding bytes_after
digits-of a b c d = omega arith

four-of : (xs : List ℕ) → length xs ≡ 4 → from_be_bytes w32 (get_or xs 0 0 ∷ get_or xs 1 0 ∷ get_or xs 2 0 ∷ get_or xs 3 0 ∷ []) ≡ bytes_after 0 xs
four-of [] long = absurd (omega (arith, long))
four-of (a ∷ []) long = absurd (omega (arith, long))
four-of (a ∷ b ∷ []) long = absurd (omega (arith, long))
four-of (a ∷ b ∷ c ∷ []) long = absurd (omega (arith, long))
four-of (a ∷ b ∷ c ∷ d ∷ []) long = digits-of a b c d
four-of (a ∷ b ∷ c ∷ d ∷ e ∷ xs) long = absurd (omega (arith, long))

pub returns : goal.returns
returns c = c.from.ensures ∙ c.from_be_bytes.ensures ∙ four-of c.args.part.now c.requires
