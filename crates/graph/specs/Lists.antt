-- Lists of numbers that lie one after another, and where each begins.
use Rattle.std.specs.Prelude.{◌≡◌, ℕ, ◌≤◌, List, [], ◌∷◌, slice_range}

-- the lists between neighbouring starts
unfoldable pub lists_between : List ℕ → List ℕ → List (List ℕ)
lists_between items [] = []
lists_between items (a ∷ []) = []
lists_between items (a ∷ b ∷ starts) = slice_range items a b ∷ lists_between items (b ∷ starts)

-- the starts ascend, and the last of them is the end
unfoldable pub Ascend : ℕ → List ℕ → Type 0
Ascend end [] = ⊥
Ascend end (a ∷ []) = a ≡ end
Ascend end (a ∷ b ∷ starts) = (a ≤ b) × Ascend end (b ∷ starts)
