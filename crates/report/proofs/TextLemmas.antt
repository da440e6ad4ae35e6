-- Lines, one after another.
use Rattle.std.proofs.Common.{◌≡◌, ℕ, ◌+◌, List, [], ◌∷◌, ◌++◌, ap, ◌∙◌, append_assoc}
use Rattle.std.specs.List.{flat_map, range_with_len}
use Rattle.std.proofs.lemmas.List.{append-nil}
use Rattle.std.proofs.lemmas.Grind.{flat_map-append}
use Rattle.replica.proofs.IndexLemmas.Counting.{range_split}

-- one line more, after those of n numbers from a on
pub line_more : (f : ℕ → List ℕ) (a n : ℕ) (start text line : List ℕ) → text ≡ start ++ flat_map f (range_with_len a n) → line ≡ f (a + n) →
    text ++ line ≡ start ++ flat_map f (range_with_len a (n + 1))
line_more f a n start text line before here =
    let all : flat_map f (range_with_len a (n + 1)) ≡ flat_map f (range_with_len a n) ++ f (a + n) =
    ap (flat_map f) (range_split a n 1) ∙ flat_map-append f (range_with_len a n) ((a + n) ∷ []) ∙ ap (λ (l : List ℕ). flat_map f (range_with_len a n) ++ l) (append-nil (f (a + n))) in
    rw (before, here, all) (append_assoc start (flat_map f (range_with_len a n)) (f (a + n)))
