-- What the estimate of each row is made of.
use Rattle.std.proofs.Common.{◌≡◌, ℕ, ◌<◌, List, [], length, map, get_or, ap, sym, ◌∙◌, arith}
use Rattle.replica.proofs.Names.{same_lists, get_or-map, get_or_default, length-map, weight_of}
use Rattle.replica.specs.Level.{weights_of}

-- where there are as many as rows
pub weights_count : (rows : List (List ℕ)) (weights : List ℕ) → weights ≡ weights_of rows → length weights ≡ length rows
weights_count rows weights are = ap (length {A = ℕ}) are ∙ length-map rows weight_of

-- and each is that of its row, they are those of the rows
pub weights_are : (rows : List (List ℕ)) (weights : List ℕ) → length weights ≡ length rows → ((k : ℕ) → k < length rows → get_or weights k 0 ≡ weight_of (get_or rows k [])) → weights ≡ weights_of rows
weights_are rows weights count each =
    same_lists weights (map weight_of rows) (count ∙ sym (length-map rows weight_of))
    (λ k d lt. let inside : k < length rows = omega (arith, count) in
    get_or_default weights k d 0 lt ∙ each k inside ∙ sym (get_or-map weight_of rows k [] d inside))
