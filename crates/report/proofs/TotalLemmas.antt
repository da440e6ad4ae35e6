-- Sums over partitions, cut at the greatest number of 128 bits.
use Rattle.std.proofs.Common.{◌≡◌, ℕ, ◌+◌, ◌<◌, List, length, get_or, min, take, ap, arith, ◌∙◌}
use Rattle.std.specs.List.{sum_by}
use Rattle.std.proofs.lemmas.List.Sums.{sum_by_more}

capped : (a b most : ℕ) → min (min a most + b) most ≡ min (a + b) most
capped a b most = omega arith

-- one partition more
pub capped_more : {X : Type 0} (f : X → ℕ) (xs : List X) (k : ℕ) (x : X) (most sum next part : ℕ) → k < length xs → x ≡ get_or xs k x → part ≡ f x →
    sum ≡ min (sum_by f (take k xs)) most → next ≡ min (sum + part) most → next ≡ min (sum_by f (take (k + 1) xs)) most
capped_more f xs k x most sum next part lt is own before made =
    made ∙ rw (before, own ∙ ap f is, sum_by_more f xs k x lt) (capped (sum_by f (take k xs)) (f (get_or xs k x)) most)
