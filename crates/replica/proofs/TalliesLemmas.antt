-- Tallies that are handed out and go on in another table.
use Rattle.std.proofs.Common.{◌≡◌, ℕ, ◌<◌, List, [], length, map, get_or, arith}
use Rattle.replica.proofs.Names.{IfSome, None, Option, Some, sum_by, length-map-range_with_len, TallyValue, Measure, estimate_with, no_figures, value_of, Tally}
use Rattle.replica.specs.Level.{next_tally, next_tallies}
use Rattle.replica.specs.Relay.{DifferAt, IsRelay, Marked}
use Rattle.replica.proofs.LevelLemmas.Next.{map_lasts, sum_same}

-- as many figures as rows
pub length-next_tallies : (m : Measure) (t : ℕ) (rows : List (List ℕ)) (old : List TallyValue) (n : ℕ) → length (next_tallies m t rows old n) ≡ n
unfolding next_tallies
length-next_tallies m t rows old n = length-map-range_with_len (λ i. next_tally t (get_or old i no_figures) (estimate_with m (get_or rows i []))) 0 n

-- figures whose estimate stays are as they were
pub still : (t e : ℕ) (v : TallyValue) → 0 < t → v.last ≡ e → next_tally t v e ≡ v
still t e v from same = grind arith

-- the sum of the last estimates
pub sum_of-lasts : (ts : List Tally) → sum_by (λ (tally : Tally). tally.last) ts ≡ sum_by (λ (v : TallyValue). v.last) (map value_of ts)
sum_of-lasts ts = sum_same (λ (tally : Tally). tally.last) (λ (v : TallyValue). v.last) ts (map value_of ts) (map_lasts ts)

-- what was shown before has a mark for each of those that are shown
pub has_marks : (shown : List TallyValue) (behind : Option (Marked (List TallyValue))) (n : ℕ) → n ≡ length shown → IsRelay DifferAt shown behind → IfSome behind (λ b. length b.stale ≡ n)
has_marks shown None n count relayed = search
has_marks shown (Some b) n count relayed = omega (arith, relayed.marked, relayed.count, count)
