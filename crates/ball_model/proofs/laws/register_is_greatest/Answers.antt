use Rattle.std.proofs.Common.{ℕ, ◌&&◌, ◌==◌, refl, ap, ◌∙◌}
use Rattle.std.proofs.lemmas.Bool.{and_from, and_parts, eqb-true, eq-eqb}
use Rattle.ball_model.specs.Hash.{hash_of, index_of, rank_of}
use Rattle.ball_model.specs.Counter.{register_of}
use Rattle.ball_model.proofs.GreatestLemmas.{greatest-bounds, greatest-least}
use Rattle.ball_model.proofs.laws.register_is_greatest.Goals as goal

pub returns-clause-bound : goal.returns-clause-bound
unfolding register_of
returns-clause-bound c = λ m n member j v lt falls.
    let place : ℕ → ℕ = λ v. index_of m.log2m (hash_of m.seed v) in
    let rank : ℕ → ℕ = λ v. rank_of m.log2m (hash_of m.seed v) in
    greatest-bounds (λ v. member v && (place v == j)) rank n v lt (and_from (member v) _ falls.0 (ap (λ i. i == j) falls.1 ∙ eq-eqb j j refl))

pub returns-clause-least : goal.returns-clause-least
unfolding register_of
returns-clause-least c = λ m n member j bound h.
    let place : ℕ → ℕ = λ v. index_of m.log2m (hash_of m.seed v) in
    let rank : ℕ → ℕ = λ v. rank_of m.log2m (hash_of m.seed v) in
    greatest-least (λ v. member v && (place v == j)) rank n bound
    (λ v lt pass. h v lt ((and_parts (member v) _ pass).0, eqb-true (place v) j ((and_parts (member v) _ pass).1)))
