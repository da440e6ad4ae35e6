use Rattle.std.proofs.Common.{◌≡◌, ◌≤◌, ℕ, List, replicate, ap, sym, subst, arith}
use Rattle.std.specs.List.{All}
use Rattle.std.proofs.lemmas.List.Elements.{All-replicate}
use Rattle.ball_model.specs.Table.{Table}
use Rattle.base_tests.proofs.of_figures.figures_of_many_vertices.Goals as goal

-- rows of zeros
pub come_in_order-requires-clause-ranks : goal.come_in_order-requires-clause-ranks
come_in_order-requires-clause-ranks g c κs =
    let blank : c.in_ok-rows.rows.rows ≡ replicate 5000 (replicate 16 0) = ap (λ (t : Table). t.rows) c.in_ok-rows.ensures in
    let ranks = All-replicate (λ (row : List ℕ). All (λ r. r ≤ 33) row) 5000 (replicate 16 0) (All-replicate (λ r. r ≤ 33) 16 0 (omega arith)) in
    subst (λ (rows : List (List ℕ)). All (λ row. All (λ r. r ≤ 33) row) rows) (sym blank) ranks
