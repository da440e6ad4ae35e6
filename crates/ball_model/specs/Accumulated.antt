-- What a replica has merged of a superstep so far: an accumulator for each of its vertices (HyperBall 2013).
use Rattle.std.specs.Prelude.{ℕ, Bool, ◌&&◌, List, map}
use Rattle.std.specs.List.{filter, fold}
use Rattle.ball_model.specs.Graph.{Graph, preds_of}
use Rattle.ball_model.specs.Counter.{Mixing, ball_counter, max_each}
use Rattle.ball_model.specs.Change.{changed_at}
use Rattle.ball_model.specs.PlanValue.{mixing_of, vertices_of}
use Rattle.ball_model.specs.Job.{Job}

-- the accumulator of x at t, if the vertices that pass the test are heard: the maximum in each place of the counter of
-- x at t and of those at t of its predecessors that are heard and changed at t
unfoldable pub accumulated_row : Mixing → Graph → ℕ → ℕ → (ℕ → Bool) → List ℕ
accumulated_row m g x t heard =
    fold (λ acc z. max_each acc (ball_counter m g z t)) (ball_counter m g x t)
    (filter (λ z. heard z && changed_at m g z t) (preds_of g x))

-- the accumulators at t of the vertices of partition p
unfoldable pub accumulated_of : Job → ℕ → ℕ → (ℕ → Bool) → List (List ℕ)
accumulated_of j p t heard =
    map (λ x. accumulated_row (mixing_of j.plan) j.graph x t heard)
    (vertices_of j.graph.vertices j.plan.parts p)
