-- Which vertices are changed at a superstep.
use Rattle.std.specs.Prelude.{ℕ, Bool, not, ◌&&◌}
use Rattle.std.specs.List.{list_any, range_with_len}
use Rattle.std.specs.Str.{bytes_eq}
use Rattle.ball_model.specs.Graph.{Graph, in_ball_before, is_counted}
use Rattle.ball_model.specs.Counter.{Mixing, counter_of, ball_counter}

-- x is changed at t: its counter at t differs from that of the counted vertices of its ball before
unfoldable pub changed_at : Mixing → Graph → ℕ → ℕ → Bool
changed_at m g x t =
    not (bytes_eq
    (ball_counter m g x t)
    (counter_of m g.vertices (λ y. in_ball_before g x t y && is_counted g y)))

-- some vertex of the graph is changed at t
unfoldable pub any_changed : Mixing → Graph → ℕ → Bool
any_changed m g t = list_any (λ x. changed_at m g x t) (range_with_len 0 g.vertices)
