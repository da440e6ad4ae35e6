-- What accumulators mean, in the subject's own words. Each is a clause of a function of src/laws.rt.
use Rattle.std.specs.Prelude.{◌≡◌, ℕ, ◌+◌, ◌<◌, Bool, true, false, ◌||◌, ◌==◌, IsTrue}
use Rattle.ball_model.specs.Graph.{Graph, IsGraph, is_edge}
use Rattle.ball_model.specs.Counter.{Mixing, ball_counter, max_each}
use Rattle.ball_model.specs.Change.{changed_at}
use Rattle.ball_model.specs.Accumulated.{accumulated_row}

-- if nothing is heard, an accumulator is the counter
abbrev pub AccumulatorStarts : Type 0
AccumulatorStarts = (m : Mixing) (g : Graph) (x t : ℕ) →
    accumulated_row m g x t (λ _. false) ≡ ball_counter m g x t

-- if all is heard, it is the counter at the next superstep
abbrev pub AccumulatorEnds : Type 0
AccumulatorEnds = (m : Mixing) (g : Graph) (x t : ℕ) → IsGraph g → x < g.vertices →
    accumulated_row m g x t (λ _. true) ≡ ball_counter m g x (t + 1)

-- the maximum of two accumulators is that of what either heard
abbrev pub AccumulatorsJoin : Type 0
AccumulatorsJoin = (m : Mixing) (g : Graph) (x t : ℕ) (a b : ℕ → Bool) →
    max_each (accumulated_row m g x t a) (accumulated_row m g x t b)
    ≡ accumulated_row m g x t (λ z. a z || b z)

-- raised by the counter of a changed predecessor, it is the accumulator for which that one is heard too
abbrev pub AccumulatorSteps : Type 0
AccumulatorSteps = (m : Mixing) (g : Graph) (x z t : ℕ) (a : ℕ → Bool) → IsGraph g →
    IsTrue (is_edge g z x) → IsTrue (changed_at m g z t) →
    max_each (accumulated_row m g x t a) (ball_counter m g z t)
    ≡ accumulated_row m g x t (λ w. a w || (w == z))
