-- What a replica tells of a vertex, where it stands for its content.
use Rattle.std.proofs.Common.{◌≡◌, ℕ, ◌/◌, ◌%◌, ◌<◌, ◌≤◌, false, [], length, get_or, ap, arith, sym, ◌∙◌}
use Rattle.replica.proofs.Names.{common_steps, count_by, length-map, TallyValue, estimate_with, mixing_of, part_size, most_vertices, measure_of, Job, changed_count, State, StandsFor, content_of, heard_changes, marks_of, no_figures, ball_counter, tally_at}
use Rattle.ball_model.specs.Change.{changed_at}
use Rattle.ball_model.specs.Accumulated.{accumulated_of}
use Rattle.replica.specs.Hearing.{accumulated_by, change_by, heard_by}
use Rattle.replica.specs.Seen.{IsState}
use Rattle.replica.proofs.IndexLemmas.Own.{vertex_of, place_below, part_size_le, at_own}
use Rattle.replica.proofs.ChangeLemmas.Advance.{holds_now}
use Rattle.replica.proofs.LevelLemmas.Step.{list_is}
use Rattle.replica.proofs.LevelLemmas.Level.{plan_is, number_is, row_at, mark_at}
use Rattle.replica.proofs.LevelLemmas.Figure.{tally_in}

-- a vertex of the partition of a job
record IsOwnAt (j : Job) (p x : ℕ) : Type 0 where
  place : x / j.plan.parts < part_size j.graph.vertices j.plan.parts p
  vertex : vertex_of j.plan.parts p (x / j.plan.parts) ≡ x

is_at : (j : Job) (p t x : ℕ) (v : State) → StandsFor j p t v → IsState v → x < v.part.plan.vertices → x % v.part.plan.parts ≡ v.part.number → IsOwnAt j p x
is_at j p t x v h state lt own = grind (arith, plan_is, number_is, place_below)

pub row_stands : (j : Job) (p t x : ℕ) (v : State) → StandsFor j p t v → IsState v → x < v.part.plan.vertices → x % v.part.plan.parts ≡ v.part.number → get_or v.rows (x / v.part.plan.parts) [] ≡ ball_counter (mixing_of j.plan) j.graph x t
row_stands j p t x v h state lt own = grind (arith, is_at, plan_is, row_at)

pub mark_stands : (j : Job) (p t x : ℕ) (v : State) → StandsFor j p t v → IsState v → x < v.part.plan.vertices → x % v.part.plan.parts ≡ v.part.number → get_or v.marks (x / v.part.plan.parts) false ≡ changed_at (mixing_of j.plan) j.graph x t
mark_stands j p t x v h state lt own = grind (arith, is_at, plan_is, mark_at)

pub tally_stands : (j : Job) (p t x : ℕ) (v : State) → StandsFor j p t v → IsState v → x < v.part.plan.vertices → x % v.part.plan.parts ≡ v.part.number → get_or v.tallies (x / v.part.plan.parts) no_figures ≡ tally_at (mixing_of j.plan) j.graph x t
tally_stands j p t x v h state lt own = grind (arith, is_at, plan_is, tally_in)

-- the number of marks that are set
pub count_stands : (j : Job) (p t : ℕ) (v : State) → StandsFor j p t v → count_by (λ mark. mark) v.marks ≡ changed_count j t p
unfolding changed_count marks_of
count_stands j p t v h = grind (arith, common_steps)

-- a place of the partition
pub place_in : (v : State) (x : ℕ) → IsState v → x < v.part.plan.vertices → x % v.part.plan.parts ≡ v.part.number → x / v.part.plan.parts < length v.part.preds
place_in v x state lt own = grind (arith, place_below)

-- a partition is small
pub few : (v : State) → IsState v → length v.part.preds ≤ most_vertices
few v state = omega (arith, state.part.preds, part_size_le v.part.plan.vertices v.part.plan.parts v.part.number, state.part.plan.vertices_to)

-- figures for each vertex
pub length-tallies : (v : State) → IsState v → length v.tallies ≡ length v.part.preds
length-tallies v s = sym (length-map v.tallies (λ (t : TallyValue). t.last)) ∙ ap length s.lasts ∙ length-map v.rows (estimate_with (measure_of v.part.plan)) ∙ s.count

-- which sources are heard
pub heard_is : (v : State) → IsState v → v.heard ≡ heard_by (content_of v)
heard_is v s = list_is (λ q. (content_of v).holds v.superstep q) v.heard false 64 s.heard.count (λ q _. sym (holds_now v.superstep v.heard v.early q))

-- whether one of them tells of a change
pub change_stands : (j : Job) (p t : ℕ) (v : State) → StandsFor j p t v → v.heard_change ≡ change_by j (content_of v)
unfolding heard_changes
change_stands j p t v h = grind arith

-- what is accumulated for a vertex
pub accumulated_stands : (j : Job) (p t x : ℕ) (v : State) → StandsFor j p t v → IsState v → x < v.part.plan.vertices → x % v.part.plan.parts ≡ v.part.number → get_or v.accumulated (x / v.part.plan.parts) [] ≡ accumulated_by j (content_of v) x
unfolding accumulated_of
accumulated_stands j p t x v h state lt own = grind (arith, is_at, plan_is, at_own)
