-- A replica as plain data, and what it stands for.
use Rattle.std.specs.Prelude.{◌≡◌, ℕ, ◌+◌, ◌-◌, ◌%◌, ◌<◌, ◌≤◌, Bool, false, not, ◌==◌, ◌&&◌, List, [], map, Option, None, is_some, IfSome, slice_index_or, nat_lt, if◌then◌else◌}
use Rattle.std.specs.List.{list_any, range_with_len}
use Rattle.ball_model.specs.Counter.{ball_counter}
use Rattle.ball_model.specs.Change.{changed_at}
use Rattle.ball_model.specs.Figures.{TallyValue}
use Rattle.ball_model.specs.Supersteps.{tally_at, total_over, end_of}
use Rattle.ball_model.specs.PlanValue.{mixing_of, vertices_of}
use Rattle.ball_model.specs.Job.{Job, IsJob, PartValue, part_of}
use Rattle.ball_model.specs.Batches.{BatchValue, true_batch, changed_count}
use Rattle.ball_model.specs.Accumulated.{accumulated_of}
use Rattle.ball_model.specs.Content.{Content}

-- a replica: its part, its superstep, for each of its vertices the registers, whether they changed and the figures,
-- the sums of its estimates at each superstep so far; of its superstep which sources it has heard, whether one of them
-- has a changed vertex, and for each of its vertices the registers accumulated so far; and for each of the
-- supersteps that follow, by source, the batch that it keeps
pub record State : Type 0 where
  pub part : PartValue
  pub superstep : ℕ
  pub rows : List (List ℕ)
  pub marks : List Bool
  pub tallies : List TallyValue
  pub sums : List ℕ
  pub heard : List Bool
  pub heard_change : Bool
  pub accumulated : List (List ℕ)
  pub early : List (List (Option BatchValue))

-- the batch of source q that is kept of the superstep after next by i
abbrev pub early_at : List (List (Option BatchValue)) → ℕ → ℕ → Option BatchValue
early_at early i q = slice_index_or (slice_index_or early i []) q None

-- the batch of superstep s and source q is held at superstep t: it is heard, or it is kept
abbrev pub holds_in : ℕ → List Bool → List (List (Option BatchValue)) → ℕ → ℕ → Bool
holds_in t heard early s q =
    if s == t then slice_index_or heard q false
    else (nat_lt t s && is_some (early_at early (s - (t + 1)) q))

-- the content of a replica
abbrev pub content_of : State → Content
content_of v = record {
  superstep = v.superstep;
  holds = λ s q. holds_in v.superstep v.heard v.early s q;
}

-- the vertices of partition p of a job
abbrev pub own_vertices : Job → ℕ → List ℕ
own_vertices j p = vertices_of j.graph.vertices j.plan.parts p

-- the counters at t of the vertices of partition p
unfoldable pub rows_of : Job → ℕ → ℕ → List (List ℕ)
rows_of j p t = map (λ x. ball_counter (mixing_of j.plan) j.graph x t) (own_vertices j p)

-- which of them are changed at t
unfoldable pub marks_of : Job → ℕ → ℕ → List Bool
marks_of j p t = map (λ x. changed_at (mixing_of j.plan) j.graph x t) (own_vertices j p)

-- their figures at t
unfoldable pub tallies_of : Job → ℕ → ℕ → List TallyValue
tallies_of j p t = map (λ x. tally_at (mixing_of j.plan) j.graph x t) (own_vertices j p)

-- the sums of their estimates at each superstep from 0 to t
unfoldable pub sums_of : Job → ℕ → ℕ → List ℕ
sums_of j p t =
    map (λ i. total_over (mixing_of j.plan) j.graph (own_vertices j p) i) (range_with_len 0 (t + 1))

-- vertex z is of a partition that is heard
abbrev pub is_heard : ℕ → List Bool → ℕ → Bool
is_heard parts heard z = slice_index_or heard (z % parts) false

-- some partition that is heard has a vertex that is changed at t
unfoldable pub heard_changes : Job → ℕ → List Bool → Bool
heard_changes j t heard =
    list_any (λ q. slice_index_or heard q false && not (changed_count j t q == 0))
    (range_with_len 0 j.plan.parts)

-- each batch that is kept is the true batch of its superstep and its source
pub record KeepsTrue (j : Job) (p t : ℕ) (early : List (List (Option BatchValue))) : Type 0 where
  pub true_of : (i q : ℕ) → IfSome (early_at early i q)
      (λ b. b ≡ true_batch j (record { superstep = t + 1 + i; source = q; target = p }))

-- the replica stands for partition p of the job at superstep t: all that it has is what the definitions say of t
pub record StandsFor (j : Job) (p t : ℕ) (v : State) : Type 0 where
  pub job : IsJob j
  pub partition : p < j.plan.parts
  pub part : v.part ≡ part_of j p
  pub superstep : v.superstep ≡ t
  pub in_time : t ≤ end_of (mixing_of j.plan) j.graph j.plan.limit
  pub rows : v.rows ≡ rows_of j p t
  pub marks : v.marks ≡ marks_of j p t
  pub tallies : v.tallies ≡ tallies_of j p t
  pub sums : v.sums ≡ sums_of j p t
  pub heard_change : v.heard_change ≡ heard_changes j t v.heard
  pub accumulated : v.accumulated ≡ accumulated_of j p t (λ z. is_heard j.plan.parts v.heard z)
  pub early : KeepsTrue j p t v.early

-- the replica stands for its own partition of the job, at its own superstep
abbrev pub Stands : Job → State → Type 0
Stands j v = StandsFor j v.part.number v.superstep v

-- all is the same but what is heard, accumulated and kept
pub record SameShown (a b : State) : Type 0 where
  pub part : a.part ≡ b.part
  pub superstep : a.superstep ≡ b.superstep
  pub rows : a.rows ≡ b.rows
  pub marks : a.marks ≡ b.marks
  pub tallies : a.tallies ≡ b.tallies
  pub sums : a.sums ≡ b.sums

-- the further of two replicas, and the first if they are at one superstep
abbrev pub further : State → State → State
further a b = if nat_lt a.superstep b.superstep then b else a
