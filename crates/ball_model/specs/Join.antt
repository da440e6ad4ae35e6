-- The join of contents: what two replicas of one partition hold together (Pregel 2010 has recovery from a checkpoint
-- alone).
use Rattle.std.specs.Prelude.{◌≡◌, ℕ, Bool, not, ◌==◌, ◌&&◌, ◌||◌, nat_le, List, max, Result, Ok, Err, if◌then◌else◌}
use Rattle.std.specs.List.{list_any}
use Rattle.ball_model.specs.declared.names.BatchName.{BatchName}
use Rattle.ball_model.specs.declared.names.MergeError.{MergeError}
use Rattle.ball_model.specs.declared.names.MergeError.TheVariants as refusal
use Rattle.ball_model.specs.PlanValue.{PlanValue}
use Rattle.ball_model.specs.Content.{Content, IsContent, names_of, same_plan}

-- the join of two contents: the greater superstep, and the batches of at least that superstep that either holds
abbrev pub union_of : Content → Content → Content
union_of a b = record {
  superstep = max a.superstep b.superstep;
  holds = λ s q. nat_le (max a.superstep b.superstep) s && (a.holds s q || b.holds s q);
}

-- a content as plain data: of which plan and partition, its superstep, and the names of its batches
pub record Holding : Type 0 where
  pub plan : PlanValue
  pub partition : ℕ
  pub superstep : ℕ
  pub names : List BatchName

-- the batch of superstep s and source q is named
unfoldable pub has_name : List BatchName → ℕ → ℕ → Bool
has_name names s q = list_any (λ name. (name.superstep == s) && (name.source == q)) names

-- the content of a holding
abbrev pub content_in : Holding → Content
content_in h = record { superstep = h.superstep; holds = has_name h.names }

-- a content of a partition, as plain data
abbrev pub holding_of : PlanValue → ℕ → Content → Holding
holding_of plan p c = record {
  plan = plan;
  partition = p;
  superstep = c.superstep;
  names = names_of plan p c;
}

-- the names ascend by superstep, then by source, without repeats, and all of them may be held
pub record IsHolding (h : Holding) : Type 0 where
  pub listed : h ≡ holding_of h.plan h.partition (content_in h)
  pub content : IsContent h.plan h.partition (content_in h)

-- two holdings that may be joined: of one plan and one partition
pub record AreAlike (a b : Holding) : Type 0 where
  pub plan : a.plan ≡ b.plan
  pub partition : a.partition ≡ b.partition
  pub left : IsHolding a
  pub right : IsHolding b

-- the join of two holdings
abbrev pub join_of : Holding → Holding → Holding
join_of a b = holding_of a.plan a.partition (union_of (content_in a) (content_in b))

-- the answer of a replica to a snapshot of that plan and partition
abbrev pub merge_of : PlanValue → ℕ → PlanValue → ℕ → Result (Unit {0}) MergeError
merge_of plan p other q =
    if not (same_plan plan other) then Err refusal.OtherJob
    else (if not (q == p) then Err refusal.NotMine
    else Ok tt)
