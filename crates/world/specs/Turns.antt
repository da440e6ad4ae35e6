-- What an event makes of one node: its answer, and the node after it.
use Rattle.std.specs.Prelude.{◌≡◌, ℕ, Some, Result, Ok, Err, unwrap_or}
use Rattle.ball_model.specs.declared.names.BatchName.{BatchName}
use Rattle.ball_model.specs.declared.names.MergeError.{MergeError}
use Rattle.ball_model.specs.declared.world.Answer.{Answer}
use Rattle.ball_model.specs.declared.world.Answer.TheVariants as answer
use Rattle.ball_model.specs.Job.{Job}
use Rattle.ball_model.specs.Join.{Holding, join_of, merge_of}
use Rattle.ball_model.specs.Steps.{Take, Close}
use Rattle.ball_model.specs.Held.{start_holding, held_take_answer, held_close_answer, held_after}
use Rattle.ball_model.specs.World.{Node, taken_answer, closed_answer}
use Rattle.ball_model.specs.WorldLaws.{IsWorldNode}
use Rattle.world.specs.Shows.{SeenNode, ShowsNode}

-- the turn of a node: its answer, and the node after it
pub record NodeTurn : Type 0 where
  pub answer : Answer
  pub node : Node

-- the true batch of a name is taken
abbrev pub taken_turn : Job → BatchName → Node → NodeTurn
taken_turn j name n = record {
  answer = taken_answer (held_take_answer j n.content name);
  node = record n { content = held_after j n.content (Take name) };
}

-- the superstep is closed
abbrev pub closed_turn : Job → Node → NodeTurn
closed_turn j n = record {
  answer = closed_answer (held_close_answer j n.content);
  node = record n { content = held_after j n.content Close };
}

-- the content is kept
abbrev pub kept_turn : Node → NodeTurn
kept_turn n = record {
  answer = answer.Kept n.content.superstep;
  node = record n { kept = Some n.content };
}

-- the content is the one that was kept, or that of the start
abbrev pub restarted_turn : Job → Node → NodeTurn
restarted_turn j n =
    let h : Holding = unwrap_or n.kept (start_holding j.plan n.content.partition) in
    record { answer = answer.Restarted h.superstep; node = record n { content = h } }

abbrev pub merged_when : Holding → Node → Result (Unit {0}) MergeError → NodeTurn
merged_when c n (Ok u) = record {
  answer = answer.Merged (join_of n.content c).superstep;
  node = record n { content = join_of n.content c };
}
merged_when c n (Err e) = record { answer = answer.NotMerged e; node = n }

-- the content is joined with that of a copy
abbrev pub merged_turn : Holding → Node → NodeTurn
merged_turn c n =
    merged_when c n (merge_of n.content.plan n.content.partition c.plan c.partition)

-- a node became another with that answer, as each node that it shows does
pub record Turns (j : Job) (turn : Node → NodeTurn) (a : Answer)
    (s t : SeenNode) : Type 0 where
  pub turned : (p : ℕ) (n : Node) → IsWorldNode j p n → ShowsNode j n s →
      (a ≡ (turn n).answer) × ShowsNode j (turn n).node t
