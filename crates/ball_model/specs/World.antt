-- A world: the nodes of a run, the messages between them and the copies of them, whose events come one at a time, in
-- any order (Pregel 2010).
use Rattle.std.specs.Prelude.{ℕ, ◌==◌, ◌&&◌, not, nat_lt, List, [], ◌∷◌, ◌++◌, map, length, replicate, Option, None, Some, Result, Ok, Err, if◌then◌else◌, unwrap_or, slice_index_or, slice_set}
use Rattle.std.specs.List.{range_with_len, slice_get}
use Rattle.ball_model.specs.declared.names.BatchName.{BatchName}
use Rattle.ball_model.specs.declared.names.NodeId.{NodeId}
use Rattle.ball_model.specs.declared.names.Taken.{Taken}
use Rattle.ball_model.specs.declared.names.TakeError.{TakeError}
use Rattle.ball_model.specs.declared.names.CloseError.{CloseError}
use Rattle.ball_model.specs.declared.names.MergeError.{MergeError}
use Rattle.ball_model.specs.declared.world.Event.{Event}
use Rattle.ball_model.specs.declared.world.Event.TheVariants as event
use Rattle.ball_model.specs.declared.world.Answer.{Answer}
use Rattle.ball_model.specs.declared.world.Answer.TheVariants as answer
use Rattle.ball_model.specs.declared.world.WorldError.{WorldError}
use Rattle.ball_model.specs.declared.world.WorldError.TheVariants as refusal
use Rattle.ball_model.specs.PlanValue.{PlanValue}
use Rattle.ball_model.specs.Job.{Job}
use Rattle.ball_model.specs.Batches.{BatchValue, true_batch}
use Rattle.ball_model.specs.Join.{Holding, join_of, merge_of}
use Rattle.ball_model.specs.Steps.{Take, Close}
use Rattle.ball_model.specs.Held.{start_holding, held_take_answer, held_close_answer, held_after}

-- ---- the state of a world

-- a node: its content, and the content that it kept last
pub record Node : Type 0 where
  pub content : Holding
  pub kept : Option Holding

-- a world: for each partition its nodes, by replica; the names of the messages that were sent; the copies
pub record World : Type 0 where
  pub nodes : List (List Node)
  pub sent : List BatchName
  pub copies : List Holding

-- a node of partition p at the start: it has kept nothing
abbrev pub start_node : PlanValue → ℕ → Node
start_node plan p = record { content = start_holding plan p; kept = None }

-- the start of a world with that many replicas of each partition
unfoldable pub start_world : PlanValue → ℕ → World
start_world plan replicas = record {
  nodes = map (λ p. replicate replicas (start_node plan p)) (range_with_len 0 plan.parts);
  sent = [];
  copies = [];
}

-- the nodes of a partition
abbrev pub nodes_of : List (List Node) → ℕ → List Node
nodes_of nodes p = slice_index_or nodes p []

-- a node, if there is one
unfoldable pub node_at : World → NodeId → Option Node
node_at w id = slice_get (nodes_of w.nodes id.part) id.replica

-- the world in which a node is another
abbrev pub with_node : World → NodeId → Node → World
with_node w id n = record w {
  nodes = slice_set w.nodes id.part (slice_set (nodes_of w.nodes id.part) id.replica n);
}

-- the world in which the node has another content
abbrev pub with_content : World → NodeId → Node → Holding → World
with_content w id n h = with_node w id (record n { content = h })

-- ---- what an event comes to: its answer and the world after it, or why it is refused
abbrev pub Outcome : Type 0
Outcome = Result (Answer × World) WorldError

-- the node of an event
abbrev pub node_of : Event → NodeId
node_of (event.Send id q) = id
node_of (event.Deliver m id) = id
node_of (event.Close id) = id
node_of (event.Keep id) = id
node_of (event.Restart id) = id
node_of (event.Copy id) = id
node_of (event.Recover id c) = id
node_of (event.Show id) = id

-- the name of what a node sends a partition
abbrev pub name_to : Node → ℕ → BatchName
name_to n q = record {
  superstep = n.content.superstep;
  source = n.content.partition;
  target = q;
}

-- the answer if that batch is sent as the message of that number
abbrev pub sent_answer : ℕ → BatchValue → Answer
sent_answer message b = answer.Sent message b.name b.changed (length b.rows)

-- a message with the true batch of that name is sent; the target is another partition
abbrev pub send_at : Job → World → Node → ℕ → Outcome
send_at j w n q =
    if nat_lt q j.plan.parts && not (q == n.content.partition)
    then Ok (
      sent_answer (length w.sent) (true_batch j (name_to n q)),
      record w { sent = w.sent ++ name_to n q ∷ [] },
    )
    else Err refusal.NoTarget

abbrev pub taken_answer : Result Taken TakeError → Answer
taken_answer (Ok t) = answer.Took t
taken_answer (Err e) = answer.NotTaken e

-- the message of that name is taken
abbrev pub deliver_at : Job → World → NodeId → Node → Option BatchName → Outcome
deliver_at j w id n None = Err refusal.NoMessage
deliver_at j w id n (Some name) =
    Ok (
      taken_answer (held_take_answer j n.content name),
      with_content w id n (held_after j n.content (Take name)),
    )

abbrev pub closed_answer : Result ℕ CloseError → Answer
closed_answer (Ok t) = answer.Closed t
closed_answer (Err e) = answer.NotClosed e

-- the superstep is closed
abbrev pub close_at : Job → World → NodeId → Node → Outcome
close_at j w id n =
    Ok (
      closed_answer (held_close_answer j n.content),
      with_content w id n (held_after j n.content Close),
    )

-- the content is kept
abbrev pub keep_at : World → NodeId → Node → Outcome
keep_at w id n =
    Ok (answer.Kept n.content.superstep, with_node w id (record n { kept = Some n.content }))

-- the content is the one that was kept, or that of the start
abbrev pub restart_at : Job → World → NodeId → Node → Outcome
restart_at j w id n =
    let h : Holding = unwrap_or n.kept (start_holding j.plan n.content.partition) in
    Ok (answer.Restarted h.superstep, with_content w id n h)

-- the content is copied
abbrev pub copy_at : World → Node → Outcome
copy_at w n =
    Ok (
      answer.Copied (length w.copies) n.content.superstep,
      record w { copies = w.copies ++ n.content ∷ [] },
    )

-- the content is joined with that of a copy, if the two are of one partition
abbrev pub recover_when : World → NodeId → Node → Holding → Result (Unit {0}) MergeError → Outcome
recover_when w id n c (Ok u) =
    Ok (answer.Merged (join_of n.content c).superstep, with_content w id n (join_of n.content c))
recover_when w id n c (Err e) = Ok (answer.NotMerged e, w)

abbrev pub recover_at : World → NodeId → Node → Option Holding → Outcome
recover_at w id n None = Err refusal.NoCopy
recover_at w id n (Some c) =
    recover_when w id n c (merge_of n.content.plan n.content.partition c.plan c.partition)

-- what an event at node n comes to
abbrev pub outcome_at : Job → World → Node → Event → Outcome
outcome_at j w n (event.Send id q) = send_at j w n q
outcome_at j w n (event.Deliver m id) = deliver_at j w id n (slice_get w.sent m)
outcome_at j w n (event.Close id) = close_at j w id n
outcome_at j w n (event.Keep id) = keep_at w id n
outcome_at j w n (event.Restart id) = restart_at j w id n
outcome_at j w n (event.Copy id) = copy_at w n
outcome_at j w n (event.Recover id c) = recover_at w id n (slice_get w.copies c)
outcome_at j w n (event.Show id) = Ok (answer.Shown, w)

abbrev pub outcome_unless : Job → World → Event → Option Node → Outcome
outcome_unless j w e None = Err refusal.NoNode
outcome_unless j w e (Some n) = outcome_at j w n e

-- what an event comes to
abbrev pub outcome_of : Job → World → Event → Outcome
outcome_of j w e = outcome_unless j w e (node_at w (node_of e))

abbrev pub answer_in : Outcome → Result Answer WorldError
answer_in (Ok both) = Ok both.0
answer_in (Err e) = Err e

abbrev pub world_in : World → Outcome → World
world_in w (Ok both) = both.1
world_in w (Err e) = w

-- the answer to an event, or its refusal
abbrev pub answer_of : Job → World → Event → Result Answer WorldError
answer_of j w e = answer_in (outcome_of j w e)

-- the world after an event: a refusal changes nothing
abbrev pub after_event : Job → World → Event → World
after_event j w e = world_in w (outcome_of j w e)

-- ---- runs

-- the world after a list of events, one after the other
unfoldable pub run_of : Job → World → List Event → World
run_of j w [] = w
run_of j w (e ∷ es) = run_of j (after_event j w e) es

-- their answers
unfoldable pub answers_of : Job → World → List Event → List (Result Answer WorldError)
answers_of j w [] = []
answers_of j w (e ∷ es) = answer_of j w e ∷ answers_of j (after_event j w e) es
