-- Lists of events, each a short story, and what they answer. Each is a clause of a function of src/world.rt.
use Rattle.std.specs.Prelude.{◌≡◌, ℕ, false, [], ◌∷◌, Ok, Err}
use Rattle.ball_model.specs.declared.names.BatchName.{BatchName}
use Rattle.ball_model.specs.declared.names.NodeId.{NodeId}
use Rattle.ball_model.specs.declared.names.Taken.TheVariants as taken
use Rattle.ball_model.specs.declared.names.TakeError.TheVariants as untaken
use Rattle.ball_model.specs.declared.names.CloseError.TheVariants as waits
use Rattle.ball_model.specs.declared.names.MergeError.TheVariants as unmerged
use Rattle.ball_model.specs.declared.world.Event.TheVariants as event
use Rattle.ball_model.specs.declared.world.Answer.TheVariants as answer
use Rattle.ball_model.specs.declared.world.WorldError.TheVariants as refused
use Rattle.ball_model.specs.PlanValue.{PlanValue}
use Rattle.ball_model.specs.Job.{Job}
use Rattle.ball_model.specs.World.{start_world, answers_of}

-- replica k of partition p
abbrev pub node : ℕ → ℕ → NodeId
node p k = record { part = p; replica = k }

-- the name of what partition q sends partition p for superstep s
abbrev pub name : ℕ → ℕ → ℕ → BatchName
name s q p = record { superstep = s; source = q; target = p }

-- a plan with counters of 16 registers
abbrev pub plan : ℕ → ℕ → PlanValue
plan parts n = record {
  log2m = 4;
  seed = 0;
  parts = parts;
  limit = 4096;
  vertices = n;
  corrected = false;
  job = [];
}

-- the path over three vertices, dealt out to that many partitions
abbrev pub three : ℕ → Job
three parts = record {
  graph = record {
    vertices = 3;
    edges = (0, 1) ∷ (1, 2) ∷ [];
    counted = 0 ∷ 1 ∷ 2 ∷ [];
  };
  plan = plan parts 3;
}

-- the path over five vertices, dealt out to two partitions
abbrev pub five : Job
five = record {
  graph = record {
    vertices = 5;
    edges = (0, 1) ∷ (1, 2) ∷ (2, 3) ∷ (3, 4) ∷ [];
    counted = 0 ∷ 1 ∷ 2 ∷ 3 ∷ 4 ∷ [];
  };
  plan = plan 2 5;
}

-- one vertex and one partition
abbrev pub lone : Job
lone = record {
  graph = record { vertices = 1; edges = []; counted = 0 ∷ [] };
  plan = plan 1 1;
}

-- a batch that comes before its superstep: it is held, and heard when the superstep comes
abbrev pub EarlyBatch : Type 0
EarlyBatch = answers_of (three 2) (start_world (three 2).plan 1) (
    event.Send (node 0 0) 1
    ∷ event.Send (node 1 0) 0
    ∷ event.Deliver 1 (node 0 0)
    ∷ event.Close (node 0 0)
    ∷ event.Send (node 0 0) 1
    ∷ event.Deliver 2 (node 1 0)
    ∷ event.Close (node 1 0)
    ∷ event.Deliver 0 (node 1 0)
    ∷ event.Close (node 1 0)
    ∷ event.Show (node 1 0)
    ∷ event.Close (node 1 0) ∷ []) ≡ (
    Ok (answer.Sent 0 (name 0 0 1) 2 1)
    ∷ Ok (answer.Sent 1 (name 0 1 0) 1 1)
    ∷ Ok (answer.Took taken.New)
    ∷ Ok (answer.Closed 1)
    ∷ Ok (answer.Sent 2 (name 1 0 1) 1 0)
    ∷ Ok (answer.Took taken.New)
    ∷ Ok (answer.NotClosed (waits.Waiting 0))
    ∷ Ok (answer.Took taken.New)
    ∷ Ok (answer.Closed 1)
    ∷ Ok answer.Shown
    ∷ Ok (answer.Closed 2) ∷ [])

-- a batch that comes again, and events that are refused
abbrev pub RepeatedBatch : Type 0
RepeatedBatch = answers_of (three 2) (start_world (three 2).plan 1) (
    event.Send (node 0 0) 1
    ∷ event.Deliver 0 (node 1 0)
    ∷ event.Deliver 0 (node 1 0)
    ∷ event.Deliver 0 (node 1 0)
    ∷ event.Close (node 1 0)
    ∷ event.Deliver 0 (node 1 0)
    ∷ event.Show (node 1 0)
    ∷ event.Deliver 0 (node 0 0)
    ∷ event.Deliver 7 (node 1 0)
    ∷ event.Send (node 1 0) 1
    ∷ event.Recover (node 1 0) 0
    ∷ event.Close (node 2 0) ∷ []) ≡ (
    Ok (answer.Sent 0 (name 0 0 1) 2 1)
    ∷ Ok (answer.Took taken.New)
    ∷ Ok (answer.Took taken.Known)
    ∷ Ok (answer.Took taken.Known)
    ∷ Ok (answer.Closed 1)
    ∷ Ok (answer.Took taken.Old)
    ∷ Ok answer.Shown
    ∷ Ok (answer.NotTaken untaken.NotMine)
    ∷ Err refused.NoMessage
    ∷ Err refused.NoTarget
    ∷ Err refused.NoCopy
    ∷ Err refused.NoNode ∷ [])

-- a batch that is too early, the last one that is not, and a restart that gives back its name
abbrev pub WindowEdge : Type 0
WindowEdge = answers_of five (start_world five.plan 2) (
    event.Send (node 0 0) 1
    ∷ event.Send (node 1 1) 0
    ∷ event.Deliver 0 (node 1 1)
    ∷ event.Deliver 1 (node 0 0)
    ∷ event.Close (node 0 0)
    ∷ event.Close (node 1 1)
    ∷ event.Send (node 0 0) 1
    ∷ event.Send (node 1 1) 0
    ∷ event.Deliver 2 (node 1 1)
    ∷ event.Deliver 3 (node 0 0)
    ∷ event.Close (node 0 0)
    ∷ event.Close (node 1 1)
    ∷ event.Send (node 0 0) 1
    ∷ event.Send (node 1 1) 0
    ∷ event.Deliver 4 (node 1 1)
    ∷ event.Deliver 5 (node 0 0)
    ∷ event.Close (node 0 0)
    ∷ event.Close (node 1 1)
    ∷ event.Send (node 0 0) 1
    ∷ event.Send (node 1 1) 0
    ∷ event.Deliver 7 (node 0 0)
    ∷ event.Close (node 0 0)
    ∷ event.Send (node 0 0) 1
    ∷ event.Deliver 8 (node 1 0)
    ∷ event.Deliver 6 (node 1 0)
    ∷ event.Show (node 1 0)
    ∷ event.Keep (node 1 0)
    ∷ event.Restart (node 1 0)
    ∷ event.Show (node 1 0)
    ∷ event.Deliver 6 (node 1 0) ∷ []) ≡ (
    Ok (answer.Sent 0 (name 0 0 1) 3 2)
    ∷ Ok (answer.Sent 1 (name 0 1 0) 2 2)
    ∷ Ok (answer.Took taken.New)
    ∷ Ok (answer.Took taken.New)
    ∷ Ok (answer.Closed 1)
    ∷ Ok (answer.Closed 1)
    ∷ Ok (answer.Sent 2 (name 1 0 1) 2 1)
    ∷ Ok (answer.Sent 3 (name 1 1 0) 2 2)
    ∷ Ok (answer.Took taken.New)
    ∷ Ok (answer.Took taken.New)
    ∷ Ok (answer.Closed 2)
    ∷ Ok (answer.Closed 2)
    ∷ Ok (answer.Sent 4 (name 2 0 1) 2 1)
    ∷ Ok (answer.Sent 5 (name 2 1 0) 1 1)
    ∷ Ok (answer.Took taken.New)
    ∷ Ok (answer.Took taken.New)
    ∷ Ok (answer.Closed 3)
    ∷ Ok (answer.Closed 3)
    ∷ Ok (answer.Sent 6 (name 3 0 1) 1 0)
    ∷ Ok (answer.Sent 7 (name 3 1 0) 1 1)
    ∷ Ok (answer.Took taken.New)
    ∷ Ok (answer.Closed 4)
    ∷ Ok (answer.Sent 8 (name 4 0 1) 1 0)
    ∷ Ok (answer.NotTaken (untaken.TooEarly 3))
    ∷ Ok (answer.Took taken.New)
    ∷ Ok answer.Shown
    ∷ Ok (answer.Kept 0)
    ∷ Ok (answer.Restarted 0)
    ∷ Ok answer.Shown
    ∷ Ok (answer.Took taken.Known) ∷ [])

-- a restart from a checkpoint
abbrev pub Checkpointed : Type 0
Checkpointed = answers_of (three 2) (start_world (three 2).plan 1) (
    event.Send (node 0 0) 1
    ∷ event.Send (node 1 0) 0
    ∷ event.Deliver 0 (node 1 0)
    ∷ event.Deliver 1 (node 0 0)
    ∷ event.Close (node 0 0)
    ∷ event.Close (node 1 0)
    ∷ event.Keep (node 0 0)
    ∷ event.Send (node 0 0) 1
    ∷ event.Send (node 1 0) 0
    ∷ event.Deliver 3 (node 0 0)
    ∷ event.Close (node 0 0)
    ∷ event.Restart (node 0 0)
    ∷ event.Show (node 0 0)
    ∷ event.Send (node 0 0) 1
    ∷ event.Deliver 3 (node 0 0)
    ∷ event.Close (node 0 0) ∷ []) ≡ (
    Ok (answer.Sent 0 (name 0 0 1) 2 1)
    ∷ Ok (answer.Sent 1 (name 0 1 0) 1 1)
    ∷ Ok (answer.Took taken.New)
    ∷ Ok (answer.Took taken.New)
    ∷ Ok (answer.Closed 1)
    ∷ Ok (answer.Closed 1)
    ∷ Ok (answer.Kept 1)
    ∷ Ok (answer.Sent 2 (name 1 0 1) 1 0)
    ∷ Ok (answer.Sent 3 (name 1 1 0) 1 1)
    ∷ Ok (answer.Took taken.New)
    ∷ Ok (answer.Closed 2)
    ∷ Ok (answer.Restarted 1)
    ∷ Ok answer.Shown
    ∷ Ok (answer.Sent 4 (name 1 0 1) 1 0)
    ∷ Ok (answer.Took taken.New)
    ∷ Ok (answer.Closed 2) ∷ [])

-- a node that recovers from copies
abbrev pub Copied : Type 0
Copied = answers_of (three 2) (start_world (three 2).plan 2) (
    event.Send (node 0 0) 1
    ∷ event.Send (node 1 0) 0
    ∷ event.Deliver 0 (node 1 0)
    ∷ event.Deliver 1 (node 0 0)
    ∷ event.Close (node 0 0)
    ∷ event.Close (node 1 0)
    ∷ event.Copy (node 0 0)
    ∷ event.Send (node 0 0) 1
    ∷ event.Send (node 1 0) 0
    ∷ event.Deliver 2 (node 1 0)
    ∷ event.Deliver 3 (node 0 0)
    ∷ event.Close (node 0 0)
    ∷ event.Close (node 1 0)
    ∷ event.Copy (node 0 0)
    ∷ event.Send (node 1 0) 0
    ∷ event.Deliver 4 (node 0 1)
    ∷ event.Recover (node 0 1) 1
    ∷ event.Recover (node 0 1) 0
    ∷ event.Recover (node 0 1) 1
    ∷ event.Show (node 0 1)
    ∷ event.Recover (node 1 0) 0
    ∷ event.Close (node 0 1) ∷ []) ≡ (
    Ok (answer.Sent 0 (name 0 0 1) 2 1)
    ∷ Ok (answer.Sent 1 (name 0 1 0) 1 1)
    ∷ Ok (answer.Took taken.New)
    ∷ Ok (answer.Took taken.New)
    ∷ Ok (answer.Closed 1)
    ∷ Ok (answer.Closed 1)
    ∷ Ok (answer.Copied 0 1)
    ∷ Ok (answer.Sent 2 (name 1 0 1) 1 0)
    ∷ Ok (answer.Sent 3 (name 1 1 0) 1 1)
    ∷ Ok (answer.Took taken.New)
    ∷ Ok (answer.Took taken.New)
    ∷ Ok (answer.Closed 2)
    ∷ Ok (answer.Closed 2)
    ∷ Ok (answer.Copied 1 2)
    ∷ Ok (answer.Sent 4 (name 2 1 0) 0 0)
    ∷ Ok (answer.Took taken.New)
    ∷ Ok (answer.Merged 2)
    ∷ Ok (answer.Merged 2)
    ∷ Ok (answer.Merged 2)
    ∷ Ok answer.Shown
    ∷ Ok (answer.NotMerged unmerged.NotMine)
    ∷ Ok (answer.Closed 3) ∷ [])

-- three partitions, and a copy of a standby
abbrev pub ThreePartitions : Type 0
ThreePartitions = answers_of (three 3) (start_world (three 3).plan 2) (
    event.Send (node 0 0) 2
    ∷ event.Send (node 1 0) 2
    ∷ event.Deliver 0 (node 2 0)
    ∷ event.Deliver 1 (node 2 1)
    ∷ event.Copy (node 2 1)
    ∷ event.Recover (node 2 0) 0
    ∷ event.Close (node 2 0) ∷ []) ≡ (
    Ok (answer.Sent 0 (name 0 0 2) 1 0)
    ∷ Ok (answer.Sent 1 (name 0 1 2) 1 1)
    ∷ Ok (answer.Took taken.New)
    ∷ Ok (answer.Took taken.New)
    ∷ Ok (answer.Copied 0 0)
    ∷ Ok (answer.Merged 0)
    ∷ Ok (answer.Closed 1) ∷ [])

-- a lone vertex
abbrev pub LoneVertex : Type 0
LoneVertex = answers_of lone (start_world lone.plan 1) (
    event.Show (node 0 0)
    ∷ event.Close (node 0 0)
    ∷ event.Show (node 0 0)
    ∷ event.Close (node 0 0) ∷ []) ≡ (
    Ok answer.Shown
    ∷ Ok (answer.Closed 1)
    ∷ Ok answer.Shown
    ∷ Ok (answer.NotClosed waits.Finished) ∷ [])
