-- What the events of a world mean, in the subject's own words. Each is the contract of a function of src/world.rt.
use Rattle.std.specs.Prelude.{◌≡◌, ◌≢◌, ⊤, ℕ, ◌-◌, ◌<◌, ◌≤◌, nat_lt, if◌then◌else◌, List, map, length, Some, IfSome, option_map, Ok, IsOk}
use Rattle.std.specs.List.{AllByRecursion, remove, slice_get}
use Rattle.ball_model.specs.declared.names.NodeId.{NodeId}
use Rattle.ball_model.specs.declared.names.Taken.{Taken}
use Rattle.ball_model.specs.declared.names.Taken.TheVariants as taken
use Rattle.ball_model.specs.declared.world.Event.{Event}
use Rattle.ball_model.specs.declared.world.Event.TheVariants as event
use Rattle.ball_model.specs.declared.world.Answer.TheVariants as answer
use Rattle.ball_model.specs.Job.{Job}
use Rattle.ball_model.specs.Held.{IsHeldBy, IsName}
use Rattle.ball_model.specs.World.{World, Node, start_world, node_at, node_of, answer_of, after_event, run_of}

-- a node of partition p: what it holds and what it keeps are contents of that partition
pub record IsWorldNode (j : Job) (p : ℕ) (n : Node) : Type 0 where
  pub content : IsHeldBy j p n.content
  pub kept : IfSome n.kept (IsHeldBy j p)

-- a world of the job: its nodes and copies have contents of the job, and each message has a name of the job's plan
pub record IsWorld (j : Job) (w : World) : Type 0 where
  pub nodes : (id : NodeId) → IfSome (node_at w id) (IsWorldNode j id.part)
  pub sent : (m : ℕ) → IfSome (slice_get w.sent m) (IsName j.plan)
  pub copies : (c : ℕ) → IfSome (slice_get w.copies c) (λ h. IsHeldBy j h.partition h)

-- whatever happens, and whatever is lost, comes twice or comes too early, the world stays one of the job: from the
-- start, after any list of events
abbrev pub RunsStayWorlds : Type 0
RunsStayWorlds = (j : Job) (replicas : ℕ) (es : List Event) →
    IsWorld j (run_of j (start_world j.plan replicas) es)

-- what is sent is of a superstep of at most the limit
abbrev pub SentIsInTime : Type 0
SentIsInTime = (j : Job) (replicas m : ℕ) (es : List Event) →
    IfSome (slice_get (run_of j (start_world j.plan replicas) es).sent m)
    (λ name. name.superstep ≤ j.plan.limit)

-- the event delivers another message, or none
abbrev pub SparesMessage : ℕ → Event → Type 0
SparesMessage m (event.Deliver other id) = other ≢ m
SparesMessage m e = ⊤

-- the world in which message m was never sent
abbrev pub without_message : ℕ → World → World
without_message m w = record w { sent = remove w.sent m }

-- and the event there: the messages after m have numbers that are one less
abbrev pub event_without : ℕ → Event → Event
event_without m (event.Deliver other id) =
    event.Deliver (if nat_lt m other then other - 1 else other) id
event_without m e = e

-- a loss: a message that is delivered to no node may be there or be gone, whatever else happens: each node and each
-- copy is the same, and so are the other messages
abbrev pub LossLeavesContents : Type 0
LossLeavesContents = (j : Job) (w : World) (m : ℕ) (es : List Event) → m < length w.sent →
    AllByRecursion (SparesMessage m) es →
    run_of j (without_message m w) (map (event_without m) es)
    ≡ without_message m (run_of j w es)

-- an event at another node changes nothing at a node
abbrev pub OthersStay : Type 0
OthersStay = (j : Job) (w : World) (id : NodeId) (e : Event) → node_of e ≢ id →
    node_at (after_event j w e) id ≡ node_at w id

-- the event is no restart of that node
abbrev pub SparesNode : NodeId → Event → Type 0
SparesNode id (event.Restart other) = other ≢ id
SparesNode id e = ⊤

-- a message that was taken, was known or was old is known or old when it comes again, whatever happened since but a
-- restart of the node
abbrev pub RepeatIsNotNew : Type 0
RepeatIsNotNew = (j : Job) (w : World) (id : NodeId) (m : ℕ) (first : Taken) (es : List Event) →
    IsWorld j w → answer_of j w (event.Deliver m id) ≡ Ok (answer.Took first) →
    AllByRecursion (SparesNode id) es →
    (second : Taken)
    × (answer_of j (run_of j (after_event j w (event.Deliver m id)) es) (event.Deliver m id)
    ≡ Ok (answer.Took second))
    × (second ≢ taken.New)

-- recovering twice from one copy is recovering once
abbrev pub RecoverTwiceIsOnce : Type 0
RecoverTwiceIsOnce = (j : Job) (w : World) (id : NodeId) (c : ℕ) → IsWorld j w →
    after_event j (after_event j w (event.Recover id c)) (event.Recover id c)
    ≡ after_event j w (event.Recover id c)

-- and so it is whatever happened since but a restart of the node: a copy that a node recovered from changes nothing
abbrev pub RecoveredIsHad : Type 0
RecoveredIsHad = (j : Job) (w : World) (id : NodeId) (c : ℕ) (es : List Event) → IsWorld j w →
    IsOk (answer_of j w (event.Recover id c)) → AllByRecursion (SparesNode id) es →
    after_event j (run_of j (after_event j w (event.Recover id c)) es) (event.Recover id c)
    ≡ run_of j (after_event j w (event.Recover id c)) es

-- the event is no keeping of that node
abbrev pub SparesKept : NodeId → Event → Type 0
SparesKept id (event.Keep other) = other ≢ id
SparesKept id e = ⊤

-- a restart gives the content that the node kept last, whatever happened since
abbrev pub RestartGivesKept : Type 0
RestartGivesKept = (j : Job) (w : World) (id : NodeId) (n : Node) (es : List Event) →
    node_at w id ≡ Some n → AllByRecursion (SparesKept id) es →
    option_map (λ m. m.content)
    (node_at
    (after_event j (run_of j (after_event j w (event.Keep id)) es) (event.Restart id)) id)
    ≡ Some n.content

-- the event is no restart
abbrev pub IsNoRestart : Event → Type 0
IsNoRestart (event.Restart id) = ⊥
IsNoRestart e = ⊤

-- a node's superstep goes down only by a restart
abbrev pub OnlyRestartGoesBack : Type 0
OnlyRestartGoesBack = (j : Job) (w : World) (id : NodeId) (n : Node) (e : Event) →
    IsNoRestart e → node_at w id ≡ Some n →
    IfSome (node_at (after_event j w e) id) (λ m. n.content.superstep ≤ m.content.superstep)
