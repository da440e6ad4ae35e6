-- What a world of the program has, and which world of the definitions it shows.
use Rattle.std.specs.Prelude.{◌≡◌, ⊤, ℕ, List, [], map, length, Option, None, Some, IfSome, slice_index_or}
use Rattle.std.specs.List.{slice_get}
use Rattle.ball_model.specs.declared.names.NodeId.{NodeId}
use Rattle.ball_model.specs.PlanValue.{PlanValue}
use Rattle.ball_model.specs.Job.{Job, IsJob, PartValue}
use Rattle.ball_model.specs.Batches.{BatchValue, IsBatch, true_batch, batch_bytes}
use Rattle.ball_model.specs.Checkpoint.{checkpoint_bytes}
use Rattle.ball_model.specs.Join.{Holding}
use Rattle.ball_model.specs.State.{State}
use Rattle.ball_model.specs.Held.{HasHolding}
use Rattle.ball_model.specs.World.{Node, World, node_at, start_node}
use Rattle.ball_model.specs.WorldLaws.{IsWorld}
use Rattle.replica.specs.Saved.{IsKeepable}
use Rattle.replica.specs.Seen.{IsState}

-- a node: its replica, and the bytes of its checkpoint
pub record SeenNode : Type 0 where
  pub replica : State
  pub kept : Option (List ℕ)

-- a message: the plan of its batch, and its bytes
pub record SeenMessage : Type 0 where
  pub plan : PlanValue
  pub bytes : List ℕ

-- the spelling of a batch
abbrev pub message_of : BatchValue → SeenMessage
message_of b = record { plan = b.plan; bytes = batch_bytes b }

-- the bytes spell a batch of the plan; so they are read
pub record IsMessage (m : SeenMessage) : Type 0 where
  pub batch : BatchValue
  pub is_batch : IsBatch batch
  pub is : m ≡ message_of batch

-- a world: for each partition its nodes, by replica; the messages; the copies
pub record SeenWorld : Type 0 where
  pub plan : PlanValue
  pub nodes : List (List SeenNode)
  pub messages : List SeenMessage
  pub copies : List State

-- a node, if there is one
abbrev pub seen_at : SeenWorld → NodeId → Option SeenNode
seen_at v id = slice_get (slice_index_or v.nodes id.part []) id.replica

-- two are there and agree, or neither is there
abbrev pub Agree : {A B : Type 0} → (A → B → Type 0) → Option A → Option B → Type 0
Agree R None None = ⊤
Agree R (Some a) (Some b) = R a b
Agree R a b = ⊥

-- a replica or a copy has that content and stands for it, within the limits that every replica keeps
pub record Has (j : Job) (h : Holding) (v : State) : Type 0 where
  pub holding : HasHolding j h v
  pub state : IsState v

-- the bytes are the checkpoint of a replica that has that content
pub record KeepsContent (j : Job) (h : Holding) (bytes : List ℕ) : Type 0 where
  pub replica : State
  pub has : Has j h replica
  pub bytes_are : bytes ≡ checkpoint_bytes replica

-- the bytes are the checkpoint of a replica of the part which can be kept; so they are read
pub record IsCheckpoint (part : PartValue) (bytes : List ℕ) : Type 0 where
  pub replica : State
  pub keepable : IsKeepable replica
  pub part_is : replica.part ≡ part
  pub bytes_are : bytes ≡ checkpoint_bytes replica

-- the fields of a node: its replica is of its part, and so is that of what it kept
pub record IsOfPart (part : PartValue) (replica : State)
    (kept : Option (List ℕ)) : Type 0 where
  pub part_is : part ≡ replica.part
  pub kept_is : IfSome kept (IsCheckpoint part)

pub record ShowsNode (j : Job) (n : Node) (s : SeenNode) : Type 0 where
  pub content : Has j n.content s.replica
  pub kept : Agree (KeepsContent j) n.kept s.kept

-- it shows that world of the job: each node and each copy stands for its content, each checkpoint is that of what was
-- kept, and each message is the spelling of the true batch of its name
pub record Shows (j : Job) (w : World) (v : SeenWorld) : Type 0 where
  pub job : IsJob j
  pub plan : v.plan ≡ j.plan
  pub world : IsWorld j w
  pub nodes : (id : NodeId) → Agree (ShowsNode j) (node_at w id) (seen_at v id)
  pub messages : v.messages ≡ map (λ name. message_of (true_batch j name)) w.sent
  pub copies : (c : ℕ) → Agree (Has j) (slice_get w.copies c) (slice_get v.copies c)
  pub count : length v.copies ≡ length w.copies

-- `replicas` nodes, each of which shows the start of partition p
pub record AreStart (j : Job) (p replicas : ℕ) (nodes : List SeenNode) : Type 0 where
  pub count : length nodes ≡ replicas
  pub each : (k : ℕ) → IfSome (slice_get nodes k) (ShowsNode j (start_node j.plan p))

-- for each of the first n partitions
pub record AreFirstNodes (j : Job) (n replicas : ℕ) (rows : List (List SeenNode)) : Type 0 where
  pub count : length rows ≡ n
  pub each : (p : ℕ) → IfSome (slice_get rows p) (AreStart j p replicas)
