-- What nodes of a job say is what they may be given. Each is the contract of a function of src/laws.rt.
use Rattle.std.specs.Prelude.{◌≡◌, ◌≢◌, ℕ, ◌<◌, ◌≤◌, List, ◌++◌, length, Some}
use Rattle.ball_model.specs.Batches.{true_batch}
use Rattle.ball_model.specs.Held.{IsHeldBy}
use Rattle.ball_model.specs.Job.{Job, IsJob, part_of}
use Rattle.ball_model.specs.Join.{Holding}
use Rattle.replica.specs.Sent.{batch_name}
use Rattle.world.specs.Shows.{KeepsContent}
use Rattle.node.specs.declared.command.Command.TheVariants as command
use Rattle.node.specs.NodeText.{IsDelivered, IsGivenBack, IsStart, send_text, sent_line}
use Rattle.node.specs.Turns.{most_body}

-- what a node of that holding says to partition q is a line and, after it, the spelling of the true batch of its name,
-- which a node of partition q takes: it is no longer than any that may be delivered there
pub record SendsTrue (j : Job) (h : Holding) (q : ℕ) : Type 0 where
  pub body : List ℕ
  pub sent : send_text j h q
      ≡ sent_line (true_batch j (batch_name h.superstep h.partition q)) (length body) ++ body
  pub delivered : IsDelivered j body (batch_name h.superstep h.partition q)
  pub within : (n : ℕ) → length body ≤ most_body (part_of j q) (command.Deliver n)

-- so it is of each node, and of each partition but its own
abbrev pub SentIsTrue : Type 0
SentIsTrue = (j : Job) (p q : ℕ) (h : Holding) → IsJob j → IsHeldBy j p h →
    q < j.plan.parts → q ≢ p → SendsTrue j h q

-- the bytes are a checkpoint of partition p that stands for that holding, from which a node starts anew and which it
-- takes over: they are no longer than any that may be given back
pub record IsTakenBack (j : Job) (p : ℕ) (h : Holding) (bytes : List ℕ) : Type 0 where
  pub start : IsStart j p bytes (Some h)
  pub back : IsGivenBack j p bytes h
  pub restart : (n : ℕ) → length bytes ≤ most_body (part_of j p) (command.Restart n)
  pub recover : (n : ℕ) → length bytes ≤ most_body (part_of j p) (command.Recover n)

-- so it is of what a node of the partition keeps
abbrev pub KeptIsTaken : Type 0
KeptIsTaken = (j : Job) (p : ℕ) (h : Holding) (bytes : List ℕ) → IsHeldBy j p h →
    KeepsContent j h bytes → IsTakenBack j p h bytes
