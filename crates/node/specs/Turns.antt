-- What a node says to a command, and how it is written.
use Rattle.std.specs.Prelude.{◌≡◌, ℕ, List, [], ◌∷◌, codes, decimal, max, Result, Ok, Err, IsErr}
use Rattle.ball_model.specs.declared.names.MergeError.{MergeError}
use Rattle.ball_model.specs.declared.names.MergeError.TheVariants as unmerged
use Rattle.batches.specs.declared.error.BatchError.{BatchError}
use Rattle.batches.specs.declared.error.BatchError.TheVariants as no_batch
use Rattle.checkpoint.specs.declared.error.KeepError.{KeepError}
use Rattle.checkpoint.specs.declared.error.KeepError.TheVariants as no_checkpoint
use Rattle.checkpoint.specs.Reading.{IsReplicaSpelling, greatest_batch, most_checkpoint_bytes}
use Rattle.ball_model.specs.declared.world.Answer.{Answer}
use Rattle.ball_model.specs.declared.world.Answer.TheVariants as answer
use Rattle.ball_model.specs.Batches.{BatchValue}
use Rattle.ball_model.specs.Content.{is_new}
use Rattle.ball_model.specs.Held.{IsHeldBy}
use Rattle.ball_model.specs.Job.{Job, PartValue}
use Rattle.ball_model.specs.Join.{Holding}
use Rattle.ball_model.specs.State.{SameShown, State, further}
use Rattle.ball_model.specs.WorldText.{number_line, taken_line, unclosed_line, unmerged_line, untaken_line, words_line}
use Rattle.replica.specs.Change.{HoldsAfter, take_answer}
use Rattle.replica.specs.Merged.{HoldsOfBoth, ShowsAs}
use Rattle.replica.specs.Saved.{IsKeepable}
use Rattle.world.specs.Shows.{Has}
use Rattle.node.specs.declared.command.Command.{Command}
use Rattle.node.specs.declared.command.Command.TheVariants as command
use Rattle.node.specs.declared.session.Reply.{Reply}
use Rattle.node.specs.declared.session.Reply.TheVariants as reply

-- the most bytes that follow a command, of the part of a job
abbrev pub most_body : PartValue → Command → ℕ
most_body part (command.Send q) = 0
most_body part (command.Deliver n) = greatest_batch part.plan
most_body part command.Close = 0
most_body part command.Keep = 0
most_body part (command.Restart n) = most_checkpoint_bytes part part.plan.limit
most_body part (command.Recover n) = most_checkpoint_bytes part part.plan.limit
most_body part command.Show = 0
most_body part command.Totals = 0
most_body part command.Figures = 0

-- it is a replica of partition p that has that holding
pub record Holds (j : Job) (p : ℕ) (h : Holding) (v : State) : Type 0 where
  pub held : IsHeldBy j p h
  pub has : Has j h v

-- that is said, and the replica has that holding
pub record TurnsTo (j : Job) (p : ℕ) (a : Answer) (h : Holding) (v : State)
    (r : Reply) : Type 0 where
  pub says : r ≡ reply.Answered a
  pub holds : Holds j p h v

-- a replica v was brought the batch, true or not, and is w: it shows what it showed, and holds what it held, and the
-- batch's name if that was new
pub record IsBrought (b : BatchValue) (v w : State) : Type 0 where
  pub shown : SameShown w v
  pub names : HoldsAfter (is_new (take_answer v b)) b.name v w

-- a replica v took over what a replica o has, and is w: it is at the further superstep, shows what the further one shows,
-- and holds what either holds of that superstep and later ones
pub record TakesBoth (v o w : State) : Type 0 where
  pub superstep : w.superstep ≡ max v.superstep o.superstep
  pub names : HoldsOfBoth v o w
  pub shown : ShowsAs w (further v o)

-- it took over what a replica of its part has, of which the bytes are the spelling: whether that stands for a job or not
pub record TakesSpelled (bytes : List ℕ) (v w : State) : Type 0 where
  pub other : State
  pub keepable : IsKeepable other
  pub part_is : other.part ≡ v.part
  pub spells : IsReplicaSpelling other bytes
  pub takes : TakesBoth v other w

-- such a replica was made, or memory was refused
abbrev pub GivesOrWants : (State → Type 0) → Result State KeepError → Type 0
GivesOrWants P (Ok v) = P v
GivesOrWants P (Err e) = e ≡ no_checkpoint.Memory

-- what is said of a merge, after which the replica is at superstep t, unless memory was refused
abbrev pub SaysMerged : {E : Type 0} → Result (Unit {0}) MergeError → ℕ → Result Reply E → Type 0
SaysMerged (Ok u) t said = said ≡ Ok (reply.Answered (answer.Merged t))
SaysMerged (Err unmerged.Memory) t said = IsErr said
SaysMerged (Err e) t said = said ≡ Ok (reply.Answered (answer.NotMerged e))

-- what was found in bytes that are no batch
abbrev pub batch_word : BatchError → List ℕ
batch_word no_batch.Short = codes "short"
batch_word no_batch.Magic = codes "magic"
batch_word no_batch.Version = codes "version"
batch_word no_batch.Size = codes "size"
batch_word no_batch.Name = codes "name"
batch_word no_batch.Count = codes "count"
batch_word no_batch.Trailing = codes "trailing"
batch_word no_batch.Vertex = codes "vertex"
batch_word no_batch.Order = codes "order"
batch_word no_batch.Rank = codes "rank"
batch_word no_batch.Memory = codes "memory"

-- what was found in bytes that are no checkpoint
abbrev pub checkpoint_word : KeepError → List ℕ
checkpoint_word no_checkpoint.Write = codes "write"
checkpoint_word no_checkpoint.Read = codes "read"
checkpoint_word no_checkpoint.Short = codes "short"
checkpoint_word no_checkpoint.Magic = codes "magic"
checkpoint_word no_checkpoint.Version = codes "version"
checkpoint_word no_checkpoint.OtherJob = codes "other-job"
checkpoint_word no_checkpoint.OtherPart = codes "other-part"
checkpoint_word no_checkpoint.Shape = codes "shape"
checkpoint_word no_checkpoint.Memory = codes "memory"
checkpoint_word no_checkpoint.Digest = codes "digest"
checkpoint_word no_checkpoint.Trailing = codes "trailing"

-- the line of an answer
abbrev pub said_text : Answer → List ℕ
said_text (answer.Sent m name changed rows) =
    words_line
    (codes "sent" ∷ decimal m ∷ decimal name.superstep ∷ decimal name.source
    ∷ decimal name.target ∷ decimal changed ∷ decimal rows ∷ [])
said_text (answer.Took t) = taken_line t
said_text (answer.NotTaken r) = untaken_line r
said_text (answer.Closed t) = number_line (codes "closed") t
said_text (answer.NotClosed r) = unclosed_line r
said_text (answer.Kept t) = number_line (codes "kept") t
said_text (answer.Restarted t) = number_line (codes "restarted") t
said_text (answer.Copied c t) = words_line (codes "copied" ∷ decimal c ∷ decimal t ∷ [])
said_text (answer.Merged t) = number_line (codes "merged") t
said_text (answer.NotMerged r) = unmerged_line r
said_text answer.Shown = []

-- the line of what is said
abbrev pub reply_text : Reply → List ℕ
reply_text (reply.Answered a) = said_text a
reply_text (reply.NoBatch e) = words_line (codes "refused" ∷ batch_word e ∷ [])
reply_text (reply.NoCheckpoint e) = words_line (codes "refused" ∷ checkpoint_word e ∷ [])
