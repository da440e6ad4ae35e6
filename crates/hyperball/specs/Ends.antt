-- How what a command line asks for ends: it is done, or it fails for a reason.
use Rattle.std.specs.Prelude.{◌≡◌, ◌≢◌, ◌⊎◌, ◌≤◌, ℕ, List, [], ◌∷◌}
use Rattle.std.specs.Io.KnownBytes.{Keeps}
use Rattle.clap.specs.Words.{Text}
use Rattle.clap.specs.declared.error.kind.ErrorKind.{ErrorKind}
use Rattle.clap.specs.declared.error.kind.ErrorKind.TheVariants as kind
use Rattle.ball_model.specs.Streams.{RisesByOne}
use Rattle.job.specs.Job.{settings_of}
use Rattle.hyperball.specs.Nodes.{AsksGather, AsksNode}
use Rattle.hyperball.specs.Refusals.{DoesJob, FailsJob}
use Rattle.hyperball.specs.Replaying.{BeginsSome, DoesReplay, FailsReplay}
use Rattle.hyperball.specs.Streams.{AppendsSome, KeptOrFailed, Reads, Untouched, Unread, Unwritten, Writes}
use Rattle.hyperball.specs.Whole.{ReadsFew}
use Rattle.hyperball.specs.Subcommands.{ReadsAll, Says, SaysOrders}
use Rattle.hyperball.specs.Words.{AreMistakes, HasFaults, HasNoLists, HasOrders, IsMistake}
use Rattle.hyperball.specs.declared.cli.Subcommand.{Subcommand}
use Rattle.hyperball.specs.declared.cli.Subcommand.TheVariants as subcommand
use Rattle.hyperball.specs.declared.cli.WordsError.{WordsError}
use Rattle.hyperball.specs.declared.cli.WordsError.TheVariants as words_error
use Rattle.hyperball.specs.declared.cli.gather.GatherArgs.{GatherArgs}
use Rattle.hyperball.specs.declared.cli.one_node.NodeArgs.{NodeArgs}
use Rattle.hyperball.specs.declared.cli.orders.OrdersError.{OrdersError}
use Rattle.hyperball.specs.declared.cli.orders.OrdersError.TheVariants as orders_error
use Rattle.hyperball.specs.declared.cli.run.RunArgs.{RunArgs}
use Rattle.hyperball.specs.declared.fault.Fault.{Fault}
use Rattle.hyperball.specs.declared.fault.Fault.TheVariants as fault
use Rattle.node.specs.Gathering.{GathersJob}
use Rattle.node.specs.NoNode.{HasNoNode, IsNoNode}
use Rattle.node.specs.NoReport.{HasNoReport, IsUnwritten, WritesFrontOfJob}
use Rattle.node.specs.Serving.{IsOfMachine, ServesNode, StopsNode, WantsNode}
use Rattle.node.specs.declared.error.GatherError.{GatherError}
use Rattle.node.specs.declared.error.GatherError.TheVariants as gather
use Rattle.job.specs.declared.error.InputError.TheVariants as job
use Rattle.node.specs.declared.error.ServeError.{ServeError}
use Rattle.node.specs.declared.error.ServeError.TheVariants as answer
use Rattle.node.specs.declared.error.ServeNodeError.{ServeNodeError}
use Rattle.node.specs.declared.error.ServeNodeError.TheVariants as node

-- ---- done
-- the node has answered its commands, and no call failed
pub record DoesNode (v : NodeArgs) (r : Reads) (w : Writes) : Type 0 where
  pub served : ServesNode (settings_of v.job.options) v.job.counted v.part
      r.bytes.old r.bytes.new w.contents.old w.contents.new
  pub read : r.failed.new ≡ r.failed.old
  pub written : w.failed.new ≡ w.failed.old

-- the report of the checkpoints was appended, and no call failed
pub record DoesGather (v : GatherArgs) (r : Reads) (w : Writes) : Type 0 where
  pub gathered : GathersJob (settings_of v.job.options) v.job.counted
      r.bytes.old r.bytes.new w.contents.old w.contents.new
  pub read : r.failed.new ≡ r.failed.old
  pub written : w.failed.new ≡ w.failed.old

-- what was asked for is done
abbrev pub Does : Subcommand → Reads → Writes → Type 0
Does (subcommand.Run v) r w = DoesJob v.options v.counted r w
Does (subcommand.Replay v) r w = DoesReplay v r w
Does (subcommand.Node v) r w = DoesNode v r w
Does (subcommand.Gather v) r w = DoesGather v r w

-- ---- failed
-- a run ends with this fault: before anything is read, or in its job
abbrev pub FailsRun : RunArgs → Reads → Writes → Fault → Type 0
FailsRun v r w fault.Gate = Untouched r w
FailsRun v r w fault.Random = Untouched r w
FailsRun v r w (fault.Input e) = FailsJob v.options v.counted r w (fault.Input e)
FailsRun v r w (fault.Lacks missing) = FailsJob v.options v.counted r w (fault.Lacks missing)
FailsRun v r w (fault.Run e) = FailsJob v.options v.counted r w (fault.Run e)
FailsRun v r w f = ⊥

-- a node ends with this fault: which it is of the job or of its requests, what was answered before, and which calls failed
pub record FailsNode (v : NodeArgs) (r : Reads) (w : Writes) (f : ServeNodeError) : Type 0 where
  pub jobless : IsNoNode f →
      HasNoNode (settings_of v.job.options) v.job.counted v.part r.bytes.old r.bytes.new f
      × Keeps w.contents.old w.contents.new
  pub stopped : (e : ServeError) → f ≡ node.Serve e → (IsOfMachine e → ⊥) →
      StopsNode (settings_of v.job.options) v.job.counted v.part e r.bytes.old r.bytes.new
      w.contents.old w.contents.new
  pub wanting : f ≡ node.Serve answer.Memory →
      WantsNode (settings_of v.job.options) v.job.counted v.part r.bytes.old r.bytes.new
  pub read : f ≡ node.Serve answer.Read → RisesByOne r.failed.old r.failed.new
  pub read_job : f ≡ node.Job job.Read → RisesByOne r.failed.old r.failed.new
  pub counted : f ≢ node.Serve answer.Read → f ≢ node.Job job.Read → r.failed.new ≡ r.failed.old
  pub write : f ≡ node.Serve answer.Write → RisesByOne w.failed.old w.failed.new
  pub written : f ≢ node.Serve answer.Write → w.failed.new ≡ w.failed.old

-- a gathering ends with this fault: which it is, what was written before, and which calls failed
pub record FailsGather (v : GatherArgs) (r : Reads) (w : Writes) (f : GatherError) : Type 0 where
  pub refused : HasNoReport (settings_of v.job.options) v.job.counted r.bytes.old r.bytes.new f
  pub kept : IsUnwritten f → Keeps w.contents.old w.contents.new
  pub front : WritesFrontOfJob (settings_of v.job.options) v.job.counted
      r.bytes.old r.bytes.new w.contents.old w.contents.new
  pub read : f ≡ gather.Read → RisesByOne r.failed.old r.failed.new
  pub read_job : f ≡ gather.Job job.Read → RisesByOne r.failed.old r.failed.new
  pub counted : f ≢ gather.Read → f ≢ gather.Job job.Read → r.failed.new ≡ r.failed.old
  pub write : f ≡ gather.Write → RisesByOne w.failed.old w.failed.new
  pub written : f ≢ gather.Write → w.failed.new ≡ w.failed.old

-- a subcommand fails with this fault: there are no random words, and nothing was read or written; or it is its own
abbrev pub FailsBy : Subcommand → Reads → Writes → Fault → Type 0
FailsBy (subcommand.Run v) r w f = FailsRun v r w f
FailsBy (subcommand.Replay v) r w fault.Random = Untouched r w
FailsBy (subcommand.Replay v) r w f = FailsReplay v r w f
FailsBy (subcommand.Node v) r w fault.Random = Untouched r w
FailsBy (subcommand.Node v) r w (fault.Node f) = FailsNode v r w f
FailsBy (subcommand.Node v) r w f = ⊥
FailsBy (subcommand.Gather v) r w fault.Random = Untouched r w
FailsBy (subcommand.Gather v) r w (fault.Gather f) = FailsGather v r w f
FailsBy (subcommand.Gather v) r w f = ⊥

-- it ends with some fault
pub record FailsSo {F : Type 0} (Fails : F → Type 0) : Type 0 where
  pub fault : F
  pub due : Fails fault

-- a subcommand fails for a reason of its own
abbrev pub FailsAlone : Subcommand → Reads → Writes → Type 0
FailsAlone (subcommand.Run v) r w = FailsSo (FailsRun v r w)
FailsAlone (subcommand.Replay v) r w = FailsSo (FailsReplay v r w)
FailsAlone (subcommand.Node v) r w = FailsSo (FailsNode v r w)
FailsAlone (subcommand.Gather v) r w = FailsSo (FailsGather v r w)

-- a subcommand fails: there are no random words, or it has a reason of its own
abbrev pub FailsSubcommand : Subcommand → Reads → Writes → Type 0
FailsSubcommand x r w = Untouched r w ⊎ FailsAlone x r w

-- what these words ask for fails, with the lists of orders in them
pub record Fails (words : List Text) (asked : Subcommand) (r : Reads) (w : Writes) : Type 0 where
  pub found : Subcommand
  pub says : Says asked found
  pub orders : SaysOrders words found
  pub fails : FailsSubcommand found r w

-- ---- ends
-- words that ask for this end with this status: 0 if it is done, and 1 from a fault, or before it begins, and then
-- nothing was read or written
pub record Ends (words : List Text) (asked : Subcommand) (status : ℕ) (r : Reads) (w : Writes) :
    Type 0 where
  pub done : status ≡ 0 → Does asked r w
  pub fault : status ≡ 1 → Untouched r w ⊎ Fails words asked r w
  pub few : ReadsAll asked → ReadsFew r.bytes.old r.bytes.new

-- words that are refused for this kind end with this status: 1 if memory is refused, 0 or 1 if help or the version is
-- asked for, and 2 of a mistake
pub record EndsOfKind (k : ErrorKind) (status : ℕ) : Type 0 where
  pub memory : k ≡ kind.OutOfMemory → status ≡ 1
  pub help : k ≡ kind.DisplayHelp → (status ≡ 0) ⊎ (status ≡ 1)
  pub version : k ≡ kind.DisplayVersion → (status ≡ 0) ⊎ (status ≡ 1)
  pub mistake : IsMistake k → status ≡ 2

-- lists of orders that are refused end with this status
abbrev pub EndsOrders : OrdersError → ℕ → Type 0
EndsOrders orders_error.Memory status = status ≡ 1
EndsOrders orders_error.Form status = status ≡ 2

-- words in which clap finds nothing wrong, and which are refused so, end with this status: clap had no memory, or lists
-- of orders are refused
abbrev pub EndsAccepted : WordsError → ℕ → Type 0
EndsAccepted (words_error.Clap e) status = status ≡ 1
EndsAccepted (words_error.Orders e) status = EndsOrders e status

-- what words that are refused leave: with 0 something is written, with 1 the writer has what it had or a call of it
-- failed, with 2 it has what it had, and they have no other status
pub record LeavesRefused (status : ℕ) (w : Writes) : Type 0 where
  pub most : status ≤ 2
  pub some : status ≡ 0 → AppendsSome w.contents.old w.contents.new
  pub fault : status ≡ 1 → KeptOrFailed w
  pub mistake : status ≡ 2 → Keeps w.contents.old w.contents.new

-- words in which clap finds these faults end with this status: mistakes with 2 or 1, and nothing is written; help and
-- the version with 0 or 1, and with 0 something is written
pub record EndsRefused (kinds : List ErrorKind) (status : ℕ) (w : Writes) : Type 0 where
  pub mistaken : AreMistakes kinds → (status ≡ 2) ⊎ (status ≡ 1)
  pub unwritten : AreMistakes kinds → Unwritten w
  pub help : kinds ≡ kind.DisplayHelp ∷ [] → (status ≡ 0) ⊎ (status ≡ 1)
  pub version : kinds ≡ kind.DisplayVersion ∷ [] → (status ≡ 0) ⊎ (status ≡ 1)
  pub some : kinds ≢ [] → status ≡ 0 → AppendsSome w.contents.old w.contents.new

-- words that end with status 2: nothing is read or written, and if clap accepts them a list of orders is not of its form
pub record EndsMistaken (words : List Text) (r : Reads) (w : Writes) : Type 0 where
  pub unread : Unread r
  pub kept : Keeps w.contents.old w.contents.new
  pub orders : HasFaults words [] → HasOrders words
  pub misspelt : HasFaults words [] → HasNoLists words

-- what status 1 leaves: the writer has what it had, or a call of it failed; or the words ask for a replay, of which it has
-- a beginning, or for a node or a gathering
abbrev pub LeavesFault : List Text → Reads → Writes → Type 0
LeavesFault words r w =
    KeptOrFailed w ⊎ (BeginsSome words r w ⊎ (AsksNode words ⊎ AsksGather words))
