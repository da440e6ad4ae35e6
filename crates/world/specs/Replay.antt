-- A replay: what is asked of it, and what its refusals say of the input.
use Rattle.std.specs.Prelude.{◌≡◌, ◌≢◌, ⊤, ℕ, false, List, Option, Ok, Err, IsOk, ◌⊎◌}
use Rattle.std.specs.Io.KnownBytes.{Appends, Keeps}
use Rattle.ball_model.specs.declared.world.Event.{Event}
use Rattle.ball_model.specs.Input.{IsPlain, Network}
use Rattle.ball_model.specs.RunText.{ArePlain, AreRead, HasPlan, Numbers, network_in, plan_asked, plan_over}
use Rattle.ball_model.specs.Streams.{RisesByOne}
use Rattle.ball_model.specs.World.{start_world}
use Rattle.ball_model.specs.WorldText.{AreReplicas, HasCommands, IsReplayPlanFault, IsReplayText, IsReplayTextOf, IsScriptFault, ReplaySettings, job_over, script_of}
use Rattle.graph.specs.Counting.{IsListRefusal}
use Rattle.job.specs.Job.{settings_of}
use Rattle.edgelist.specs.Reading.{Refuses}
use Rattle.job.specs.declared.job.JobOptions.{JobOptions}
use Rattle.job.specs.declared.job.NetworkError.{NetworkError}
use Rattle.job.specs.declared.job.NetworkError.TheVariants as unread
use Rattle.edgelist.specs.declared.limits.EdgeError.TheVariants as edge_fault
use Rattle.world.specs.declared.replay.ReplayOptions.{ReplayOptions}
use Rattle.world.specs.declared.replay.ReplayError.{ReplayError}
use Rattle.world.specs.declared.replay.ReplayError.TheVariants as fault
use Rattle.world.specs.declared.tell.TellError.{TellError}
use Rattle.world.specs.declared.tell.TellError.TheVariants as untold
use Rattle.world.specs.Shows.{SeenWorld, Shows}
use Rattle.world.specs.Tell.{BeginsText}

-- ---- what is asked

-- the job, whose edge list is no large one
abbrev pub replay_job : ReplayOptions → JobOptions
replay_job o = record {
  log2m = o.log2m;
  seed = o.seed;
  parts = o.parts;
  limit = o.limit;
  estimate = o.estimate;
  delimiter = o.delimiter;
  large = false;
  threads = 0;
}

abbrev pub replay_of : ReplayOptions → ReplaySettings
replay_of o = record { run = settings_of (replay_job o); replicas = o.replicas }

-- ---- what errors are answered as

abbrev pub told_network : NetworkError → ReplayError
told_network (unread.Edges e) = fault.Edges e
told_network (unread.Counted e) = fault.Counted e

abbrev pub told_tell : TellError → ReplayError
told_tell untold.Memory = fault.Memory
told_tell untold.Write = fault.Write

-- ---- what refusals say

-- what a refusal says of the options and the script, the first of the checks, which take no memory
abbrev pub RefusesCommands : ReplaySettings → List ℕ → ReplayError → Type 0
RefusesCommands s script fault.Options = AreReplicas s.replicas → ⊥
RefusesCommands s script (fault.Script n) = IsScriptFault s script n
RefusesCommands s script (fault.Edges e) = ⊥
RefusesCommands s script (fault.Counted e) = ⊥
RefusesCommands s script (fault.Plan e) = ⊥
RefusesCommands s script fault.Memory = ⊥
RefusesCommands s script fault.Write = ⊥

-- there is such a plan, and that is the start of the world of its job
pub record IsStarted (n : Numbers) (replicas : ℕ) (network : Network)
    (world : SeenWorld) : Type 0 where
  pub planned : HasPlan n network
  pub shows : Shows (job_over n network) (start_world (plan_over n network.graph) replicas) world

-- the script says these events, and the world is the start of that of the network's job
pub record IsBegun (s : ReplaySettings) (network : Network) (script : List ℕ) (events : List Event)
    (world : SeenWorld) : Type 0 where
  pub commands : script_of script ≡ Ok events
  pub started : IsStarted s.run.numbers s.replicas network world

-- what a refusal says of a network that was read
abbrev pub RefusesStart : Numbers → Network → ReplayError → Type 0
RefusesStart n network fault.Options = ⊥
RefusesStart n network (fault.Script line) = ⊥
RefusesStart n network (fault.Edges e) = ⊥
RefusesStart n network (fault.Counted e) = ⊥
RefusesStart n network (fault.Plan e) = plan_asked n network.graph ≡ Err e
RefusesStart n network fault.Memory = HasPlan n network
RefusesStart n network fault.Write = ⊥

-- the script is one, and the edge list and the list say a network, over which there is such a plan
pub record IsReplayPlanned (s : ReplaySettings) (edges : List ℕ) (list : Option (List ℕ))
    (script : List ℕ) : Type 0 where
  pub commands : HasCommands s script
  pub network : Network
  pub read : AreRead s.run edges list network
  pub planned : HasPlan s.run.numbers network

-- what a refusal says of the whole input: each comes only if all checks before it passed, and a failed write only of a
-- replay that has a text
abbrev pub IsReplayRefusal : ReplaySettings → List ℕ → Option (List ℕ) → List ℕ →
    ReplayError → Type 0
IsReplayRefusal s edges list script fault.Options = AreReplicas s.replicas → ⊥
IsReplayRefusal s edges list script (fault.Script n) = IsScriptFault s script n
IsReplayRefusal s edges list script (fault.Edges e) =
    HasCommands s script × Refuses (network_in s.run edges) e
IsReplayRefusal s edges list script (fault.Counted e) =
    HasCommands s script × IsListRefusal s.run edges list e
IsReplayRefusal s edges list script (fault.Plan e) = IsReplayPlanFault s edges list script e
IsReplayRefusal s edges list script fault.Memory = IsReplayPlanned s edges list script
IsReplayRefusal s edges list script fault.Write =
    (text : List ℕ) × IsReplayText s edges list script text

-- what it says of the options and the script alone, whatever the edge list is
abbrev pub RefusesBefore : ReplaySettings → List ℕ → ReplayError → Type 0
RefusesBefore s script fault.Options = AreReplicas s.replicas → ⊥
RefusesBefore s script (fault.Script n) = IsScriptFault s script n
RefusesBefore s script (fault.Edges e) = HasCommands s script
RefusesBefore s script (fault.Counted e) = HasCommands s script
RefusesBefore s script (fault.Plan e) = HasCommands s script
RefusesBefore s script fault.Memory = HasCommands s script
RefusesBefore s script fault.Write = HasCommands s script

-- what it says of the edge list, whatever the list of counted vertices is
abbrev pub RefusesEdges : ReplaySettings → List ℕ → ReplayError → Type 0
RefusesEdges s edges fault.Options = ⊤
RefusesEdges s edges (fault.Script n) = ⊤
RefusesEdges s edges (fault.Edges e) = Refuses (network_in s.run edges) e
RefusesEdges s edges (fault.Counted e) = IsOk (network_in s.run edges)
RefusesEdges s edges (fault.Plan e) = IsOk (network_in s.run edges)
RefusesEdges s edges fault.Memory = IsOk (network_in s.run edges)
RefusesEdges s edges fault.Write = IsOk (network_in s.run edges)

-- a beginning of the answers was appended
pub record BeginsReplay (s : ReplaySettings) (edges : List ℕ) (list : Option (List ℕ))
    (script : List ℕ) (old new : Option (List ℕ)) : Type 0 where
  pub text : List ℕ
  pub replay : IsReplayText s edges list script text
  pub begun : BeginsText old new text

-- the text is what the events of the script answer from the start of the world of such a job, over some network
pub record IsSomeReplayText (s : ReplaySettings) (script text : List ℕ) : Type 0 where
  pub replicas : AreReplicas s.replicas
  pub events : List Event
  pub commands : script_of script ≡ Ok events
  pub network : Network
  pub replay : IsReplayTextOf s.run.numbers s.replicas network events text

-- such a text was appended, and nothing else
pub record AppendsSomeReplay (s : ReplaySettings) (script : List ℕ) (old new : Option (List ℕ)) :
    Type 0 where
  pub text : List ℕ
  pub replay : IsSomeReplayText s script text
  pub appended : Appends old new text

-- a beginning of such a text was appended
pub record BeginsSomeReplay (s : ReplaySettings) (script : List ℕ) (old new : Option (List ℕ)) :
    Type 0 where
  pub text : List ℕ
  pub replay : IsSomeReplayText s script text
  pub begun : BeginsText old new text

-- the options fit, and it is begun over a network: that which the edge list and the list say, if both are plain
pub record IsReady (s : ReplaySettings) (edges : List ℕ) (list : Option (List ℕ))
    (script : List ℕ) (events : List Event) (world : SeenWorld) : Type 0 where
  pub replicas : AreReplicas s.replicas
  pub network : Network
  pub begun : IsBegun s network script events world
  pub listed : IsPlain edges → IsOk (network_in s.run edges)
  pub read : ArePlain edges list → AreRead s.run edges list network

-- a refusal before anything is written
pub record IsEarly (s : ReplaySettings) (edges : List ℕ) (list : Option (List ℕ))
    (script : List ℕ) (e : ReplayError) : Type 0 where
  pub before : RefusesBefore s script e
  pub no_read : e ≢ fault.Edges edge_fault.Read
  pub no_write : e ≢ fault.Write
  pub of_edges : IsPlain edges → RefusesEdges s edges e
  pub refused : ArePlain edges list → IsReplayRefusal s edges list script e

-- what a replay that failed says of the input, and what it leaves: nothing was written, but for want of memory and for
-- a failed write, after which a beginning of answers is written; the edge list is never unread; and a write failed if
-- that is said, and only then
pub record FailsOfReplay (s : ReplaySettings) (edges : List ℕ) (list : Option (List ℕ))
    (script : List ℕ) (old new : Option (List ℕ)) (failed_old failed_new : ℕ) (e : ReplayError) :
    Type 0 where
  pub before : RefusesBefore s script e
  pub of_edges : IsPlain edges → RefusesEdges s edges e
  pub refused : ArePlain edges list → IsReplayRefusal s edges list script e
  pub no_read : e ≢ fault.Edges edge_fault.Read
  pub write : e ≡ fault.Write → RisesByOne failed_old failed_new
  pub counted : e ≢ fault.Write → failed_new ≡ failed_old
  pub untouched : e ≢ fault.Memory → e ≢ fault.Write → Keeps old new
  pub begun : ArePlain edges list → e ≡ fault.Write →
      BeginsReplay s edges list script old new
  pub memory : ArePlain edges list → e ≡ fault.Memory →
      Keeps old new ⊎ BeginsReplay s edges list script old new
  pub some_begun : e ≡ fault.Write → BeginsSomeReplay s script old new
  pub some_memory : e ≡ fault.Memory → Keeps old new ⊎ BeginsSomeReplay s script old new
