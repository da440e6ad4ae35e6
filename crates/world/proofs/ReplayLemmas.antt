-- A replay whose input was read.
use Rattle.std.proofs.Common.{◌≡◌, ℕ, List, Option, refl, inr}
use Rattle.ball_model.specs.declared.world.Event.{Event}
use Rattle.ball_model.specs.Input.{Network}
use Rattle.ball_model.specs.Job.{Job}
use Rattle.ball_model.specs.RunText.{ArePlain, plan_over}
use Rattle.ball_model.specs.World.{World, start_world}
use Rattle.ball_model.specs.WorldText.{AppendsReplay, HasCommands, IsReplayText, ReplaySettings, events_text, job_over}
use Rattle.world.specs.declared.tell.TellError.{TellError}
use Rattle.world.specs.declared.tell.TellError.TheVariants as untold
use Rattle.world.specs.Replay.{AppendsSomeReplay, BeginsReplay, BeginsSomeReplay, FailsOfReplay, IsReady, IsReplayPlanned, IsSomeReplayText, told_tell}
use Rattle.world.specs.Shows.{SeenWorld, Shows}
use Rattle.ball_model.specs.Streams.{TextWritten}
use Rattle.world.specs.Tell.{Stopped}

-- the text of the answers of a job over the network
abbrev pub text_over : ReplaySettings → Network → List Event → List ℕ
text_over s network events = events_text (job_over s.run.numbers network) (start_world (plan_over s.run.numbers network.graph) s.replicas) events

-- the script is one
pub ready-commands : (s : ReplaySettings) (edges : List ℕ) (list : Option (List ℕ)) (script : List ℕ) (events : List Event) (world : SeenWorld) → IsReady s edges list script events world → HasCommands s script
ready-commands s edges list script events world ready = record { replicas = ready.replicas; events = events; commands = ready.begun.commands }

-- and the text is one of some network
pub some-is : (s : ReplaySettings) (edges : List ℕ) (list : Option (List ℕ)) (script : List ℕ) (events : List Event) (world : SeenWorld) → (ready : IsReady s edges list script events world) →
    IsSomeReplayText s script (text_over s ready.network events)
some-is s edges list script events world ready = record {
  replicas = ready.replicas;
  events = events;
  commands = ready.begun.commands;
  network = ready.network;
  replay = record { planned = ready.begun.started.planned; text_is = refl };
}

-- which is that of the input, where it is plain
pub replay-is : (s : ReplaySettings) (edges : List ℕ) (list : Option (List ℕ)) (script : List ℕ) (events : List Event) (world : SeenWorld) → (ready : IsReady s edges list script events world) → ArePlain edges list →
    IsReplayText s edges list script (text_over s ready.network events)
replay-is s edges list script events world ready plain = record {
  replicas = ready.replicas;
  events = events;
  commands = ready.begun.commands;
  network = ready.network;
  read = ready.read plain;
  replay = record { planned = ready.begun.started.planned; text_is = refl };
}

-- what is said of all jobs and worlds that are shown holds of the start of this one
told : (P : List ℕ → Type 0) (s : ReplaySettings) (edges : List ℕ) (list : Option (List ℕ)) (script : List ℕ) (events : List Event) (world : SeenWorld) → (ready : IsReady s edges list script events world) →
    ((j : Job) (w : World) → Shows j w world → P (events_text j w events)) → P (text_over s ready.network events)
told P s edges list script events world ready all = all (job_over s.run.numbers ready.network) (start_world (plan_over s.run.numbers ready.network.graph) s.replicas) ready.begun.started.shows

-- the text of all events was written
pub told-some : {W : Type 0} (contents : W → Option (List ℕ)) (failed : W → ℕ) (a b : W) (s : ReplaySettings) (edges : List ℕ) (list : Option (List ℕ)) (script : List ℕ) (events : List Event) (world : SeenWorld) →
    IsReady s edges list script events world → ((j : Job) (w : World) → Shows j w world → TextWritten contents failed a b (events_text j w events)) →
    AppendsSomeReplay s script (contents a) (contents b)
told-some contents failed a b s edges list script events world ready all = record {
  text = text_over s ready.network events;
  replay = some-is s edges list script events world ready;
  appended = (told (TextWritten contents failed a b) s edges list script events world ready all).appended;
}

pub told-appends : {W : Type 0} (contents : W → Option (List ℕ)) (failed : W → ℕ) (a b : W) (s : ReplaySettings) (edges : List ℕ) (list : Option (List ℕ)) (script : List ℕ) (events : List Event) (world : SeenWorld) →
    IsReady s edges list script events world → ((j : Job) (w : World) → Shows j w world → TextWritten contents failed a b (events_text j w events)) → ArePlain edges list →
    AppendsReplay s edges list script (contents a) (contents b)
told-appends contents failed a b s edges list script events world ready all plain = record {
  text = text_over s ready.network events;
  replay = replay-is s edges list script events world ready plain;
  appended = (told (TextWritten contents failed a b) s edges list script events world ready all).appended;
}

-- and no call of the writer failed
pub told-counted : {W : Type 0} (contents : W → Option (List ℕ)) (failed : W → ℕ) (a b : W) (s : ReplaySettings) (edges : List ℕ) (list : Option (List ℕ)) (script : List ℕ) (events : List Event) (world : SeenWorld) →
    IsReady s edges list script events world → ((j : Job) (w : World) → Shows j w world → TextWritten contents failed a b (events_text j w events)) → failed b ≡ failed a
told-counted contents failed a b s edges list script events world ready all = (told (TextWritten contents failed a b) s edges list script events world ready all).counted

-- a beginning of them was
pub told-begins-some : {W : Type 0} (contents : W → Option (List ℕ)) (failed : W → ℕ) (a b : W) (s : ReplaySettings) (edges : List ℕ) (list : Option (List ℕ)) (script : List ℕ) (events : List Event) (world : SeenWorld) (f : TellError) →
    IsReady s edges list script events world → ((j : Job) (w : World) → Shows j w world → Stopped contents failed a b (events_text j w events) f) →
    BeginsSomeReplay s script (contents a) (contents b)
told-begins-some contents failed a b s edges list script events world f ready all = record {
  text = text_over s ready.network events;
  replay = some-is s edges list script events world ready;
  begun = (told (λ text. Stopped contents failed a b text f) s edges list script events world ready all).begun;
}

pub told-begins : {W : Type 0} (contents : W → Option (List ℕ)) (failed : W → ℕ) (a b : W) (s : ReplaySettings) (edges : List ℕ) (list : Option (List ℕ)) (script : List ℕ) (events : List Event) (world : SeenWorld) (f : TellError) →
    IsReady s edges list script events world → ((j : Job) (w : World) → Shows j w world → Stopped contents failed a b (events_text j w events) f) → ArePlain edges list →
    BeginsReplay s edges list script (contents a) (contents b)
told-begins contents failed a b s edges list script events world f ready all plain = record {
  text = text_over s ready.network events;
  replay = replay-is s edges list script events world ready plain;
  begun = (told (λ text. Stopped contents failed a b text f) s edges list script events world ready all).begun;
}

-- the input passed all checks, where it is plain
pub ready-planned : (s : ReplaySettings) (edges : List ℕ) (list : Option (List ℕ)) (script : List ℕ) (events : List Event) (world : SeenWorld) → IsReady s edges list script events world → ArePlain edges list →
    IsReplayPlanned s edges list script
ready-planned s edges list script events world ready plain = record {
  commands = ready-commands s edges list script events world ready;
  network = ready.network;
  read = ready.read plain;
  planned = ready.begun.started.planned;
}

pub told-fails : {W : Type 0} (contents : W → Option (List ℕ)) (failed : W → ℕ) (a b : W) (s : ReplaySettings) (edges : List ℕ) (list : Option (List ℕ)) (script : List ℕ) (events : List Event) (world : SeenWorld) (f : TellError) →
    IsReady s edges list script events world → ((j : Job) (w : World) → Shows j w world → Stopped contents failed a b (events_text j w events) f) →
    FailsOfReplay s edges list script (contents a) (contents b) (failed a) (failed b) (told_tell f)
told-fails contents failed a b s edges list script events world untold.Memory ready all = record {
  before = ready-commands s edges list script events world ready;
  of_edges = ready.listed;
  refused = ready-planned s edges list script events world ready;
  no_read = λ is. absurd (cc);
  write = λ is. absurd (cc);
  counted = λ other. (told (λ text. Stopped contents failed a b text untold.Memory) s edges list script events world ready all).counted (λ is. absurd (cc));
  untouched = λ other more. absurd (other refl);
  begun = λ plain is. absurd (cc);
  memory = λ plain is. inr (told-begins contents failed a b s edges list script events world untold.Memory ready all plain);
  some_begun = λ is. absurd (cc);
  some_memory = λ is. inr (told-begins-some contents failed a b s edges list script events world untold.Memory ready all);
}
told-fails contents failed a b s edges list script events world untold.Write ready all = record {
  before = ready-commands s edges list script events world ready;
  of_edges = ready.listed;
  refused = λ plain. (text_over s ready.network events, replay-is s edges list script events world ready plain);
  no_read = λ is. absurd (cc);
  write = λ is. (told (λ text. Stopped contents failed a b text untold.Write) s edges list script events world ready all).failed_one refl;
  counted = λ other. absurd (other refl);
  untouched = λ other more. absurd (more refl);
  begun = λ plain is. told-begins contents failed a b s edges list script events world untold.Write ready all plain;
  memory = λ plain is. absurd (cc);
  some_begun = λ is. told-begins-some contents failed a b s edges list script events world untold.Write ready all;
  some_memory = λ is. absurd (cc);
}
