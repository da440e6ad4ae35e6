-- Scripts: events of a world as lines of words, and the text of what they answer.
use Rattle.std.specs.Prelude.{◌≡◌, ℕ, ◌+◌, ◌-◌, ◌*◌, ◌/◌, ◌%◌, ◌^◌, ◌≤◌, ◌&&◌, nat_le, nat_lt, List, [], ◌∷◌, ◌++◌, map, Option, None, Some, option_map, Result, Ok, Err, if◌then◌else◌, codes, decimal}
use Rattle.std.specs.List.{flat_map}
use Rattle.std.specs.Str.{bytes_eq}
use Rattle.std.specs.Str.Lines.{lines}
use Rattle.std.specs.Io.KnownBytes.{Appends}
use Rattle.ball_model.specs.declared.names.BatchName.{BatchName}
use Rattle.ball_model.specs.declared.names.NodeId.{NodeId}
use Rattle.ball_model.specs.declared.names.Taken.{Taken}
use Rattle.ball_model.specs.declared.names.Taken.TheVariants as taken
use Rattle.ball_model.specs.declared.names.TakeError.{TakeError}
use Rattle.ball_model.specs.declared.names.TakeError.TheVariants as untaken
use Rattle.ball_model.specs.declared.names.CloseError.{CloseError}
use Rattle.ball_model.specs.declared.names.CloseError.TheVariants as waits
use Rattle.ball_model.specs.declared.names.MergeError.{MergeError}
use Rattle.ball_model.specs.declared.names.MergeError.TheVariants as unmerged
use Rattle.ball_model.specs.declared.names.Verdict.{Verdict}
use Rattle.ball_model.specs.declared.names.Verdict.TheVariants as verdict
use Rattle.ball_model.specs.declared.plan.PlanError.{PlanError}
use Rattle.ball_model.specs.declared.world.Event.{Event}
use Rattle.ball_model.specs.declared.world.Event.TheVariants as event
use Rattle.ball_model.specs.declared.world.Answer.{Answer}
use Rattle.ball_model.specs.declared.world.Answer.TheVariants as answer
use Rattle.ball_model.specs.declared.world.WorldError.{WorldError}
use Rattle.ball_model.specs.declared.world.WorldError.TheVariants as refusal
use Rattle.ball_model.specs.Counter.{ball_counter}
use Rattle.ball_model.specs.Figures.{TallyValue, fixed6_of}
use Rattle.ball_model.specs.Supersteps.{tally_at}
use Rattle.ball_model.specs.PlanValue.{mixing_of}
use Rattle.ball_model.specs.Job.{Job, job_of}
use Rattle.ball_model.specs.Content.{verdict_of}
use Rattle.ball_model.specs.Join.{Holding, content_in}
use Rattle.ball_model.specs.State.{own_vertices}
use Rattle.ball_model.specs.Input.{Network, fields, is_record}
use Rattle.ball_model.specs.RunText.{Numbers, Settings, plan_asked, plan_over, AreRead, IsPlanFault}
use Rattle.ball_model.specs.World.{World, Node, start_world, node_at, node_of, answer_of, after_event}

-- ---- scripts

-- the value of decimal digits that follow a value
unfoldable pub value_from : ℕ → List ℕ → ℕ
value_from v [] = v
value_from v (c ∷ word) = value_from (v * 10 + (c - 48)) word

-- the number that a word spells, which has at most 9 digits and is spelled as numbers are printed
unfoldable pub number_in : List ℕ → Option ℕ
number_in word =
    if nat_lt (value_from 0 word) (10 ^ 9) && bytes_eq word (decimal (value_from 0 word))
    then Some (value_from 0 word)
    else None

-- a number of at most that
abbrev pub at_most : ℕ → Option ℕ → Option ℕ
at_most greatest None = None
at_most greatest (Some n) = if nat_le n greatest then Some n else None

abbrev pub of_both : {A B C : Type 0} → (A → B → C) → Option A → Option B → Option C
of_both f (Some a) (Some b) = Some (f a b)
of_both f a b = None

-- the number of a partition, and of a replica
abbrev pub part_in : List ℕ → Option ℕ
part_in word = at_most 65535 (number_in word)

abbrev pub replica_in : List ℕ → Option ℕ
replica_in word = at_most 255 (number_in word)

abbrev pub node_from : List (List ℕ) → Option NodeId
node_from (p ∷ k ∷ []) =
    of_both (λ part replica. record { part = part; replica = replica }) (part_in p) (replica_in k)
node_from pieces = None

-- the node that a word names: its partition and its replica, with a point between
unfoldable pub node_in : List ℕ → Option NodeId
node_in word = node_from (fields 46 word)

-- a command of a node alone
abbrev pub one_command : List ℕ → Option NodeId → Option Event
one_command verb id =
    if bytes_eq verb (codes "close") then option_map event.Close id
    else if bytes_eq verb (codes "keep") then option_map event.Keep id
    else if bytes_eq verb (codes "restart") then option_map event.Restart id
    else if bytes_eq verb (codes "copy") then option_map event.Copy id
    else if bytes_eq verb (codes "show") then option_map event.Show id
    else None

-- a command of a node and a number
abbrev pub two_command : List ℕ → List ℕ → List ℕ → Option Event
two_command verb a b =
    if bytes_eq verb (codes "send") then of_both event.Send (node_in a) (part_in b)
    else if bytes_eq verb (codes "deliver") then of_both event.Deliver (number_in a) (node_in b)
    else if bytes_eq verb (codes "recover") then of_both event.Recover (node_in a) (number_in b)
    else None

-- the event that the words of a line command
unfoldable pub command_of : List (List ℕ) → Option Event
command_of (verb ∷ a ∷ []) = one_command verb (node_in a)
command_of (verb ∷ a ∷ b ∷ []) = two_command verb a b
command_of words = None

abbrev pub with_command : ℕ → Option Event → Result (List Event) ℕ → Result (List Event) ℕ
with_command number None later = Err number
with_command number (Some e) (Ok es) = Ok (e ∷ es)
with_command number (Some e) (Err line) = Err line

-- the events of lines, of which the first has that number, or the number of the first line that is no command; a line
-- that is empty or begins with # is skipped, and between words is one space
unfoldable pub events_from : ℕ → List (List ℕ) → Result (List Event) ℕ
events_from number [] = Ok []
events_from number (line ∷ rest) =
    if is_record line
    then with_command number (command_of (fields 32 line)) (events_from (number + 1) rest)
    else events_from (number + 1) rest

-- the events of a script, or the number of its first line that is no command, from 1 on
abbrev pub script_of : List ℕ → Result (List Event) ℕ
script_of text = events_from 1 (lines text)

-- ---- texts of answers

-- further words, each after a space, and the LF that ends a line
abbrev pub more_words : List (List ℕ) → List ℕ
more_words [] = 10 ∷ []
more_words (word ∷ words) = 32 ∷ (word ++ more_words words)

-- a line of at least one word
abbrev pub words_line : List (List ℕ) → List ℕ
words_line [] = []
words_line (word ∷ words) = word ++ more_words words

-- one word on a line
abbrev pub word_line : List ℕ → List ℕ
word_line word = words_line (word ∷ [])

-- a word and a number on a line
abbrev pub number_line : List ℕ → ℕ → List ℕ
number_line word n = words_line (word ∷ decimal n ∷ [])

-- a node, as it is named in scripts
unfoldable pub node_word : NodeId → List ℕ
node_word id = decimal id.part ++ 46 ∷ decimal id.replica

abbrev pub taken_line : Taken → List ℕ
taken_line taken.Old = word_line (codes "old")
taken_line taken.Known = word_line (codes "known")
taken_line taken.New = word_line (codes "new")

abbrev pub untaken_line : TakeError → List ℕ
untaken_line untaken.OtherJob = word_line (codes "other-job")
untaken_line untaken.NotMine = word_line (codes "not-mine")
untaken_line untaken.OwnPartition = word_line (codes "own-partition")
untaken_line (untaken.TooEarly last) = number_line (codes "too-early") last

abbrev pub unclosed_line : CloseError → List ℕ
unclosed_line (waits.Waiting q) = number_line (codes "waiting") q
unclosed_line waits.Finished = word_line (codes "finished")

-- want of memory is no answer
abbrev pub unmerged_line : MergeError → List ℕ
unmerged_line unmerged.OtherJob = word_line (codes "other-job")
unmerged_line unmerged.NotMine = word_line (codes "not-mine")
unmerged_line unmerged.Memory = []

abbrev pub refusal_line : WorldError → List ℕ
refusal_line refusal.NoNode = words_line (codes "refused" ∷ codes "no-node" ∷ [])
refusal_line refusal.NoTarget = words_line (codes "refused" ∷ codes "no-target" ∷ [])
refusal_line refusal.NoMessage = words_line (codes "refused" ∷ codes "no-message" ∷ [])
refusal_line refusal.NoCopy = words_line (codes "refused" ∷ codes "no-copy" ∷ [])
refusal_line refusal.Memory = []

-- ---- what a node shows

abbrev pub verdict_word : Option Verdict → List ℕ
verdict_word None = codes "open"
verdict_word (Some verdict.GoOn) = codes "go-on"
verdict_word (Some verdict.Stable) = codes "stable"
verdict_word (Some verdict.Limit) = codes "limit"

-- a name that is held: its superstep and its source
abbrev pub held_word : BatchName → List ℕ
held_word name = decimal name.superstep ++ 58 ∷ decimal name.source

-- the node, its superstep, its verdict, and each name that it holds
unfoldable pub node_line : Job → NodeId → Holding → List ℕ
node_line j id h =
    words_line
    (codes "node" ∷ node_word id ∷ decimal h.superstep
    ∷ verdict_word (verdict_of j h.partition (content_in h)) ∷ map held_word h.names)

abbrev pub hex_digit : ℕ → ℕ
hex_digit d = if nat_lt d 10 then 48 + d else 87 + d

-- registers, each as two digits to base 16
unfoldable pub registers_word : List ℕ → List ℕ
registers_word row = flat_map (λ r. hex_digit (r / 16) ∷ hex_digit (r % 16) ∷ []) row

-- a vertex: its estimate, harmonic centrality, sum of distances and registers
unfoldable pub row_line : ℕ → TallyValue → List ℕ → List ℕ
row_line x tally row =
    words_line
    (codes "row" ∷ decimal x ∷ fixed6_of tally.last ∷ fixed6_of tally.harm ∷ fixed6_of tally.dist
    ∷ registers_word row ∷ [])

-- vertex x of the job at superstep t
unfoldable pub row_text : Job → ℕ → ℕ → List ℕ
row_text j t x =
    row_line x (tally_at (mixing_of j.plan) j.graph x t)
    (ball_counter (mixing_of j.plan) j.graph x t)

-- a node of that content: its line, and a line for each of its vertices, ascending
unfoldable pub show_text : Job → NodeId → Holding → List ℕ
show_text j id h =
    node_line j id h ++ flat_map (row_text j h.superstep) (own_vertices j h.partition)

abbrev pub show_unless : Job → NodeId → Option Node → List ℕ
show_unless j id None = []
show_unless j id (Some n) = show_text j id n.content

-- an answer of an event in a world
abbrev pub answer_text : Job → World → Event → Answer → List ℕ
answer_text j w e (answer.Sent m name changed rows) =
    words_line
    (codes "sent" ∷ decimal m ∷ decimal name.superstep ∷ decimal name.source
    ∷ decimal name.target ∷ decimal changed ∷ decimal rows ∷ [])
answer_text j w e (answer.Took t) = taken_line t
answer_text j w e (answer.NotTaken r) = untaken_line r
answer_text j w e (answer.Closed t) = number_line (codes "closed") t
answer_text j w e (answer.NotClosed r) = unclosed_line r
answer_text j w e (answer.Kept t) = number_line (codes "kept") t
answer_text j w e (answer.Restarted t) = number_line (codes "restarted") t
answer_text j w e (answer.Copied c t) = words_line (codes "copied" ∷ decimal c ∷ decimal t ∷ [])
answer_text j w e (answer.Merged t) = number_line (codes "merged") t
answer_text j w e (answer.NotMerged r) = unmerged_line r
answer_text j w e answer.Shown = show_unless j (node_of e) (node_at w (node_of e))

abbrev pub outcome_text : Job → World → Event → Result Answer WorldError → List ℕ
outcome_text j w e (Ok a) = answer_text j w e a
outcome_text j w e (Err r) = refusal_line r

-- the text of one event
unfoldable pub event_text : Job → World → Event → List ℕ
event_text j w e = outcome_text j w e (answer_of j w e)

-- the text of a list of events, one after the other
unfoldable pub events_text : Job → World → List Event → List ℕ
events_text j w [] = []
events_text j w (e ∷ es) = event_text j w e ++ events_text j (after_event j w e) es

-- ---- a replay

-- a replica of each partition at least, and 4 at most
abbrev pub most_replicas : ℕ
most_replicas = 4

pub record AreReplicas (replicas : ℕ) : Type 0 where
  pub from : 1 ≤ replicas
  pub to : replicas ≤ most_replicas

-- the job that is asked for over a network
abbrev pub job_over : Numbers → Network → Job
job_over n network = job_of network.graph (plan_over n network.graph)

-- there is such a job over the network, and the text is what the events answer from the start of its world
pub record IsReplayTextOf (n : Numbers) (replicas : ℕ) (network : Network) (events : List Event)
    (text : List ℕ) : Type 0 where
  pub planned : plan_asked n network.graph ≡ Ok (plan_over n network.graph)
  pub text_is : text
      ≡ events_text (job_over n network) (start_world (plan_over n network.graph) replicas) events

-- what a replay is asked for
pub record ReplaySettings : Type 0 where
  pub run : Settings
  pub replicas : ℕ

-- the script says events, the input says a network, and the text is what these events answer
pub record IsReplayText (s : ReplaySettings) (edges : List ℕ) (list : Option (List ℕ))
    (script text : List ℕ) : Type 0 where
  pub replicas : AreReplicas s.replicas
  pub events : List Event
  pub commands : script_of script ≡ Ok events
  pub network : Network
  pub read : AreRead s.run edges list network
  pub replay : IsReplayTextOf s.run.numbers s.replicas network events text

-- the answers are appended
pub record AppendsReplay (s : ReplaySettings) (edges : List ℕ) (list : Option (List ℕ))
    (script : List ℕ) (old new : Option (List ℕ)) : Type 0 where
  pub text : List ℕ
  pub replay : IsReplayText s edges list script text
  pub appended : Appends old new text

-- the options fit, and that line of the script is the first that is no command
pub record IsScriptFault (s : ReplaySettings) (script : List ℕ) (line : ℕ) : Type 0 where
  pub replicas : AreReplicas s.replicas
  pub fault : script_of script ≡ Err line

-- the options fit, and every line of the script is a command or skipped
pub record HasCommands (s : ReplaySettings) (script : List ℕ) : Type 0 where
  pub replicas : AreReplicas s.replicas
  pub events : List Event
  pub commands : script_of script ≡ Ok events

-- so it is, and there is no such plan over the network
pub record IsReplayPlanFault (s : ReplaySettings) (edges : List ℕ) (list : Option (List ℕ))
    (script : List ℕ) (fault : PlanError) : Type 0 where
  pub before : HasCommands s script
  pub refused : IsPlanFault s.run edges list fault
