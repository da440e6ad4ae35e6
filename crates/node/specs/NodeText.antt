-- A node alone, driven by a text: commands as lines and bytes, and what they are answered, over one node of a world.
use Rattle.std.specs.Prelude.{◌≡◌, ◌≢◌, ⊤, ℕ, ◌+◌, ◌^◌, ◌<◌, ◌≤◌, ◌&&◌, nat_lt, not, ◌==◌, List, [], ◌∷◌, ◌++◌, length, Option, None, Some, option_map, unwrap_or, Result, Ok, Err, if◌then◌else◌, codes, decimal}
use Rattle.std.specs.List.{All, flat_map, range_with_len}
use Rattle.std.specs.Str.{bytes_eq}
use Rattle.ball_model.specs.declared.names.BatchName.{BatchName}
use Rattle.ball_model.specs.declared.names.NodeId.{NodeId}
use Rattle.ball_model.specs.declared.names.Taken.{Taken}
use Rattle.ball_model.specs.declared.names.TakeError.{TakeError}
use Rattle.ball_model.specs.declared.names.CloseError.{CloseError}
use Rattle.ball_model.specs.declared.world.WorldError.TheVariants as refusal
use Rattle.ball_model.specs.Batches.{BatchValue, batch_bytes, true_batch}
use Rattle.ball_model.specs.Content.{Content, take_of}
use Rattle.ball_model.specs.Held.{IsHeldBy, IsName, held_after, held_close_answer, held_take_answer, start_holding}
use Rattle.ball_model.specs.Input.{fields}
use Rattle.ball_model.specs.Job.{Job, PartValue, part_of}
use Rattle.ball_model.specs.Join.{Holding, join_of}
use Rattle.ball_model.specs.PlanValue.{PlanValue, mixing_of}
use Rattle.ball_model.specs.Report.{superstep_line, vertex_text}
use Rattle.ball_model.specs.State.{State, own_vertices}
use Rattle.ball_model.specs.Steps.{Take, Close}
use Rattle.ball_model.specs.Supersteps.{total_over}
use Rattle.ball_model.specs.WorldText.{number_line, part_in, refusal_line, show_text, taken_line, unclosed_line, untaken_line, words_line}
use Rattle.batches.specs.Reading.{batch_at}
use Rattle.batches.specs.declared.error.BatchError.{BatchError}
use Rattle.checkpoint.specs.Reading.{IsReplicaSpelling}
use Rattle.checkpoint.specs.declared.error.KeepError.{KeepError}
use Rattle.world.specs.Script.{number_below}
use Rattle.world.specs.Shows.{Has, KeepsContent}
use Rattle.node.specs.declared.command.Command.{Command}
use Rattle.node.specs.declared.command.Command.TheVariants as command
use Rattle.node.specs.Refusals.{IsNoCheckpoint}
use Rattle.node.specs.declared.input.TheConstants.{MOST_LINE}
use Rattle.node.specs.Turns.{batch_word, checkpoint_word, most_body}

-- ---- commands as lines

-- the length that a word spells, which has at most 18 digits
abbrev pub size_in : List ℕ → Option ℕ
size_in word = number_below (10 ^ 18) word

-- a command of one word
abbrev pub lone_command : List ℕ → Option Command
lone_command verb =
    if bytes_eq verb (codes "close") then Some command.Close
    else if bytes_eq verb (codes "keep") then Some command.Keep
    else if bytes_eq verb (codes "show") then Some command.Show
    else if bytes_eq verb (codes "totals") then Some command.Totals
    else if bytes_eq verb (codes "figures") then Some command.Figures
    else None

-- a command of a word and a number: a partition, or how many bytes follow the line
abbrev pub sized_command : List ℕ → List ℕ → Option Command
sized_command verb word =
    if bytes_eq verb (codes "send") then option_map command.Send (part_in word)
    else if bytes_eq verb (codes "deliver") then option_map command.Deliver (size_in word)
    else if bytes_eq verb (codes "restart") then option_map command.Restart (size_in word)
    else if bytes_eq verb (codes "recover") then option_map command.Recover (size_in word)
    else None

-- the command that the words of a line say
unfoldable pub command_in : List (List ℕ) → Option Command
command_in (verb ∷ []) = lone_command verb
command_in (verb ∷ word ∷ []) = sized_command verb word
command_in words = None

-- how many bytes follow the line of a command
abbrev pub body_length : Command → ℕ
body_length (command.Send q) = 0
body_length (command.Deliver n) = n
body_length command.Close = 0
body_length command.Keep = 0
body_length (command.Restart n) = n
body_length (command.Recover n) = n
body_length command.Show = 0
body_length command.Totals = 0
body_length command.Figures = 0

-- ---- requests: the line of a command, and the bytes that follow it

pub record Request : Type 0 where
  pub line : List ℕ
  pub command : Command
  pub body : List ℕ

-- the line, which has no LF and fewer than 64 bytes, says the command, and as many bytes follow it as the command
-- says, which are no more than a batch or a checkpoint of the part has at most
pub record IsRequest (part : PartValue) (r : Request) : Type 0 where
  pub one_line : All (λ b. b ≢ 10) r.line
  pub short : length r.line < MOST_LINE
  pub says : command_in (fields 32 r.line) ≡ Some r.command
  pub length_is : length r.body ≡ body_length r.command
  pub within : length r.body ≤ most_body part r.command

abbrev pub request_bytes : Request → List ℕ
request_bytes r = r.line ++ 10 ∷ r.body

-- the text of requests, one after the other
abbrev pub requests_text : List Request → List ℕ
requests_text rs = flat_map request_bytes rs

-- ---- what requests ask of a node of the definition

pub data Question : Type 0 where
  Send : ℕ → Question
  Deliver : BatchName → Question
  Closing : Question
  Keep : Question
  Restart : Option Holding → Question
  Recover : Holding → Question
  NoBatch : BatchError → Question
  NotFor : TakeError → Question
  NoCheckpoint : KeepError → Question
  Show : Question
  Totals : Question
  Figures : Question

-- the bytes are the spelling of the true batch of that name, which one partition may send another
pub record IsDelivered (j : Job) (body : List ℕ) (name : BatchName) : Type 0 where
  pub named : IsName j.plan name
  pub spelled : body ≡ batch_bytes (true_batch j name)

-- the bytes spell a batch that partition p of a plan refuses so whatever it holds: one of another job, of another
-- target, or its own
pub record IsNotFor (plan : PlanValue) (p : ℕ) (body : List ℕ) (e : TakeError) : Type 0 where
  pub batch : BatchValue
  pub spelled : batch_at plan body ≡ Ok batch
  pub refused : (c : Content) → take_of plan p c batch.plan batch.name ≡ Err e

-- the bytes are a checkpoint of partition p that stands for that holding: the spelling, in version 1 or 2, of a replica
-- that has it (what version 1 spells holds no batches)
pub record IsGivenBack (j : Job) (p : ℕ) (body : List ℕ) (h : Holding) : Type 0 where
  pub held : IsHeldBy j p h
  pub replica : State
  pub has : Has j h replica
  pub spells : IsReplicaSpelling replica body

-- no bytes, or some that are such a checkpoint
abbrev pub IsStart : Job → ℕ → List ℕ → Option Holding → Type 0
IsStart j p body None = body ≡ []
IsStart j p body (Some h) = (body ≢ []) × IsGivenBack j p body h

-- some bytes that are no checkpoint of partition p, for that refusal
abbrev pub IsOtherStart : Job → ℕ → List ℕ → KeepError → Type 0
IsOtherStart j p body e = (body ≢ []) × IsNoCheckpoint (part_of j p) body e

-- the bytes after a command of partition p are what it asks for: a true batch, or a checkpoint that stands for the
-- job; or they are no batch of the plan, or one that is not for the partition, or no checkpoint of the part
abbrev pub Asks : Job → ℕ → Command → List ℕ → Question → Type 0
Asks j p (command.Send q) body (Send r) = q ≡ r
Asks j p (command.Deliver n) body (Deliver name) = IsDelivered j body name
Asks j p (command.Deliver n) body (NoBatch e) = batch_at j.plan body ≡ Err e
Asks j p (command.Deliver n) body (NotFor e) = IsNotFor j.plan p body e
Asks j p command.Close body Closing = ⊤
Asks j p command.Keep body Keep = ⊤
Asks j p (command.Restart n) body (Restart o) = IsStart j p body o
Asks j p (command.Restart n) body (NoCheckpoint e) = IsOtherStart j p body e
Asks j p (command.Recover n) body (Recover h) = IsGivenBack j p body h
Asks j p (command.Recover n) body (NoCheckpoint e) = IsNoCheckpoint (part_of j p) body e
Asks j p command.Show body Show = ⊤
Asks j p command.Totals body Totals = ⊤
Asks j p command.Figures body Figures = ⊤
Asks j p c body a = ⊥

-- so it is of each request
unfoldable pub AllAsk : Job → ℕ → List Request → List Question → Type 0
AllAsk j p [] [] = ⊤
AllAsk j p (r ∷ rs) (a ∷ more) = Asks j p r.command r.body a × AllAsk j p rs more
AllAsk j p rs more = ⊥

-- ---- what a node of that holding answers

abbrev pub took_line : Result Taken TakeError → List ℕ
took_line (Ok t) = taken_line t
took_line (Err e) = untaken_line e

abbrev pub closed_line : Result ℕ CloseError → List ℕ
closed_line (Ok t) = number_line (codes "closed") t
closed_line (Err e) = unclosed_line e

-- the line before a batch that is sent: its name, how many vertices changed, how many rows it has, and how many bytes
-- follow
abbrev pub sent_line : BatchValue → ℕ → List ℕ
sent_line b n =
    words_line
    (codes "sent" ∷ decimal b.name.superstep ∷ decimal b.name.source ∷ decimal b.name.target
    ∷ decimal b.changed ∷ decimal (length b.rows) ∷ decimal n ∷ [])

-- a batch that is sent: its line, and its bytes
abbrev pub sent_text : BatchValue → List ℕ
sent_text b = sent_line b (length (batch_bytes b)) ++ batch_bytes b

-- what a node sends partition q, which is another one
abbrev pub send_text : Job → Holding → ℕ → List ℕ
send_text j h q =
    if nat_lt q j.plan.parts && not (q == h.partition)
    then sent_text (true_batch j (record {
      superstep = h.superstep;
      source = h.partition;
      target = q;
    }))
    else refusal_line refusal.NoTarget

-- what is said of bytes that were refused
abbrev pub refused_line : List ℕ → List ℕ
refused_line word = words_line (codes "refused" ∷ word ∷ [])

-- a checkpoint that is given: its superstep, its length, and its bytes
abbrev pub kept_text : ℕ → List ℕ → List ℕ
kept_text t bytes =
    words_line (codes "kept" ∷ decimal t ∷ decimal (length bytes) ∷ []) ++ bytes

-- the sum of the estimates of the partition's vertices at each superstep from 0 to t
unfoldable pub totals_text : Job → Holding → List ℕ
totals_text j h =
    flat_map
    (λ i. superstep_line i (total_over (mixing_of j.plan) j.graph (own_vertices j h.partition) i))
    (range_with_len 0 (h.superstep + 1))

-- a line for each vertex of the partition, as a report has it
unfoldable pub figures_text : Job → List (List ℕ) → Holding → List ℕ
figures_text j labels h =
    flat_map (λ x. vertex_text (mixing_of j.plan) j.graph labels h.superstep x)
    (own_vertices j h.partition)

-- a node as it is named if it is the only one of its partition
abbrev pub the_lone_node : ℕ → NodeId
the_lone_node p = record { part = p; replica = 0 }

-- a checkpoint that stands for the holding is given
pub record IsKeepText (j : Job) (h : Holding) (text : List ℕ) : Type 0 where
  pub bytes : List ℕ
  pub kept : KeepsContent j h bytes
  pub text_is : text ≡ kept_text h.superstep bytes

-- the text is the answer of a node of that holding
abbrev pub AnswersOne : Job → List (List ℕ) → Holding → Question → List ℕ → Type 0
AnswersOne j labels h (Send q) text = text ≡ send_text j h q
AnswersOne j labels h (Deliver name) text = text ≡ took_line (held_take_answer j h name)
AnswersOne j labels h Closing text = text ≡ closed_line (held_close_answer j h)
AnswersOne j labels h Keep text = IsKeepText j h text
AnswersOne j labels h (Restart o) text =
    text ≡ number_line (codes "restarted")
    (unwrap_or o (start_holding j.plan h.partition)).superstep
AnswersOne j labels h (Recover c) text =
    text ≡ number_line (codes "merged") (join_of h c).superstep
AnswersOne j labels h (NoBatch e) text = text ≡ refused_line (batch_word e)
AnswersOne j labels h (NotFor e) text = text ≡ untaken_line e
AnswersOne j labels h (NoCheckpoint e) text = text ≡ refused_line (checkpoint_word e)
AnswersOne j labels h Show text = text ≡ show_text j (the_lone_node h.partition) h
AnswersOne j labels h Totals text = text ≡ totals_text j h
AnswersOne j labels h Figures text = text ≡ figures_text j labels h

-- the holding after it
abbrev pub after_asked : Job → Holding → Question → Holding
after_asked j h (Send q) = h
after_asked j h (Deliver name) = held_after j h (Take name)
after_asked j h Closing = held_after j h Close
after_asked j h Keep = h
after_asked j h (Restart o) = unwrap_or o (start_holding j.plan h.partition)
after_asked j h (Recover c) = join_of h c
after_asked j h (NoBatch e) = h
after_asked j h (NotFor e) = h
after_asked j h (NoCheckpoint e) = h
after_asked j h Show = h
after_asked j h Totals = h
after_asked j h Figures = h

unfoldable pub after_all_asked : Job → Holding → List Question → Holding
after_all_asked j h [] = h
after_all_asked j h (a ∷ more) = after_all_asked j (after_asked j h a) more

-- the text is the answers to all that is asked, one after the other
unfoldable pub AnswersAll : Job → List (List ℕ) → Holding → List Question → List ℕ → Type 0
AnswersAll j labels h [] text = text ≡ []
AnswersAll j labels h (a ∷ more) text =
    (front : List ℕ) × (rest : List ℕ) × (text ≡ front ++ rest) × AnswersOne j labels h a front
    × AnswersAll j labels (after_asked j h a) more rest
