-- What becomes of commands, one after the other.
use Rattle.std.specs.Prelude.{◌≡◌, ◌≢◌, ⊤, ◌⊎◌, ℕ, ◌+◌, ◌^◌, ◌<◌, ◌≤◌, Bool, List, [], ◌∷◌, ◌++◌, length, take, Option, None, Some, Err}
use Rattle.std.specs.List.{All, concat}
use Rattle.std.specs.Io.KnownBytes.{Appends, Consumes, IsAtEnd, Keeps}
use Rattle.ball_model.specs.Input.{Network, fields}
use Rattle.ball_model.specs.Held.{start_holding}
use Rattle.ball_model.specs.Job.{Job, PartValue, job_of, part_of}
use Rattle.ball_model.specs.Join.{Holding}
use Rattle.ball_model.specs.PlanValue.{PlanValue}
use Rattle.ball_model.specs.RunText.{Settings}
use Rattle.ball_model.specs.State.{State}
use Rattle.ball_model.specs.WorldText.{refusal_line, untaken_line}
use Rattle.ball_model.specs.declared.names.TakeError.{TakeError}
use Rattle.ball_model.specs.declared.world.WorldError.TheVariants as refusal
use Rattle.batches.specs.Reading.{batch_at}
use Rattle.batches.specs.declared.error.BatchError.{BatchError}
use Rattle.checkpoint.specs.declared.error.KeepError.{KeepError}
use Rattle.world.specs.declared.tell.TellError.{TellError}
use Rattle.world.specs.declared.tell.TellError.TheVariants as untold
use Rattle.node.specs.declared.command.Command.{Command}
use Rattle.node.specs.declared.command.Command.TheVariants as order
use Rattle.node.specs.declared.error.ServeError.{ServeError}
use Rattle.node.specs.declared.error.ServeError.TheVariants as fault
use Rattle.node.specs.NodeText.{AnswersOne, AnswersAll, AllAsk, Question, Asks, IsNotFor, IsRequest, Request, after_all_asked, after_asked, body_length, command_in, refused_line, request_bytes, requests_text}
use Rattle.node.specs.Refusals.{IsNoCheckpoint}
use Rattle.job.specs.Input.{IsJobRead}
use Rattle.node.specs.Stream.{HasNoEnd, WholeLine}
use Rattle.node.specs.declared.input.TheConstants.{MOST_LINE}
use Rattle.node.specs.Turns.{Holds, batch_word, checkpoint_word, most_body}

-- ---- what errors are answered as

abbrev pub serve_error_of : TellError → ServeError
serve_error_of untold.Memory = fault.Memory
serve_error_of untold.Write = fault.Write

-- ---- one answer

-- if a node of the part refuses a command and the bytes after it, whatever it has, this is so of the line that says it:
-- there is no such target, or it is the node's own partition; the bytes are no batch of the plan, or one that is not
-- for the partition; they are no checkpoint of the part
abbrev pub IfRefused : PartValue → Command → List ℕ → (List ℕ → Type 0) → Type 0
IfRefused part (order.Send q) body P =
    (part.plan.parts ≤ q) ⊎ (q ≡ part.number) → P (refusal_line refusal.NoTarget)
IfRefused part (order.Deliver n) body P =
    ((e : BatchError) → batch_at part.plan body ≡ Err e → P (refused_line (batch_word e)))
    × ((e : TakeError) → IsNotFor part.plan part.number body e → P (untaken_line e))
IfRefused part (order.Restart n) body P =
    (e : KeepError) → body ≢ [] → IsNoCheckpoint part body e →
    P (refused_line (checkpoint_word e))
IfRefused part (order.Recover n) body P =
    (e : KeepError) → IsNoCheckpoint part body e → P (refused_line (checkpoint_word e))
IfRefused part c body P = ⊤

-- what a replica v was asked by a command and the bytes after it was answered by a text, and it is w now. For each
-- holding of a job that v has, and whatever these bytes ask for, the text is the answer, and w has the holding after
-- it. If the bytes are refused whatever v has, the text is the line that says so, and w is v
pub record Steps (network : Network) (c : Command) (body : List ℕ) (v w : State)
    (old new : Option (List ℕ)) : Type 0 where
  pub text : List ℕ
  pub appended : Appends old new text
  pub told : (j : Job) (p : ℕ) (h : Holding) (a : Question) → j.graph ≡ network.graph →
      Holds j p h v → Asks j p c body a → AnswersOne j network.labels h a text
  pub holds : (j : Job) (p : ℕ) (h : Holding) (a : Question) → j.graph ≡ network.graph →
      Holds j p h v → Asks j p c body a → Holds j p (after_asked j h a) w
  pub named : IfRefused v.part c body (λ line. text ≡ line)
  pub spared : IfRefused v.part c body (λ _. w ≡ v)

-- ---- a request: it is read, and answered

-- the line of a command was read, after which no more bytes are announced than the part allows
pub record ReadsCommand (part : PartValue) (left left' : Option (List ℕ)) (line : List ℕ)
    (c : Command) : Type 0 where
  pub read : WholeLine left left' line
  pub says : command_in (fields 32 line) ≡ Some c
  pub within : body_length c ≤ most_body part c

-- the line of a command was read, and what follows it
pub record ReadsRequest (part : PartValue) (left left' : Option (List ℕ)) (line : List ℕ)
    (c : Command) (body : List ℕ) : Type 0 where
  pub is : IsRequest part (record { line = line; command = c; body = body })
  pub consumed : Consumes left left'
      (request_bytes (record { line = line; command = c; body = body }))

pub record ServesOne (network : Network) (left left' : Option (List ℕ)) (v w : State)
    (old new : Option (List ℕ)) : Type 0 where
  pub request : Request
  pub is : IsRequest v.part request
  pub consumed : Consumes left left' (request_bytes request)
  pub steps : Steps network request.command request.body v w old new

-- there is none
pub record ServesNone (left left' : Option (List ℕ)) (v w : State)
    (old new : Option (List ℕ)) : Type 0 where
  pub end : IsAtEnd left'
  pub consumed : Consumes left left' []
  pub kept : Keeps old new
  pub same : w ≡ v

-- ---- what is no request

-- a line that says no command, or one that is longer than any command
pub record NoCommand (left left' : Option (List ℕ)) : Type 0 where
  pub line : List ℕ
  pub one_line : HasNoEnd line
  pub read : (Consumes left left' (line ++ 10 ∷ []) × (command_in (fields 32 line) ≡ None))
      ⊎ (Consumes left left' line × (MOST_LINE ≤ length line))

-- the line of a command after which more bytes are announced than the part allows
pub record TooLong (part : PartValue) (left left' : Option (List ℕ)) : Type 0 where
  pub line : List ℕ
  pub one_line : HasNoEnd line
  pub command : Command
  pub says : command_in (fields 32 line) ≡ Some command
  pub beyond : most_body part command < body_length command
  pub consumed : Consumes left left' (line ++ 10 ∷ [])

-- a command with fewer bytes after its line than it announces
pub record IsCutBody (front : List ℕ) : Type 0 where
  pub line : List ℕ
  pub one_line : HasNoEnd line
  pub command : Command
  pub says : command_in (fields 32 line) ≡ Some command
  pub body : List ℕ
  pub fewer : length body < body_length command
  pub front_is : front ≡ line ++ 10 ∷ body

-- the input ended within a request
pub record CutShort (left left' : Option (List ℕ)) : Type 0 where
  pub front : List ℕ
  pub some : front ≢ []
  pub within : HasNoEnd front ⊎ IsCutBody front
  pub consumed : Consumes left left' front
  pub end : IsAtEnd left'

-- the bytes are those of a request
pub record IsRequestText (part : PartValue) (bytes : List ℕ) : Type 0 where
  pub request : Request
  pub is : IsRequest part request
  pub bytes_are : bytes ≡ request_bytes request

-- some bytes of a line were read, and no more than the first; or a request that is all there
pub record LacksRoom (part : PartValue) (left left' : Option (List ℕ)) : Type 0 where
  pub front : List ℕ
  pub some : front ≢ []
  pub within : (HasNoEnd front × (length front ≡ 1)) ⊎ IsRequestText part front
  pub consumed : Consumes left left' front

-- the request of that number cannot be read for what it says, or numbers end before it; or memory is refused within its
-- line, or when all of it is there; of failed calls nothing is said
abbrev pub IsNoRequest : PartValue → ℕ → ServeError → Option (List ℕ) → Option (List ℕ) → Type 0
IsNoRequest part n (fault.Command k) left left' = (k ≡ n) × NoCommand left left'
IsNoRequest part n (fault.Length k) left left' = (k ≡ n) × TooLong part left left'
IsNoRequest part n (fault.Cut k) left left' = (k ≡ n) × CutShort left left'
IsNoRequest part n fault.TooMany left left' = (2 ^ 64 ≤ n) × (left' ≡ left)
IsNoRequest part n fault.Memory left left' = LacksRoom part left left'
IsNoRequest part n fault.Read left left' = ⊤
IsNoRequest part n fault.Write left left' = ⊤

-- the fault is want of memory or a failed call
abbrev pub IsOfMachine : ServeError → Type 0
IsOfMachine (fault.Command k) = ⊥
IsOfMachine (fault.Length k) = ⊥
IsOfMachine (fault.Cut k) = ⊥
IsOfMachine fault.TooMany = ⊥
IsOfMachine fault.Memory = ⊤
IsOfMachine fault.Read = ⊤
IsOfMachine fault.Write = ⊤

-- ---- many of them

-- a text was appended that is the answers to all that is asked
pub record AppendsAnswers (j : Job) (labels : List (List ℕ)) (h : Holding) (more : List Question)
    (old new : Option (List ℕ)) : Type 0 where
  pub text : List ℕ
  pub appended : Appends old new text
  pub answers : AnswersAll j labels h more text

-- there is a text for each request: whatever the first one asks for, its text is the answer of a node of that holding,
-- and so it is of the others with the holding after it. (Of a request that asks for nothing, as one that brings an untrue
-- batch, and of all after it this says nothing.)
unfoldable pub AreTold : Job → ℕ → List (List ℕ) → Holding → List Request → List (List ℕ) → Type 0
AreTold j p labels h [] [] = ⊤
AreTold j p labels h (r ∷ rs) (text ∷ texts) =
    (a : Question) → Asks j p r.command r.body a →
    AnswersOne j labels h a text × AreTold j p labels (after_asked j h a) rs texts
AreTold j p labels h rs texts = ⊥

-- there is a text for each request: if a node of the part refuses it, whatever the node has, the text is the line that
-- says so
unfoldable pub AreNamed : PartValue → List Request → List (List ℕ) → Type 0
AreNamed part [] [] = ⊤
AreNamed part (r ∷ rs) (text ∷ texts) =
    IfRefused part r.command r.body (λ line. text ≡ line) × AreNamed part rs texts
AreNamed part rs texts = ⊥

-- what a replica v was asked by requests was answered by texts, one after the other, and it is w now
pub record Runs (network : Network) (rs : List Request) (v w : State)
    (old new : Option (List ℕ)) : Type 0 where
  pub texts : List (List ℕ)
  pub appended : Appends old new (concat texts)
  pub told : (j : Job) (p : ℕ) (h : Holding) → j.graph ≡ network.graph → Holds j p h v →
      AreTold j p network.labels h rs texts
  pub named : AreNamed v.part rs texts
  pub holds : (j : Job) (p : ℕ) (h : Holding) (more : List Question) → j.graph ≡ network.graph →
      Holds j p h v → AllAsk j p rs more → Holds j p (after_all_asked j h more) w

-- that many requests were read and answered
pub record ServesSome (network : Network) (number : ℕ) (left left' : Option (List ℕ)) (v w : State)
    (old new : Option (List ℕ)) : Type 0 where
  pub requests : List Request
  pub count : length requests ≡ number
  pub each : All (IsRequest v.part) requests
  pub consumed : Consumes left left' (requests_text requests)
  pub runs : Runs network requests v w old new

-- such a request stopped a node that had answered all before it
pub record StopsServing (network : Network) (part : PartValue) (e : ServeError)
    (left left' : Option (List ℕ)) (v w : State) (old new : Option (List ℕ)) : Type 0 where
  pub number : ℕ
  pub mid : Option (List ℕ)
  pub some : ServesSome network number left mid v w old new
  pub at : IsNoRequest part (number + 1) e mid left'

-- requests were read, and then memory was refused within the line of the next, or when all of it was there
pub record StopsWanting (part : PartValue) (left left' : Option (List ℕ)) : Type 0 where
  pub requests : List Request
  pub each : All (IsRequest part) requests
  pub rest : Option (List ℕ)
  pub consumed : Consumes left rest (requests_text requests)
  pub at : LacksRoom part rest left'

-- all that was left of the input is requests, and they were answered
pub record ServesRest (network : Network) (left left' : Option (List ℕ)) (v w : State)
    (old new : Option (List ℕ)) : Type 0 where
  pub number : ℕ
  pub some : ServesSome network number left left' v w old new
  pub end : IsAtEnd left'

-- ---- a node from its start

-- a node of partition p answered each request by a text, one after the other. If a request is refused whatever the node
-- has, its text is the line that says so. And as many requests, from the first on, as ask for something have the
-- answers as their texts, whatever follows them
pub record AnswersEach (j : Job) (p : ℕ) (labels : List (List ℕ)) (h : Holding)
    (rs : List Request) (old new : Option (List ℕ)) : Type 0 where
  pub texts : List (List ℕ)
  pub appended : Appends old new (concat texts)
  pub named : AreNamed (part_of j p) rs texts
  pub begun : (front rest : List Request) (more : List Question) → rs ≡ front ++ rest →
      AllAsk j p front more → AnswersAll j labels h more (concat (take (length front) texts))

-- the job of the input was read, and all that follows it is requests, which a node of partition p was asked from its
-- start on, and answered each: if each delivered batch is a true one, or none for the partition, and each checkpoint
-- stands for the job, or is none of the partition, by the definition's answers
pub record ServesNode (s : Settings) (counted : Bool) (p : ℕ)
    (left left' old new : Option (List ℕ)) : Type 0 where
  pub network : Network
  pub plan : PlanValue
  pub mid : Option (List ℕ)
  pub job : IsJobRead s counted left mid network plan
  pub below : p < plan.parts
  pub requests : List Request
  pub each : All (IsRequest (part_of (job_of network.graph plan) p)) requests
  pub consumed : Consumes mid left' (requests_text requests)
  pub end : IsAtEnd left'
  pub told : (more : List Question) → AllAsk (job_of network.graph plan) p requests more →
      AppendsAnswers (job_of network.graph plan) network.labels (start_holding plan p) more old new
  pub answered : AnswersEach (job_of network.graph plan) p network.labels
      (start_holding plan p) requests old new

-- the job of the input was read, and such a request stopped a node of partition p that had answered all before it
pub record StopsNode (s : Settings) (counted : Bool) (p : ℕ) (e : ServeError)
    (left left' old new : Option (List ℕ)) : Type 0 where
  pub network : Network
  pub plan : PlanValue
  pub mid : Option (List ℕ)
  pub job : IsJobRead s counted left mid network plan
  pub below : p < plan.parts
  pub requests : List Request
  pub each : All (IsRequest (part_of (job_of network.graph plan) p)) requests
  pub rest : Option (List ℕ)
  pub consumed : Consumes mid rest (requests_text requests)
  pub told : (more : List Question) → AllAsk (job_of network.graph plan) p requests more →
      AppendsAnswers (job_of network.graph plan) network.labels (start_holding plan p) more old new
  pub answered : AnswersEach (job_of network.graph plan) p network.labels
      (start_holding plan p) requests old new
  pub at : IsNoRequest (part_of (job_of network.graph plan) p) (length requests + 1) e rest left'

-- the job of the input was read, and then memory was refused so
pub record WantsNode (s : Settings) (counted : Bool) (p : ℕ)
    (left left' : Option (List ℕ)) : Type 0 where
  pub network : Network
  pub plan : PlanValue
  pub mid : Option (List ℕ)
  pub job : IsJobRead s counted left mid network plan
  pub below : p < plan.parts
  pub wants : StopsWanting (part_of (job_of network.graph plan) p) mid left'
