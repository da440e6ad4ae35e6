-- The job that is asked for, over what is read of an input up to the marks.
use Rattle.std.specs.Prelude.{◌≡◌, ℕ, ◌≤◌, Bool, true, false, List, length, Option, None, Some, is_some, IfSome, Ok}
use Rattle.ball_model.specs.Input.{IsPlain, Limits, Network, records}
use Rattle.ball_model.specs.PlanValue.{PlanValue}
use Rattle.ball_model.specs.RunText.{Numbers, Settings, counted_in, network_in, plan_asked, plan_over}
use Rattle.edgelist.specs.Given.{IsGivenUnder}
use Rattle.edgelist.specs.declared.pieces.EdgeReader.{EdgeReader}
use Rattle.graph.specs.declared.delimiter.Delimiter.{Delimiter}
use Rattle.job.specs.declared.limits.TheConstants.{MOST_BYTES}
use Rattle.job.specs.Section.{HasNoMark, ReadsSection}

-- a section was read and given to a reader of edges
pub record GivesSection (limits : Limits) (delimiter : Delimiter)
    (left left' : Option (List ℕ)) (edges : EdgeReader) : Type 0 where
  pub front : List ℕ
  pub given : IsGivenUnder limits delimiter front edges
  pub section : ReadsSection front left left'

-- all was read and given to a reader of edges, and there is no mark
pub record GivesAll (limits : Limits) (delimiter : Delimiter) (left : Option (List ℕ))
    (edges : EdgeReader) : Type 0 where
  pub front : List ℕ
  pub given : IsGivenUnder limits delimiter front edges
  pub none : HasNoMark left
  pub whole : IfSome left (λ text. text ≡ front)

-- a section was given, up to a mark or up to the end
abbrev pub GivesEdges : Limits → Delimiter → Option (List ℕ) → Option (List ℕ) → EdgeReader →
    Bool → Type 0
GivesEdges limits delimiter left left' edges true = GivesSection limits delimiter left left' edges
GivesEdges limits delimiter left left' edges false = GivesAll limits delimiter left edges

-- the edge list in front of the mark was read, and says that network
pub record SaysNetwork (s : Settings) (left left' : Option (List ℕ))
    (network : Network) : Type 0 where
  pub input : List ℕ
  pub section : ReadsSection input left left'
  pub says : IsPlain input → network_in s input ≡ Ok network

-- the edge list in front of the mark has this number of records
pub record HasRecords (s : Settings) (left : Option (List ℕ)) (number : ℕ) : Type 0 where
  pub input : List ℕ
  pub behind : Option (List ℕ)
  pub section : ReadsSection input left behind
  pub says : IsPlain input → number ≡ length (records s.delimiter input)

-- a list was read, if there is one
abbrev pub ReadsList : Option (List ℕ) → Option (List ℕ) → Option (List ℕ) → Type 0
ReadsList None left left' = left' ≡ left
ReadsList (Some list) left left' = ReadsSection list left left'

-- with a list of counted vertices, which has no more bytes than a list may have, or without one, it says that of the
-- network
pub record CountsSome (s : Settings) (counted : Bool) (left left' : Option (List ℕ))
    (all network : Network) : Type 0 where
  pub list : Option (List ℕ)
  pub given : is_some list ≡ counted
  pub section : ReadsList list left left'
  pub few : IfSome list (λ bytes. length bytes ≤ MOST_BYTES)
  pub says : IfSome list IsPlain → counted_in s all list ≡ Ok network

-- there is such a plan over the network
pub record IsPlanned (n : Numbers) (network : Network) (plan : PlanValue) : Type 0 where
  pub plan_is : plan ≡ plan_over n network.graph
  pub planned : plan_asked n network.graph ≡ Ok plan

-- the job of the input: the network that the edge list and the list of counted vertices say, and its plan; what follows
-- the mark after them is left
pub record IsJobRead (s : Settings) (counted : Bool) (left left' : Option (List ℕ))
    (network : Network) (plan : PlanValue) : Type 0 where
  pub all : Network
  pub mid : Option (List ℕ)
  pub edges : SaysNetwork s left mid all
  pub list : CountsSome s counted mid left' all network
  pub planned : IsPlanned s.numbers network plan
