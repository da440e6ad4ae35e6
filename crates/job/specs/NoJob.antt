-- Why an input says no job.
use Rattle.std.specs.Prelude.{◌≡◌, ◌≢◌, ⊤, ℕ, ◌-◌, ◌^◌, ◌<◌, ◌≤◌, Bool, true, List, length, Option, Result, Err, IfSome, IsOk}
use Rattle.ball_model.specs.Counting.{counted_of}
use Rattle.ball_model.specs.Input.{IsPlain, Network, Refusal}
use Rattle.ball_model.specs.PlanValue.{PlanValue}
use Rattle.ball_model.specs.RunText.{Settings, network_in, plan_asked}
use Rattle.ball_model.specs.declared.plan.PlanError.{PlanError}
use Rattle.graph.specs.Counting.{RefusesList}
use Rattle.edgelist.specs.Reading.{Refuses}
use Rattle.graph.specs.declared.counting.CountedError.{CountedError}
use Rattle.edgelist.specs.declared.limits.EdgeError.{EdgeError}
use Rattle.edgelist.specs.declared.limits.EdgeError.TheVariants as unread
use Rattle.job.specs.declared.error.InputError.{InputError}
use Rattle.job.specs.declared.error.InputError.TheVariants as fault
use Rattle.job.specs.declared.limits.TheConstants.{MOST_BYTES}
use Rattle.job.specs.Input.{CountsSome, SaysNetwork}
use Rattle.job.specs.Section.{HasNoMark, ReadsSection, before_mark}

-- ---- the edge list
-- what is before the mark is refused for that, and not for a failed read
pub record IsRefused (says : List ℕ → Result Network Refusal) (left : Option (List ℕ))
    (e : EdgeError) : Type 0 where
  pub read : e ≢ unread.Read
  pub refuses : IfSome left (λ text. IsPlain (before_mark text) →
      Refuses (says (before_mark text)) e)

-- there is no mark, and all that there is says a network
pub record LacksMark (says : List ℕ → Result Network Refusal) (left : Option (List ℕ)) : Type 0
  where
    pub none : HasNoMark left
    pub fine : IfSome left (λ text. IsPlain text → IsOk (says text))

-- the edge list is refused for this, or there is no mark; of want of memory and a failed read nothing is said
abbrev pub IsNoNetwork : (List ℕ → Result Network Refusal) → Option (List ℕ) → InputError →
    Type 0
IsNoNetwork says left (fault.Edges e) = IsRefused says left e
IsNoNetwork says left fault.NoMark = LacksMark says left
IsNoNetwork says left fault.EdgesSize = IfSome left (λ text. 2 ^ 64 - 1 ≤ length text)
IsNoNetwork says left fault.Memory = ⊤
IsNoNetwork says left fault.Read = ⊤
IsNoNetwork says left e = ⊥

-- ---- the list of counted vertices
-- there is no mark, and no more bytes than a list may have: whatever they say
pub record LacksListMark (left : Option (List ℕ)) : Type 0 where
  pub none : HasNoMark left
  pub few : IfSome left (λ text. length text ≤ MOST_BYTES)

-- the list has no mark, or more bytes than a list may have before one
abbrev pub IsUnlisted : Option (List ℕ) → InputError → Type 0
IsUnlisted left fault.NoListMark = LacksListMark left
IsUnlisted left fault.ListSize = IfSome left (λ text. MOST_BYTES < length (before_mark text))
IsUnlisted left fault.Memory = ⊤
IsUnlisted left fault.Read = ⊤
IsUnlisted left e = ⊥

-- a list is before a mark, and it is refused for what it says of a network
pub record IsMiscounted (s : Settings) (left : Option (List ℕ)) (all : Network)
    (e : CountedError) : Type 0 where
  pub list : List ℕ
  pub left' : Option (List ℕ)
  pub section : ReadsSection list left left'
  pub few : length list ≤ MOST_BYTES
  pub refuses : IsPlain list → RefusesList (counted_of s.delimiter all list) e

abbrev pub IsUncounted : Settings → Option (List ℕ) → Network → InputError → Type 0
IsUncounted s left all (fault.Counted e) = IsMiscounted s left all e
IsUncounted s left all e = IsUnlisted left e

-- the edge list says a network, and the list after it is refused for this
pub record HasNoCount (s : Settings) (counted : Bool) (left : Option (List ℕ))
    (e : InputError) : Type 0 where
  pub asked : counted ≡ true
  pub all : Network
  pub mid : Option (List ℕ)
  pub edges : SaysNetwork s left mid all
  pub refused : IsUncounted s mid all e

-- there are more than `n` bytes of the list
abbrev pub GoesBeyond : ℕ → Option (List ℕ) → Type 0
GoesBeyond n left = IfSome left (λ text. n < length (before_mark text))

-- ---- the plan
-- there is no plan for these numbers over a graph, for this fault
abbrev pub IsUnplanned : Result PlanValue PlanError → InputError → Type 0
IsUnplanned asked (fault.Plan e) = asked ≡ Err e
IsUnplanned asked e = ⊥

-- there is no such plan over the network of both
pub record HasNoPlan (s : Settings) (counted : Bool) (left left' : Option (List ℕ))
    (e : PlanError) : Type 0 where
  pub all : Network
  pub network : Network
  pub mid : Option (List ℕ)
  pub edges : SaysNetwork s left mid all
  pub list : CountsSome s counted mid left' all network
  pub refused : plan_asked s.numbers network.graph ≡ Err e

-- ---- the job
-- the input says no job, for this fault
abbrev pub IsNoJob : Settings → Bool → Option (List ℕ) → Option (List ℕ) → InputError → Type 0
IsNoJob s counted left left' (fault.Edges e) = IsRefused (network_in s) left e
IsNoJob s counted left left' fault.NoMark = LacksMark (network_in s) left
IsNoJob s counted left left' fault.EdgesSize = IsNoNetwork (network_in s) left fault.EdgesSize
IsNoJob s counted left left' fault.NoListMark = HasNoCount s counted left fault.NoListMark
IsNoJob s counted left left' fault.ListSize = HasNoCount s counted left fault.ListSize
IsNoJob s counted left left' (fault.Counted e) = HasNoCount s counted left (fault.Counted e)
IsNoJob s counted left left' (fault.Plan e) = HasNoPlan s counted left left' e
IsNoJob s counted left left' fault.Memory = ⊤
IsNoJob s counted left left' fault.Read = ⊤
