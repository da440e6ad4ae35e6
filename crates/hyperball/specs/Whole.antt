-- Inputs that are read whole, and their parts.
use Rattle.std.specs.Prelude.{◌≡◌, ⊤, ℕ, ◌+◌, ◌<◌, Bool, true, false, List, length}
use Rattle.std.specs.Prelude.{Option, None, Some, IfSome, Result, Ok, Err}
use Rattle.ball_model.specs.Sections.{sections_of}
use Rattle.ball_model.specs.Streams.{Rises, RisesByOne, TakesAtMost}
use Rattle.hyperball.specs.Streams.{Reads}
use Rattle.hyperball.specs.declared.fault.Fault.{Fault}
use Rattle.hyperball.specs.declared.fault.Fault.TheVariants as unserved
use Rattle.hyperball.specs.declared.whole.Lack.{Lack}
use Rattle.hyperball.specs.declared.whole.Lack.TheVariants as lack
use Rattle.hyperball.specs.declared.whole.WholeError.{WholeError}
use Rattle.hyperball.specs.declared.whole.WholeError.TheVariants as fault
use Rattle.job.specs.declared.limits.TheConstants.{MOST_BYTES}

-- at most one byte more was read than such an input may have
abbrev pub ReadsFew : Option (List ℕ) → Option (List ℕ) → Type 0
ReadsFew old new = TakesAtMost (MOST_BYTES + 1) old new

-- these are all bytes of the input
abbrev pub IsWholeInput : Option (List ℕ) → List ℕ → Type 0
IsWholeInput old bytes = IfSome old (λ input. bytes ≡ input)

-- the fault is that the input was not read whole
abbrev pub IsUnread : Fault → Type 0
IsUnread (unserved.Input e) = ⊤
IsUnread f = ⊥

-- the input has more bytes than it may have
abbrev pub IsLong : Option (List ℕ) → Type 0
IsLong old = IfSome old (λ input. MOST_BYTES < length input)

-- a reader whose input was to be read whole, and which of the faults is answered of it: each for its reason alone, a
-- failed read whenever a call failed, and none of a reader all of whose calls are sure
pub record ReadsWhole (r : Reads) (told : WholeError → Type 0) : Type 0 where
  pub size : told fault.Size → IsLong r.bytes.old
  pub memory : told fault.Memory → TakesAtMost MOST_BYTES r.bytes.old r.bytes.new
  pub read : told fault.Read → RisesByOne r.failed.old r.failed.new
  pub failed : Rises r.failed.old r.failed.new → told fault.Read
  pub sure : r.sure ≡ None → told fault.Read → ⊥
  pub few : ReadsFew r.bytes.old r.bytes.new

-- an edge list, and a list of counted vertices and a script if there are such
pub record Parts : Type 0 where
  pub edges : List ℕ
  pub list : Option (List ℕ)
  pub script : Option (List ℕ)

-- what the sections before the first mark and after it give; if there is no mark a part is missing
abbrev pub at_mark : Lack → Option (List ℕ × List ℕ) → (List ℕ → List ℕ → Result Parts Lack) →
    Result Parts Lack
at_mark missing None give = Err missing
at_mark missing (Some s) give = give s.0 s.1

-- the parts of an input that is to have a list or not, and a script or not, with a mark before each; or the first that is
-- missing
abbrev pub parts_in : Bool → Bool → List ℕ → Result Parts Lack
parts_in false false input = Ok (record { edges = input; list = None; script = None })
parts_in true false input = at_mark lack.List (sections_of input) (λ edges list.
    Ok (record { edges = edges; list = Some list; script = None }))
parts_in false true input = at_mark lack.Script (sections_of input) (λ edges script.
    Ok (record { edges = edges; list = None; script = Some script }))
parts_in true true input = at_mark lack.List (sections_of input) (λ edges rest.
    at_mark lack.Script (sections_of rest) (λ list script.
    Ok (record { edges = edges; list = Some list; script = Some script })))
