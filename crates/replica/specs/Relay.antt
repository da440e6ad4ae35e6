-- A table that is handed out and goes on in another one, whatever its places have.
use Rattle.std.specs.Prelude.{◌≡◌, ◌≤◌, ◌<◌, ℕ, ◌||◌, Bool, false, List, [], length, slice_index_or, Option, None, Some, IfSome}
use Rattle.ball_model.specs.Figures.{TallyValue}
use Rattle.ball_model.specs.Checkpoint.{no_figures}
use Rattle.ball_model.specs.Table.{Table}

-- the table that is shown: the one that is handed out, or else the own one
unfoldable pub shown_of : {T : Type 0} → T → Option T → T
shown_of own None = own
shown_of own (Some out) = out

-- a table, with a mark for each place
pub record Marked (T : Type 0) : Type 0 where
  pub table : T
  pub stale : List Bool

-- what a relay keeps: what is shown differs from the table shown before it at stale places alone
abbrev pub IsRelay : {T : Type 0} → (List Bool → T → T → Type 0) → T → Option (Marked T) → Type 0
IsRelay differ shown behind = IfSome behind (λ b. differ b.stale b.table shown)

-- room for a copy of a table, and for a mark for each of its places
pub record HasRoom {T : Type 0} (needs count : T → ℕ) (table : T) (room marks : ℕ) : Type 0 where
  pub all : needs table ≤ room
  pub each : count table ≤ marks

-- as many marks, each set if one of the two is
pub record AreEither (ms ns both : List Bool) : Type 0 where
  pub long : length both ≡ length ms
  pub set : (i : ℕ) → slice_index_or both i false ≡
      (slice_index_or ms i false || slice_index_or ns i false)

-- tables of rows of one shape, with two marks for each row, and the same in each row that has neither
pub record DifferWhereEither (stale marks : List Bool) (a b : Table) : Type 0 where
  pub width : a.width ≡ b.width
  pub count : length a.rows ≡ length b.rows
  pub each : length stale ≡ length a.rows
  pub marked : length marks ≡ length a.rows
  pub same : (i : ℕ) → i < length a.rows → slice_index_or stale i false ≡ false →
      slice_index_or marks i false ≡ false → slice_index_or a.rows i [] ≡ slice_index_or b.rows i []

-- as many tallies, with a mark for each, and the same at each place that is not marked
pub record DifferAt (marks : List Bool) (a b : List TallyValue) : Type 0 where
  pub count : length a ≡ length b
  pub marked : length marks ≡ length a
  pub same : (i : ℕ) → i < length a → slice_index_or marks i false ≡ false →
      slice_index_or a i no_figures ≡ slice_index_or b i no_figures

-- as many tallies
abbrev pub AreAsMany : List TallyValue → List TallyValue → Type 0
AreAsMany a b = length a ≡ length b

-- what is shown differs from the tallies shown before at stale places alone, and there are as many marks as tallies
pub record CanBeRelayed (shown : List TallyValue) (behind : Option (Marked (List TallyValue))) (marks : ℕ) : Type 0 where
  pub relayed : IsRelay DifferAt shown behind
  pub each : marks ≡ length shown

-- what is shown is in the own table, and the tallies shown before are marked for all that differ from it where it is
-- marked
pub record AreOwnAgain (shown : List TallyValue) (marks : List Bool) (own : List TallyValue)
    (behind : Option (Marked (List TallyValue))) : Type 0 where
  pub own_is : own ≡ shown
  pub behind_is : (ahead : List TallyValue) → DifferAt marks shown ahead → IsRelay DifferAt ahead behind
