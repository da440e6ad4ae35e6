-- What a replica of a part begins with, as plain data: all of it but the index of the part.
use Rattle.std.specs.Prelude.{◌≡◌, ℕ, ◌^◌, List}
use Rattle.ball_model.specs.Figures.{Measure}
use Rattle.ball_model.specs.Job.{PartValue}
use Rattle.ball_model.specs.PlanValue.{measure_of}
use Rattle.ball_model.specs.Table.{Table}
use Rattle.replica.specs.Hearing.{HearingValue, IsQuiet}
use Rattle.replica.specs.Level.{weights_of}
use Rattle.replica.specs.Start.{first_rows_of_part}
use Rattle.replica.specs.Tables.{AreFirst, TablesValue}

-- rows, marks, figures and sums; what is heard, with the accumulators; how estimates are made, and the weights that they
-- are made of
pub record FirstValue : Type 0 where
  pub tables : TablesValue
  pub hearing : HearingValue
  pub measure : Measure
  pub weights : List ℕ

-- a replica of the part begins with it
pub record BeginsAs (part : PartValue) (first : FirstValue) : Type 0 where
  pub tables : AreFirst part first.tables
  pub quiet : IsQuiet first.tables.rows first.hearing
  pub measure : first.measure ≡ measure_of part.plan
  pub weights : first.weights ≡ weights_of first.tables.rows.rows

-- the table of the rows that it begins with
abbrev pub first_table : PartValue → Table
first_table part = record { width = 2 ^ part.plan.log2m; rows = first_rows_of_part part }

-- nothing is heard beside those rows, and these are their weights
pub record BeginsBeside (part : PartValue) (heard : HearingValue) (own : List ℕ) : Type 0 where
  pub quiet : IsQuiet (first_table part) heard
  pub weights : own ≡ weights_of (first_rows_of_part part)
