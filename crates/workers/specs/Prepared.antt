-- What a replica of a part begins with, made before it.
use Rattle.std.specs.Prelude.{◌≡◌}
use Rattle.ball_model.specs.Job.{PartValue}
use Rattle.replica.specs.First.{BeginsAs}
use Rattle.replica.specs.Index.{targets_of}
use Rattle.workers.specs.declared.indexed.Prepared.{Prepared}

-- it is that of this part
pub record IsPrepared (part : PartValue) (made : Prepared) : Type 0 where
  pub index : made.targets ≡ targets_of part
  pub first : BeginsAs part made.first
