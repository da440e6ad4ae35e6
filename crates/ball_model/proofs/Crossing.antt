-- Plans may be shared by threads.
use denote.Param.Send.{IsSync, sendable}
use Rattle.std.proofs.Crossing.{crosses}
use Rattle.ball_model.specs.contracts.plan.Plan as plan

pub plan_sync : IsSync plan.the_row
plan_sync = search (sendable, crosses) depth 30
