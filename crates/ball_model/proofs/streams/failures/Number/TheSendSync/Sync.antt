-- A number owns nothing, so any thread may share it.
use denote.Param.Send.{IsSync, part_keyless}
use Rattle.ball_model.specs.contracts.streams.failures.Number.{the_row}
use Rattle.ball_model.proofs.streams.failures.Number.TheSendSync.Send.{send}

pub sync : IsSync the_row
sync = record { shared = λ d b o κ q. part_keyless the_row send q d b o }
