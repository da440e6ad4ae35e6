-- A number owns nothing, so it may go to any thread.
use denote.Param.Send.{IsSend, owning_send}
use Rattle.ball_model.specs.contracts.streams.failures.Number.{the_row, the_type}

pub send : IsSend the_row
send = owning_send the_type tt (λ d. tt) (λ k x w. tt)
