use Rattle.ball_model.proofs.QuietLemmas.{quiet_stays}
use Rattle.ball_model.proofs.laws.quiet_stays.Goals as goal

pub returns : goal.returns
returns c = quiet_stays
