use Rattle.ball_model.proofs.LimitLemmas.{network_higher}
use Rattle.ball_model.proofs.laws.limits_only_refuse.Goals as goal

pub returns : goal.returns
returns c = network_higher
