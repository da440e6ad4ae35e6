use Rattle.ball_model.proofs.EndLemmas.{end_within, end_least, end_reached}
use Rattle.ball_model.proofs.laws.end_is_least.Goals as goal

pub returns-clause-within : goal.returns-clause-within
returns-clause-within c = end_within

pub returns-clause-least : goal.returns-clause-least
returns-clause-least c = end_least

pub returns-clause-reached : goal.returns-clause-reached
returns-clause-reached c = end_reached
