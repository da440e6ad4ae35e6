use Rattle.ball_model.proofs.HistoryLemmas.{standing_is_posted, posted_stands}
use Rattle.ball_model.proofs.history.standing_is_posted.Goals as goal

pub returns-clause-posted : goal.returns-clause-posted
returns-clause-posted c = standing_is_posted

pub returns-clause-stands : goal.returns-clause-stands
returns-clause-stands c = posted_stands
