use Rattle.ball_model.proofs.WorldLemmas.{runs_stay_worlds, sent_is_in_time, loss_leaves_contents}
use Rattle.ball_model.proofs.world.runs_stay_worlds.Goals as goal

pub returns-clause-stay : goal.returns-clause-stay
returns-clause-stay c = runs_stay_worlds

pub returns-clause-in_time : goal.returns-clause-in_time
returns-clause-in_time c = sent_is_in_time

pub returns-clause-loss : goal.returns-clause-loss
returns-clause-loss c = loss_leaves_contents
