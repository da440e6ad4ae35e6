use Rattle.ball_model.proofs.HeldLemmas.{start_held, taken_held, closed_held, joined_held, taken_back, closed_back}
use Rattle.ball_model.proofs.world.steps_stay_held.Goals as goal

pub returns-clause-start : goal.returns-clause-start
returns-clause-start c = start_held

pub returns-clause-take : goal.returns-clause-take
returns-clause-take c = taken_held

pub returns-clause-close : goal.returns-clause-close
returns-clause-close c = closed_held

pub returns-clause-join : goal.returns-clause-join
returns-clause-join c = joined_held

pub returns-clause-taken : goal.returns-clause-taken
returns-clause-taken c = taken_back

pub returns-clause-closed : goal.returns-clause-closed
returns-clause-closed c = closed_back
