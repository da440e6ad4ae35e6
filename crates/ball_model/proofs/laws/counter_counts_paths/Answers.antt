use Rattle.ball_model.proofs.StartLemmas.{counter_bounds, counter_least}
use Rattle.ball_model.proofs.laws.counter_counts_paths.Goals as goal

pub returns-clause-bound : goal.returns-clause-bound
returns-clause-bound c = counter_bounds

pub returns-clause-least : goal.returns-clause-least
returns-clause-least c = counter_least
