use Rattle.ball_model.proofs.RankLemmas.{counter_of-length, counter_of-ranks}
use Rattle.ball_model.proofs.laws.counter_is_row.Goals as goal

pub returns-clause-width : goal.returns-clause-width
returns-clause-width c = counter_of-length

pub returns-clause-ranks : goal.returns-clause-ranks
returns-clause-ranks c = counter_of-ranks
