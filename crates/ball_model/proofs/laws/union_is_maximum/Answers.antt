use Rattle.ball_model.proofs.CounterLemmas.{counter_of-or}
use Rattle.ball_model.proofs.RankLemmas.{counter_of-empty}
use Rattle.ball_model.proofs.laws.union_is_maximum.Goals as goal

pub returns-clause-union : goal.returns-clause-union
returns-clause-union c = counter_of-or

pub returns-clause-empty : goal.returns-clause-empty
returns-clause-empty c = counter_of-empty
