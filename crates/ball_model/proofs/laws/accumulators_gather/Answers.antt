use Rattle.ball_model.proofs.AccumulatedLemmas.{accumulated-none, accumulated-all, accumulated-or, accumulated-more}
use Rattle.ball_model.proofs.laws.accumulators_gather.Goals as goal

pub returns-clause-starts : goal.returns-clause-starts
returns-clause-starts c = accumulated-none

pub returns-clause-ends : goal.returns-clause-ends
returns-clause-ends c = accumulated-all

pub returns-clause-joins : goal.returns-clause-joins
returns-clause-joins c = accumulated-or

pub returns-clause-steps : goal.returns-clause-steps
returns-clause-steps c = accumulated-more
