use Rattle.ball_model.proofs.CountedLemmas.{named_is, is_named, all_named}
use Rattle.ball_model.proofs.laws.named_are_counted.Goals as goal

pub returns-clause-named : goal.returns-clause-named
returns-clause-named c network records v below = (named_is network records v below, is_named network records v below)

pub returns-clause-all : goal.returns-clause-all
returns-clause-all c = all_named
