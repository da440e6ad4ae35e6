use Rattle.ball_model.proofs.StartLemmas.{changed_where_counted, changed_where_filled}
use Rattle.ball_model.proofs.laws.start_is_counted.Goals as goal

pub returns-clause-counted : goal.returns-clause-counted
returns-clause-counted c = changed_where_counted

pub returns-clause-filled : goal.returns-clause-filled
returns-clause-filled c = changed_where_filled
