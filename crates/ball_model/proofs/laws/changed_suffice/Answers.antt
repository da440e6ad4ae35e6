use Rattle.ball_model.proofs.ChangeLemmas.{changed_suffice}
use Rattle.ball_model.proofs.QuietLemmas.{change_source}
use Rattle.ball_model.proofs.laws.changed_suffice.Goals as goal

pub returns-clause-step : goal.returns-clause-step
returns-clause-step c = changed_suffice

pub returns-clause-source : goal.returns-clause-source
returns-clause-source c = change_source
