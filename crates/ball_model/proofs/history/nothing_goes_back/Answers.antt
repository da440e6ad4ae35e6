use Rattle.ball_model.proofs.HistoryLemmas.{kept_never_goes_back, floor_never_goes_down}
use Rattle.ball_model.proofs.history.nothing_goes_back.Goals as goal

pub returns-clause-kept : goal.returns-clause-kept
returns-clause-kept c = kept_never_goes_back

pub returns-clause-floor : goal.returns-clause-floor
returns-clause-floor c = floor_never_goes_down
