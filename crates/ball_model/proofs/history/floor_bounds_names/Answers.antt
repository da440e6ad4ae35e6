use Rattle.ball_model.proofs.HistoryLemmas.{nothing_below_floor}
use Rattle.ball_model.proofs.history.floor_bounds_names.Goals as goal

pub returns : goal.returns
returns c = nothing_below_floor
