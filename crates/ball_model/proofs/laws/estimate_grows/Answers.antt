use Rattle.ball_model.proofs.EstimateLemmas.{estimate_grows, estimate_fits}
use Rattle.ball_model.proofs.laws.estimate_grows.Goals as goal

pub returns-clause-grows : goal.returns-clause-grows
returns-clause-grows c = estimate_grows

pub returns-clause-fits : goal.returns-clause-fits
returns-clause-fits c = estimate_fits
