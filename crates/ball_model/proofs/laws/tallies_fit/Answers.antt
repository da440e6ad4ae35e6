use Rattle.ball_model.proofs.TallyLemmas.{tallies_fit}
use Rattle.ball_model.proofs.laws.tallies_fit.Goals as goal

pub returns : goal.returns
returns c = tallies_fit
