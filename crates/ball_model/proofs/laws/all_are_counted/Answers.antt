use Rattle.ball_model.proofs.CountedLemmas.{each_counted, all_counted}
use Rattle.ball_model.proofs.laws.all_are_counted.Goals as goal

pub returns : goal.returns
returns c g ok = (each_counted g ok, all_counted g ok)
