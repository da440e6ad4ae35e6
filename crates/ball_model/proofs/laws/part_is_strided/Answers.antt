use Rattle.ball_model.proofs.PartLemmas.{vertices_of-strided}
use Rattle.ball_model.proofs.laws.part_is_strided.Goals as goal

pub returns : goal.returns
returns c = vertices_of-strided
