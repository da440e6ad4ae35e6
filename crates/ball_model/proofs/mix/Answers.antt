use Rattle.std.proofs.Common.{refl}
use Rattle.ball_model.specs.Hash.{hash_of}
use Rattle.ball_model.proofs.mix.Goals as goal

pub returns : goal.returns
unfolding hash_of
returns c = rw c.from.ensures refl
