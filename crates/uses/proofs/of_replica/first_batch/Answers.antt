use Rattle.std.proofs.Common.{arith}
use Rattle.ball_model.specs.Job.{part_of}
use Rattle.uses.proofs.of_replica.first_batch.Goals as goal

pub out-requires-clause-target : goal.out-requires-clause-target
unfolding part_of
out-requires-clause-target c = rw (c.in_ok-replica.ensures.part, c.in_ok-part.ensures) c.requires.parts

pub out-requires-clause-other : goal.out-requires-clause-other
unfolding part_of
out-requires-clause-other c = rw (c.in_ok-replica.ensures.part, c.in_ok-part.ensures) (λ e. omega arith)
