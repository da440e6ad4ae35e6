use Rattle.ball_model.proofs.StoryLemmas.{early_batch, repeated_batch, window_edge, checkpointed, copied, three_partitions, lone_vertex}
use Rattle.ball_model.proofs.world.stories.Goals as goal

pub returns-clause-early : goal.returns-clause-early
returns-clause-early c = early_batch

pub returns-clause-repeated : goal.returns-clause-repeated
returns-clause-repeated c = repeated_batch

pub returns-clause-edge : goal.returns-clause-edge
returns-clause-edge c = window_edge

pub returns-clause-checkpoint : goal.returns-clause-checkpoint
returns-clause-checkpoint c = checkpointed

pub returns-clause-copies : goal.returns-clause-copies
returns-clause-copies c = copied

pub returns-clause-three : goal.returns-clause-three
returns-clause-three c = three_partitions

pub returns-clause-lone : goal.returns-clause-lone
returns-clause-lone c = lone_vertex
