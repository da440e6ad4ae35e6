use Rattle.std.proofs.Common.{◌∙◌, length, ap}
use Rattle.ball_model.specs.Input.{Network}
use Rattle.graph.proofs.graph.Graph.counted_count.Goals as goal

pub returns : goal.returns
returns c = c.self.invariant.counted ∙ ap (λ (net : Network). length net.graph.counted) c.self.view_is
