use Rattle.std.proofs.Common.{◌∙◌, map, ap}
use Rattle.std.specs.Arc.{arc_value}
use Rattle.ball_model.specs.Input.{Network}
use Rattle.ball_model.specs.Graph.{preds_of}
use Rattle.ball_model.specs.PlanValue.{vertices_of}
use Rattle.graph.proofs.OwnLemmas.{lists-all}
use Rattle.graph.proofs.graph.Graph.shared_lists.Goals as goal

pub returns : goal.returns
returns c = c.in_ok-lists.ensures
    ∙ lists-all (arc_value c.self.inside.lists) c.self.inside.marks.items c.self.invariant.ascend
    ∙ ap (λ (net : Network). map (λ x. preds_of net.graph x) (vertices_of net.graph.vertices 1 0)) c.self.view_is
