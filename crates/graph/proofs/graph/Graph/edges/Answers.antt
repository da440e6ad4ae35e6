use Rattle.std.proofs.Common.{◌∙◌, sym, ap, length}
use Rattle.std.specs.Arc.{arc_value}
use Rattle.ball_model.specs.Input.{Network}
use Rattle.graph.proofs.LinksLemmas.{length-edges}
use Rattle.graph.proofs.graph.Graph.edges.Goals as goal

pub returns : goal.returns
returns c = (rw c.deref.ensures at c.total.ensures.value) ∙ sym (length-edges (arc_value c.self.inside.lists) 0) ∙ ap (λ (net : Network). length net.graph.edges) c.self.view_is
