use Rattle.std.proofs.Common.{◌∙◌, ap, arith, sym}
use Rattle.std.specs.Arc.{arc_value}
use Rattle.ball_model.specs.Input.{Network}
use Rattle.ball_model.specs.Graph.{is_counted}
use Rattle.graph.proofs.LinksLemmas.{counted-by-mark}
use Rattle.graph.proofs.graph.Graph.counted.Goals as goal

pub returns : goal.returns
returns c =
    let count = ap (λ (net : Network). net.graph.vertices) c.self.view_is in
    c.vertex_mark.ensures
    ∙ rw c.deref.ensures.value (sym (counted-by-mark (arc_value c.self.inside.lists) c.self.inside.marks.items c.args.v (omega (arith, count))))
    ∙ ap (λ (net : Network). is_counted net.graph c.args.v) c.self.view_is
