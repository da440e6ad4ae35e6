use Rattle.std.proofs.Common.{◌∙◌, length, sym, ap, arith}
use Rattle.std.specs.Arc.{arc_value}
use Rattle.ball_model.specs.Input.{Network}
use Rattle.ball_model.specs.Graph.{preds_of}
use Rattle.graph.proofs.LinksLemmas.{preds_of-graph, below_at}
use Rattle.graph.proofs.graph.Graph.preds.Goals as goal

pub returns-clause-value : goal.returns-clause-value
returns-clause-value c =
    let count = ap (λ (net : Network). net.graph.vertices) c.self.view_is in
    (rw c.deref.ensures at c.list.ensures) ∙ sym (preds_of-graph (arc_value c.self.inside.lists) c.self.inside.marks.items c.args.v c.self.invariant.ascend (omega (arith, count)))
    ∙ ap (λ (net : Network). preds_of net.graph c.args.v) c.self.view_is

pub returns-clause-below : goal.returns-clause-below
returns-clause-below c =
    let count = ap (λ (net : Network). net.graph.vertices) c.self.view_is in
    λ k d lt. rw (c.list.ensures, c.deref.ensures, ← count) (below_at (length (arc_value c.self.inside.lists)) (arc_value c.self.inside.lists) c.args.v c.self.invariant.ascend (omega (arith, count)) k d (rw (c.list.ensures, c.deref.ensures) at lt))
