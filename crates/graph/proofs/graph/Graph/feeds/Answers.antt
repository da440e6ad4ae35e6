use Rattle.std.proofs.Common.{◌∙◌, map, ap, sym}
use Rattle.ball_model.specs.Job.{feed_mask}
use Rattle.graph.specs.Feeding.{feeds_of, masks_of}
use Rattle.graph.specs.declared.masks.Masks.{Masks}
use Rattle.graph.proofs.OwnLemmas.{size-all, vertices-all}
use Rattle.graph.proofs.graph.Graph.feeds.Goals as goal

pub feeds_over-requires-clause-size : goal.feeds_over-requires-clause-size
feeds_over-requires-clause-size c = c.vertices.ensures.count ∙ sym c.requires ∙ sym (size-all c.args.plan.now.vertices)

pub returns : goal.returns
unfolding feeds_of
returns c = c.of.ensures ∙ ap (λ (m : Masks). masks_of m) c.in_ok-new.ensures.ok ∙ c.in_ok-masks.ensures ∙ ap (map (feed_mask c.args.self.now.graph c.args.plan.now.parts)) (vertices-all c.args.self.now.graph.vertices)
