use Rattle.std.proofs.Common.{◌∙◌, ℕ, length, ap, sym, map}
use Rattle.std.specs.List.{range_with_len}
use Rattle.std.proofs.lemmas.List.FromFn.{length-map-range_with_len}
use Rattle.ball_model.specs.Job.{feed_mask}
use Rattle.ball_model.specs.PlanValue.{vertices_of}
use Rattle.graph.specs.Feeding.{feeds_of}
use Rattle.graph.proofs.graph.Graph.part_with.Goals as goal

pub part_feeds-requires-clause-count : goal.part_feeds-requires-clause-count
unfolding feeds_of
part_feeds-requires-clause-count c =
    ap (length {A = ℕ}) c.requires.feeds ∙ length-map-range_with_len (feed_mask c.args.self.now.graph c.args.plan.now.parts) 0 c.args.self.now.graph.vertices ∙ sym c.requires.vertices

pub part_by-requires-clause-feeds : goal.part_by-requires-clause-feeds
unfolding feeds_of
part_by-requires-clause-feeds c =
    let mask = feed_mask c.args.self.now.graph c.args.plan.now.parts in
    let all = c.requires.feeds ∙ ap (λ (n : ℕ). map mask (range_with_len 0 n)) (sym c.requires.vertices) in
    c.in_ok-own.ensures mask all ∙ ap (λ (n : ℕ). map mask (vertices_of n c.args.plan.now.parts c.args.p)) c.requires.vertices
