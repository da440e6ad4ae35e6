use Rattle.std.proofs.Common.{◌≡◌, ◌∙◌, ℕ, [], length, ap}
use Rattle.std.proofs.lemmas.List.{length-replicate}
use Rattle.ball_model.specs.PlanValue.{part_size}
use Rattle.graph.specs.Feeding.{AreMasks, masks_of}
use Rattle.graph.proofs.FeedLemmas.{masks-none, masks-feeds}
use Rattle.graph.proofs.feeds.feeds_over.Goals as goal

pub returns : goal.returns
returns c =
    let n = c.args.size in
    let step = c.args.stride.step in
    let first = c.args.stride.first in
    let parts = c.args.plan.now.parts in
    let long : length (masks_of c.in_ok-feeds.feeds) ≡ part_size c.args.plan.now.vertices step first = ap (length {A = ℕ}) c.in_ok-feeds.ensures.masks ∙ length-replicate n 0 ∙ c.requires.size in
    let start : AreMasks step first parts [] (masks_of c.in_ok-feeds.feeds) = rw c.in_ok-feeds.ensures.masks (masks-none step first parts n) in
    masks-feeds c.args.graph.now.graph c.args.plan.now.vertices c.args.graph.now.graph.vertices step first parts (masks_of c.mark_edges.new.feeds) c.requires.vertices c.requires.stride c.parts.ensures.plan.parts_from c.parts.ensures.plan.parts_to (c.mark_edges.ensures.size ∙ long) (c.mark_edges.ensures.masks start)
