use Rattle.std.proofs.Common.{refl}
use Rattle.std.specs.Arc.{arc_value}
use Rattle.ball_model.specs.Job.{part_of}
use Rattle.graph.specs.Feeding.{masks_of}
use Rattle.graph.proofs.OwnLemmas.{part-is}
use Rattle.graph.proofs.part.part_by.Goals as goal

pub invariant_of-result : goal.invariant_of-result
invariant_of-result c =
    part-is c.args.plan.now c.args.graph.now.graph c.args.p (arc_value c.in_ok-lists.lists) (masks_of (arc_value c.args.feeds)) c.in_ok-counted.counted.items c.parts.ensures.plan c.requires.below c.requires.vertices
    c.in_ok-lists.ensures c.requires.feeds c.in_ok-counted.ensures

pub returns : goal.returns
unfolding part_of
returns c = rw (c.in_ok-lists.ensures, c.requires.feeds, c.in_ok-counted.ensures) refl
