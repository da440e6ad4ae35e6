use Rattle.std.proofs.Common.{◌∙◌, ℕ, ◌+◌, ap, sym, subst}
use Rattle.std.specs.Prelude.{Option, Some}
use Rattle.std.specs.Arc.{arc_value}
use Rattle.ball_model.specs.Streams.{AreSure}
use Rattle.checkpoint.specs.Reading.{most_checkpoint_bytes}
use Rattle.world.proofs.KeepLemmas.{only_want}
use Rattle.world.proofs.node.read_back.Goals as goal

pub returns-in-Ok-clause-back : goal.returns-in-Ok-clause-back
returns-in-Ok-clause-back c = λ v keeps part is. c.in-Ok.ensures.back v keeps part (ap Some (c.new-reader.ensures.left ∙ is))

pub want_of-requires : goal.want_of-requires
want_of-requires c =
    let kept = c.requires in
    only_want c.in-Err.error (c.in-Err.ensures.back kept.replica kept.keepable kept.part_is (ap Some (c.new-reader.ensures.left ∙ kept.bytes_are)))
    (c.in-Err.ensures.only (subst (λ (o : Option ℕ). AreSure o (most_checkpoint_bytes (arc_value c.args.part) (arc_value c.args.part).plan.limit + 1)) (sym c.new-reader.ensures.good) tt))
