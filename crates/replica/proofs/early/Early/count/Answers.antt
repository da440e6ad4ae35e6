use Rattle.std.proofs.Common.{length, ap, sym, ◌∙◌}
use Rattle.replica.proofs.Names.{arc_value, flat_map, length-map, BatchValue}
use Rattle.std.specs.Option.{option_to_list}
use Rattle.std.proofs.lemmas.Iterator.{YieldsList-from_slice}
use Rattle.std.proofs.lemmas.Iterator.Consumers.{count_from_yields_List, YieldsList-at}
use Rattle.std.proofs.lemmas.Iterator.Adapters.{YieldsList-from_flatten}
use Rattle.ball_model.specs.Checkpoint.{kept_batches}
use Rattle.replica.proofs.KeptLemmas.Kept.{kept_one_by_one}
use Rattle.replica.proofs.OptionLemmas.{YieldsList-from_option}
use Rattle.replica.proofs.early.Early.count.Goals as goal

pub returns : goal.returns
returns c =
    count_from_yields_List c.flatten.result c.count.result c.count.ensures.ran
    (YieldsList-from_flatten {v = λ y. y.now} {ys = c.self.inside.slots.items} _ _ (λ y. y.now) option_to_list (λ x j b. YieldsList-from_option j x.now b.0 b.1) (YieldsList-at c.flatten.ensures.source (YieldsList-from_slice c.self.inside.slots.items cc)) c.flatten.ensures.front c.flatten.ensures.back c.flatten.ensures.done)
    ∙ sym (length-map (flat_map option_to_list c.self.inside.slots.items) (arc_value {X = BatchValue}))
    ∙ sym (ap length (kept_one_by_one arc_value c.self.inside.parts c.self.inside.slots.items c.self.invariant))
    ∙ ap (λ e. length (kept_batches e)) c.self.view_is
