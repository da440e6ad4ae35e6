use Rattle.std.proofs.Common.{◌≡◌, option_map, ap, ◌∙◌}
use Rattle.replica.proofs.Names.{Some, arc_value, slice_get, flat_map, BatchValue}
use Rattle.std.specs.Option.{option_to_list}
use Rattle.std.proofs.lemmas.Iterator.{YieldsList-from_slice}
use Rattle.std.proofs.lemmas.Iterator.Consumers.{nth_from_yields_List, YieldsList-at}
use Rattle.std.proofs.lemmas.Iterator.Adapters.{YieldsList-from_flatten}
use Rattle.ball_model.specs.Checkpoint.{kept_batches}
use Rattle.replica.proofs.KeptLemmas.Kept.{nth_one_by_one}
use Rattle.replica.proofs.OptionLemmas.{YieldsList-from_option}
use Rattle.replica.proofs.early.Early.nth.Goals as goal
use Rattle.replica.proofs.early.Early.nth.Goals.{After-nth}

-- the batch that is found, as those that are kept have it
found : (c : After-nth) → option_map arc_value (option_map (λ b. b.now) c.nth.result) ≡ slice_get (kept_batches c.args.self.now) c.args.i
found c =
    let slots = c.self.inside.slots.items in
    let is : option_map (λ b. b.now) c.nth.result ≡ slice_get (flat_map option_to_list slots) c.args.i =
    nth_from_yields_List c.nth.result c.nth.new.self c.args.i c.nth.ensures.ran
    (YieldsList-from_flatten {v = λ y. y.now} {ys = slots} _ _ (λ y. y.now) option_to_list (λ x j b. YieldsList-from_option j x.now b.0 b.1) (YieldsList-at c.flatten.ensures.source (YieldsList-from_slice slots cc)) c.flatten.ensures.front c.flatten.ensures.back c.flatten.ensures.done) in
    ap (option_map (arc_value {X = BatchValue})) is
    ∙ nth_one_by_one arc_value c.self.inside.parts slots c.args.i c.self.invariant
    ∙ ap (λ e. slice_get (kept_batches e) c.args.i) c.self.view_is

pub returns-in-Some : goal.returns-in-Some
returns-in-Some c = ap Some c.deref-in-Some.ensures ∙ (rw c.in-Some.is at (found (goal.at.returns-in-Some c).After-nth))

pub returns-in-None : goal.returns-in-None
returns-in-None c = rw c.in-None.is at (found (goal.at.returns-in-None c).After-nth)
