use Rattle.std.proofs.Common.{◌≡◌, ◌∙◌, ◌++◌, ◌∷◌, [], ℕ, List, ap, sym, append_assoc}
use Rattle.stored.proofs.blocks.put_preds.Goals as goal

pub loop-y-preserved : goal.loop-y-preserved
loop-y-preserved c =
    let turn : c.loop-y.y-iterator ≡ c.in-Some.y ∷ c.next.new.self = rw c.in-Some.is at c.next.ensures.steps in
    let is = c.loop-y.invariant.left ∙ ap (λ (l : List ℕ). c.loop-y.yielded ++ l) turn in
    record {
      left = is ∙ sym (append_assoc c.loop-y.yielded (c.in-Some.y ∷ []) c.next.new.self);
      items = c.in_ok-push.ensures.items ∙ ap (λ (l : List ℕ). l ++ c.in-Some.y ∷ []) c.loop-y.invariant.items;
    }
