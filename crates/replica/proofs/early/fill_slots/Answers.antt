use Rattle.std.proofs.Common.{◌≡◌, ℕ, ◌<◌, List, length, map, option_map, get_or, refl, sym, ◌∙◌, arith}
use Rattle.replica.proofs.Names.{Option, None, arc_value, length-map, map-set, get_or-map, BatchValue}
use Rattle.replica.specs.Ahead.{either, union_of_slots}
use Rattle.replica.proofs.LevelLemmas.Step.{step_done, step_rest, list_is}
use Rattle.replica.proofs.early.fill_slots.Goals as goal

-- what a slot has, as it was at first
here : {X : Type 0} (f : X → BatchValue) (xs ys : List (Option X)) (i : ℕ) (x : Option X) → i < length xs → get_or (map (option_map f) xs) i None ≡ get_or (map (option_map f) ys) i None → option_map f (get_or xs i x) ≡ get_or (map (option_map f) ys) i None
here f xs ys i x lt same = sym (get_or-map (option_map f) xs i x None lt) ∙ same

-- what a slot becomes
filling : {X : Type 0} (f : X → BatchValue) (kept others kept0 others0 : List (Option X)) (i : ℕ) (x y new : Option X) → i < length kept → i < length others →
    get_or (map (option_map f) kept) i None ≡ get_or (map (option_map f) kept0) i None → get_or (map (option_map f) others) i None ≡ get_or (map (option_map f) others0) i None → option_map f new ≡ either (option_map f (get_or kept i x)) (option_map f (get_or others i y)) →
    option_map f new ≡ either (get_or (map (option_map f) kept0) i None) (get_or (map (option_map f) others0) i None)
filling f kept others kept0 others0 i x y new lt lt2 same same2 made = made ∙ rw (here f kept kept0 i x lt same, here f others others0 i y lt2 same2) refl

pub loop-i-preserved : goal.loop-i-preserved
loop-i-preserved c =
    let inv = c.loop-i.invariant in
    let lt : c.loop-i.i < length c.loop-i.slots = omega (arith, c.loop-i.auto.slots, c.loop-i-test.true) in
    let lt2 : c.loop-i.i < length c.loop-i.others = omega (arith, c.loop-i.auto.others, c.loop-i-test.true, c.requires) in
    let F = option_map (arc_value {X = BatchValue}) in
    let long : c.loop-i.i < length (map F c.loop-i.slots) = simp length-map lt in
    let is = filling arc_value c.loop-i.slots c.loop-i.others c.args.slots.now c.args.others.now c.loop-i.i c.index-slots-i.result c.index-others-i.result c.fill_one.new.slot lt lt2 (inv.rest c.loop-i.i (omega arith)) (inv.others c.loop-i.i (omega arith)) c.fill_one.ensures in
    let G : ℕ → Option BatchValue = λ k. either (get_or (map F c.args.slots.now) k None) (get_or (map F c.args.others.now) k None) in
    record {
      done = rw (map-set F c.loop-i.slots c.loop-i.i c.fill_one.new.slot) (step_done G (map F c.loop-i.slots) None (F c.fill_one.new.slot) c.loop-i.i long is inv.done);
      rest = rw (map-set F c.loop-i.slots c.loop-i.i c.fill_one.new.slot) (step_rest (λ k. get_or (map F c.args.slots.now) k None) (map F c.loop-i.slots) None (F c.fill_one.new.slot) c.loop-i.i inv.rest);
      others = rw (map-set F c.loop-i.others c.loop-i.i c.fill_one.new.other) (step_rest (λ k. get_or (map F c.args.others.now) k None) (map F c.loop-i.others) None (F c.fill_one.new.other) c.loop-i.i inv.others);
    }

pub returns : goal.returns
unfolding union_of_slots
returns c =
    let F = option_map (arc_value {X = BatchValue}) in
    let size : length (map F c.args.slots.now) ≡ length c.args.slots.now = length-map c.args.slots.now F in
    list_is (λ k. either (get_or (map F c.args.slots.now) k None) (get_or (map F c.args.others.now) k None)) (map F c.loop-i.slots) None (length (map F c.args.slots.now))
    (omega (arith, length-map c.loop-i.slots F, c.loop-i.auto.slots, size)) (λ k lt. c.loop-i.invariant.done k (omega (arith, c.loop-i-test.false, size)))
