use Rattle.std.proofs.Common.{◌≡◌, ℕ, ◌+◌, ◌<◌, List, [], length, map, get_or, ap, sym, ◌∙◌, arith}
use Rattle.replica.proofs.Names.{length-map, length-set, map-set, get_or-map, value_of, weight_of, TallyValue, estimate_with, no_figures, sum_by-set, Tally, passed}
use Rattle.replica.specs.Level.{next_tally}
use Rattle.replica.proofs.TalliesLemmas.{still}
use Rattle.replica.proofs.LevelLemmas.Step.{step_done, step_rest, stepped_same}
use Rattle.replica.proofs.stepping.step_block.Goals as goal

-- the figures at a place, as they were at first
here : (xs ys : List Tally) (i : ℕ) (d : Tally) → i < length xs → get_or (map value_of xs) i no_figures ≡ get_or (map value_of ys) i no_figures → value_of (get_or xs i d) ≡ get_or (map value_of ys) i no_figures
here xs ys i d lt same = sym (get_or-map value_of xs i d no_figures lt) ∙ same

pub loop-k-preserved : goal.loop-k-preserved
loop-k-preserved c =
    let k = c.loop-k.k in
    let m = c.args.blocks.now.step.now.estimator.now in
    let t = c.args.blocks.now.step.now.t in
    let new = c.args.blocks.now.step.now.ahead.now in
    let can = c.requires in
    let inv = c.loop-k.invariant in
    let tallies = map value_of c.args.tallies.now in
    let own = c.args.weights.now in
    let next = c.next_marked-k-in-loop-k.result in
    let is = c.next_marked-k-in-loop-k.ensures in
    let lt : k < length c.loop-k.tallies = omega (arith, c.loop-k-test.true, inv.long, sym (length-map c.args.tallies.now value_of) ∙ can.all) in
    let inside : k < length c.loop-k.weights = omega (arith, c.loop-k-test.true, inv.as_many, can.each) in
    let at = here c.loop-k.tallies c.args.tallies.now k c.index-tallies-k.result lt (inv.rest k (omega arith)) in
    let written = map-set value_of c.loop-k.tallies k c.step_tally-gain.new.tally in
    let long : k < length (map value_of c.loop-k.tallies) = simp length-map lt in
    let F : ℕ → TallyValue = λ j. next_tally t (get_or tallies j no_figures) (estimate_with m (get_or new.rows (c.args.span.now.from + j) [])) in
    let W : ℕ → ℕ = λ j. weight_of (get_or new.rows (c.args.span.now.from + j) []) in
    let is_stepped : value_of c.step_tally-gain.new.tally ≡ F k = c.step_tally-gain.ensures.figures ∙ stepped_same c.args.blocks.now.step.now.t at (ap (estimate_with c.args.blocks.now.step.now.estimator.now) c.row-next.ensures.value) in
    record {
      in_range = is.high;
      long = length-set c.loop-k.tallies k c.step_tally-gain.new.tally ∙ inv.long;
      as_many = length-set c.loop-k.weights k c.step_tally-gain.new.weight ∙ inv.as_many;
      done = rw written (passed F (λ j. get_or tallies j no_figures) _ no_figures (k + 1) next
          (step_done F (map value_of c.loop-k.tallies) no_figures (value_of c.step_tally-gain.new.tally) k long is_stepped inv.done)
          (step_rest (λ j. get_or tallies j no_figures) (map value_of c.loop-k.tallies) no_figures (value_of c.step_tally-gain.new.tally) k inv.rest)
          (λ j low below. let some : j < length c.args.span.now.marks.now = omega (arith, below, is.high) in sym (still t _ (get_or tallies j no_figures) can.low (can.lasts j some (is.blank j low below)))));
      rest = λ j low. rw written (step_rest (λ i. get_or tallies i no_figures) (map value_of c.loop-k.tallies) no_figures (value_of c.step_tally-gain.new.tally) k inv.rest j (omega (arith, is.low, low)));
      moved = passed W (λ j. get_or own j 0) _ 0 (k + 1) next
          (step_done W c.loop-k.weights 0 c.step_tally-gain.new.weight k inside (c.step_tally-gain.ensures.weight ∙ ap weight_of c.row-next.ensures.value) inv.moved)
          (step_rest (λ j. get_or own j 0) c.loop-k.weights 0 c.step_tally-gain.new.weight k inv.still)
          (λ j low below. let some : j < length c.args.span.now.marks.now = omega (arith, below, is.high) in can.weights j some ∙ ap weight_of (can.same j some (is.blank j low below)));
      still = λ j low. step_rest (λ i. get_or own i 0) c.loop-k.weights 0 c.step_tally-gain.new.weight k inv.still j (omega (arith, is.low, low));
      gain = omega (arith, sum_by-set (λ (tally : Tally). tally.last) c.loop-k.tallies k c.step_tally-gain.new.tally c.index-tallies-k.result lt, inv.gain, c.step_tally-gain.ensures.gain);
      small = omega (arith, inv.small, c.step_tally-gain.ensures.small, is.low);
    }
