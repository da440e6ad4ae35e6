use Rattle.std.proofs.Common.{rules, ◌≡◌, ◌+◌, ◌/◌, ◌++◌, length, map, ap, ap₂, sym, ◌∙◌}
use Rattle.replica.proofs.Names.{length-map, map-append, take-append-drop, value_of}
use Rattle.replica.specs.Stepping.{CanStepBlock, StepsBlock}
use Rattle.replica.proofs.SteppingLemmas.{first_can_step, halves_stepped, last_can_step}
use Rattle.replica.proofs.stepping.+halves.Goals as goal

pub step_both-join_mut-one-requires-after_bounds : goal.step_both-join_mut-one-requires-after_bounds
step_both-join_mut-one-requires-after_bounds g t c κs within =
    let first = c.split_at in
    let front = c.split_at_mut-front in
    let low = c.split_at_mut-low in
    let m = c.args.half.now.step.now.estimator.now in
    let at = c.args.half.now.step.now.t in
    let old = c.args.half.now.old.now in
    let new = c.args.half.now.step.now.ahead.now in
    let from = c.args.span.now.from in
    let marks = c.args.span.now.marks.now in
    let up = from + length marks / 2 in
    let tallies = map value_of c.args.tallies.now in
    let lows = map value_of low.result.0.now in
    let highs = map value_of low.result.1.now in
    let split = sym (ap₂ ◌++◌ first.ensures.front first.ensures.back ∙ take-append-drop _ marks) in
    let figures = ap (map value_of) low.ensures.value ∙ map-append value_of low.result.0.now low.result.1.now in
    let wide = front.ensures.front_len ∙ sym first.ensures.front_len in
    let long = length-map low.result.0.now value_of ∙ low.ensures.front_len ∙ sym first.ensures.front_len in
    let lower : CanStepBlock m at old new from first.result.0.now front.result.0.now lows = first_can_step m at old new from marks first.result.0.now first.result.1.now c.args.weights.now front.result.0.now front.result.1.now tallies lows highs c.requires split front.ensures.value figures wide long in
    let upper : CanStepBlock m at old new up first.result.1.now front.result.1.now highs =
    last_can_step m at old new from up marks first.result.0.now first.result.1.now c.args.weights.now front.result.0.now front.result.1.now tallies lows highs c.requires split front.ensures.value figures wide long (ap (λ n. from + n) (sym first.ensures.front_len)) in
    search rules

pub step_both-returns : goal.step_both-returns
step_both-returns g t c =
    let front = c.split_at_mut-front in
    let low = c.split_at_mut-low in
    let m = c.args.half.now.step.now.estimator.now in
    let at = c.args.half.now.step.now.t in
    let new = c.args.half.now.step.now.ahead.now in
    let from = c.args.span.now.from in
    let up = from + length c.args.span.now.marks.now / 2 in
    let one : StepsBlock m at new from (map value_of low.result.0.now) (map value_of c.low-1.given.0) c.front-1.given.0 c.join_mut-one.result.0 = search rules in
    let two : StepsBlock m at new up (map value_of low.result.1.now) (map value_of c.high-1.given.0) c.back-1.given.0 c.join_mut-one.result.1 = search rules in
    let wide : length c.front-1.given.0 ≡ length front.result.0.now = search rules in
    halves_stepped m at new from up c.args.tallies.now low.result.0.now low.result.1.now c.low-1.given.0 c.high-1.given.0 c.front-1.given.0 c.back-1.given.0
    c.join_mut-one.result.0 c.join_mut-one.result.1 low.ensures.value (ap (λ n. from + n) (sym low.ensures.front_len))
    (wide ∙ front.ensures.front_len ∙ sym low.ensures.front_len) one two
