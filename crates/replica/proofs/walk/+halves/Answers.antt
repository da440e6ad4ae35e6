use Rattle.std.proofs.Common.{rules, arith, ◌≡◌, ◌≤◌, ◌+◌, ◌*◌, length, map, ap, ap₂, sym, ◌∙◌}
use Rattle.replica.proofs.Names.{length-map, map-append, value_of}
use Rattle.replica.specs.Walk.{CanWalkBlock, WalksBlock}
use Rattle.replica.proofs.WalkLemmas.{first_can_walk, halves_walked, last_can_walk}
use Rattle.replica.proofs.walk.+halves.Goals as goal

pub walk_both-overflow_add-up : goal.walk_both-overflow_add-up
walk_both-overflow_add-up g t c = omega (arith, c.requires.pull.inside, c.middle-mid.ensures, c.limits.ensures.few)

pub walk_both-join_mut-one-requires-after_bounds : goal.walk_both-join_mut-one-requires-after_bounds
walk_both-join_mut-one-requires-after_bounds g t c κs within =
    let front = c.split_at_mut-front in
    let first = c.split_at_mut-first in
    let light = c.split_at_mut-light in
    let low = c.split_at_mut-low in
    let half = c.args.half.now in
    let m = half.estimator.now in
    let part = half.pull.part.now in
    let rows = half.pull.rows.now in
    let marks = half.pull.marks.now in
    let from = c.args.from in
    let up = from + c.middle-mid.result in
    let tallies = map value_of c.args.tallies.now in
    let lows = map value_of low.result.0.now in
    let highs = map value_of low.result.1.now in
    let filled : length front.result.0.now ≡ length first.result.0.now * rows.width = front.ensures.front_len ∙ ap₂ (λ m w. m * w) (sym first.ensures.front_len) c.width.ensures.value in
    let figures = ap (map value_of) low.ensures.value ∙ map-append value_of low.result.0.now low.result.1.now in
    let wide = light.ensures.front_len ∙ sym first.ensures.front_len in
    let long = length-map low.result.0.now value_of ∙ low.ensures.front_len ∙ sym first.ensures.front_len in
    let lower : CanWalkBlock m half.t part half.stale rows marks from front.result.0.now first.result.0.now light.result.0.now lows =
    first_can_walk m half.t part half.stale rows marks from c.args.cells.now front.result.0.now front.result.1.now c.args.touched.now first.result.0.now first.result.1.now c.args.weights.now light.result.0.now light.result.1.now tallies lows highs c.requires front.ensures.value first.ensures.value light.ensures.value figures filled wide long in
    let upper : CanWalkBlock m half.t part half.stale rows marks up front.result.1.now first.result.1.now light.result.1.now highs =
    last_can_walk m half.t part half.stale rows marks from up c.args.cells.now front.result.0.now front.result.1.now c.args.touched.now first.result.0.now first.result.1.now c.args.weights.now light.result.0.now light.result.1.now tallies lows highs c.requires front.ensures.value first.ensures.value light.ensures.value figures filled wide long (ap (λ m. from + m) (sym first.ensures.front_len)) in
    search rules

pub walk_both-returns : goal.walk_both-returns
walk_both-returns g t c =
    let front = c.split_at_mut-front in
    let first = c.split_at_mut-first in
    let light = c.split_at_mut-light in
    let low = c.split_at_mut-low in
    let half = c.args.half.now in
    let m = half.estimator.now in
    let part = half.pull.part.now in
    let rows = half.pull.rows.now in
    let marks = half.pull.marks.now in
    let from = c.args.from in
    let up = from + c.middle-mid.result in
    let filled : length front.result.0.now ≡ length first.result.0.now * rows.width = front.ensures.front_len ∙ ap₂ (λ m w. m * w) (sym first.ensures.front_len) c.width.ensures.value in
    let one : WalksBlock m half.t part half.stale rows marks from front.result.0.now c.front-1.given.0 first.result.0.now c.first-1.given.0 (map value_of low.result.0.now) (map value_of c.low-1.given.0) c.light-1.given.0 c.join_mut-one.result.0 = search rules in
    let two : WalksBlock m half.t part half.stale rows marks up front.result.1.now c.back-1.given.0 first.result.1.now c.last-1.given.0 (map value_of low.result.1.now) (map value_of c.high-1.given.0) c.heavy-1.given.0 c.join_mut-one.result.1 = search rules in
    let long : length c.front-1.given.0 ≡ length front.result.0.now = search rules in
    let still : length c.first-1.given.0 ≡ length first.result.0.now = search rules in
    let wide : length c.light-1.given.0 ≡ length light.result.0.now = search rules in
    let fits : from + length c.args.touched.now ≤ length rows.rows = omega (arith, c.requires.pull.inside, c.requires.pull.can.count) in
    halves_walked m half.t part half.stale rows marks from up c.args.cells.now front.result.0.now front.result.1.now c.front-1.given.0 c.back-1.given.0
    c.args.touched.now first.result.0.now first.result.1.now c.first-1.given.0 c.last-1.given.0
    c.args.tallies.now low.result.0.now low.result.1.now c.low-1.given.0 c.high-1.given.0 c.light-1.given.0 c.heavy-1.given.0 c.join_mut-one.result.0 c.join_mut-one.result.1 fits
    front.ensures.value first.ensures.value low.ensures.value (ap (λ m. from + m) (sym first.ensures.front_len)) filled long still
    (low.ensures.front_len ∙ sym first.ensures.front_len) (wide ∙ light.ensures.front_len ∙ sym first.ensures.front_len) one two
