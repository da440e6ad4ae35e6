use Rattle.std.proofs.Common.{◌+◌, ◌*◌, ◌++◌, length, ap, ap₂, sym, ◌∙◌}
use Rattle.std.proofs.lemmas.List.{length-append, take-append-drop}
use Rattle.registers.proofs.TakenLemmas.{both_taken, first_can, last_can}
use Rattle.registers.proofs.takes.+halves.Goals as goal

pub take_halves-take_both-requires-clause-front : goal.take_halves-take_both-requires-clause-front
take_halves-take_both-requires-clause-front g t c =
    let first = c.split_at in
    let front = c.split_at_mut-front in
    λ κs lives.
    first_can c.args.source.ahead.now c.args.source.marks.now first.result.0.now first.result.1.now c.args.source.from c.args.cells.now front.result.0.now front.result.1.now c.requires
    (sym (ap₂ ◌++◌ first.ensures.front first.ensures.back ∙ take-append-drop _ c.args.source.marks.now)) front.ensures.value
    (front.ensures.front_len ∙ ap₂ (λ m w. m * w) (sym first.ensures.front_len) c.width.ensures.value)

pub take_halves-take_both-requires-clause-back : goal.take_halves-take_both-requires-clause-back
take_halves-take_both-requires-clause-back g t c =
    let first = c.split_at in
    let front = c.split_at_mut-front in
    λ κs lives.
    last_can c.args.source.ahead.now c.args.source.marks.now first.result.0.now first.result.1.now c.args.source.from _ c.args.cells.now front.result.0.now front.result.1.now c.requires
    (sym (ap₂ ◌++◌ first.ensures.front first.ensures.back ∙ take-append-drop _ c.args.source.marks.now)) front.ensures.value
    (front.ensures.front_len ∙ ap₂ (λ m w. m * w) (sym first.ensures.front_len) c.width.ensures.value)
    (ap (λ m. c.args.source.from + m) (sym first.ensures.front_len))

pub take_halves-returns : goal.take_halves-returns
take_halves-returns g t c =
    let first = c.split_at in
    let front = c.split_at_mut-front in
    let m = length first.result.0.now in
    let split = sym (ap₂ ◌++◌ first.ensures.front first.ensures.back ∙ take-append-drop _ c.args.source.marks.now) in
    both_taken c.args.source.ahead.now c.args.source.from _ m (length first.result.1.now) (length c.args.source.marks.now) c.take_both.new.front c.take_both.new.back
    (c.take_both.auto.front ∙ front.ensures.front_len ∙ ap₂ (λ m w. m * w) (sym first.ensures.front_len) c.width.ensures.value)
    (ap length split ∙ length-append first.result.0.now first.result.1.now) (ap (λ k. c.args.source.from + k) (sym first.ensures.front_len)) c.take_both.ensures.front c.take_both.ensures.back
