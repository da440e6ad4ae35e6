use Rattle.std.proofs.Common.{◌≡◌, true, length, ap, refl, ◌∙◌}
use Rattle.replica.proofs.Names.{Table}
use Rattle.replica.specs.Hearing.{HearingValue, caught_up}
use Rattle.replica.proofs.HearingLemmas.Spare.{joined, taken_back}
use Rattle.replica.proofs.hearing.Hearing.take_back.Goals as goal

pub returns-then-len-ne0 : goal.returns-then-len-ne0
returns-then-len-ne0 g c =
    let a = c.args.self.now in
    let spare = c.args.spare.now in
    let rows = c.args.tables.now.rows in
    let some : length spare.accumulated.rows ≡ 0 → ⊥ = λ none. c.if-len-ne0.true (c.len.ensures.value ∙ ap (λ (h : HearingValue). length h.accumulated.rows) c.spare.view_is ∙ none) in
    let own : c.exchange.new.self ≡ caught_up true rows (joined a spare) =
    c.exchange.ensures.own
    ∙ ap (λ (t : Table). record { heard = a.heard; change = a.change; accumulated = t; touched = c.spare.inside.touched.items }) (c.take_over.ensures ∙ c.rows.ensures)
    ∙ ap (λ (h : HearingValue). caught_up true rows (joined a h)) c.spare.view_is in
    rw (own, c.exchange.ensures.other) (taken_back rows c.args.tables.now.marks a spare a c.requires.spare some refl refl)
