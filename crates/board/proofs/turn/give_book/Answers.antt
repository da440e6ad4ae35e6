use Rattle.std.proofs.Common.{◌≡◌, ℕ, List, [], ◌∷◌, Option, Some, ap, ◌∙◌, refl, arith}
use Rattle.atomic_table.specs.Table.{rest, Me}
use Rattle.ball_model.specs.History.{History}
use Rattle.board.specs.View.{View}
use Rattle.board.specs.Rule.{at_turn}
use Rattle.board.proofs.MoveLemmas.{writes_at, raises_at}
use Rattle.board.proofs.turn.give_book.Goals as goal

pub store-requires : goal.store-requires
store-requires c =
    let x = c.exchange-left.ensures in
    let has : c.exchange-left.new.seat.me ≡ (c.args.pass.now.me.0, (0, Some c.args.book) ∷ []) = x.3 ∙ ap (λ (xs : List (ℕ × Option History)). (c.args.pass.now.me.0, (0, Some c.args.book) ∷ rest xs)) c.requires.turn.1 in
    (x.0 ∙ c.requires.table.1, omega (arith, c.requires.table.0.0), writes_at _ _ _ c.args.pass.now.me.0 c.args.book _ has (c.from-length.ensures ∙ c.entries.ensures.entries) c.requires.turn.0 c.requires.next)

pub fetch_add-served-requires : goal.fetch_add-served-requires
fetch_add-served-requires c =
    let x = c.exchange-left.ensures in
    let s = c.store.ensures in
    let has : c.exchange-left.new.seat.me ≡ (c.args.pass.now.me.0, (0, Some c.args.book) ∷ []) = x.3 ∙ ap (λ (xs : List (ℕ × Option History)). (c.args.pass.now.me.0, (0, Some c.args.book) ∷ rest xs)) c.requires.turn.1 in
    let wrote : c.store.new.seat.me ≡ (at_turn c.args.pass.now.me.0 c.args.book, (0, Some c.args.book) ∷ []) =
    s.2 c.args.book (ap (λ (m : Me (Option History) View). m.1) has) ∙ ap (λ (m : Me (Option History) View). (at_turn m.0 c.args.book, m.1)) has in
    (s.0 ∙ (x.0 ∙ c.requires.table.1), omega (arith, c.requires.table.0.0), raises_at _ _ _ (at_turn c.args.pass.now.me.0 c.args.book) wrote refl)
