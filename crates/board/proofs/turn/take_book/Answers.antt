use Rattle.std.proofs.Common.{◌≡◌, ap, sym, ◌∙◌, List, ℕ, [], ◌∷◌, Option, Some}
use Rattle.atomic_table.specs.Table.{Me, rest}
use Rattle.ball_model.specs.History.{History}
use Rattle.board.specs.View.{View}
use Rattle.board.proofs.turn.take_book.Goals as goal

pub exchange-requires : goal.exchange-requires
exchange-requires g c =
    let w = c.wait.ensures in
    let d = c.draw-ticket.ensures in
    let book : Option History = Some c.wait.new.pass.me.0.seen in
    let has : c.wait.new.pass.me.1 ≡ (0, book) ∷ [] = ap (λ (m : Me (Option History) View). m.1) w.turn in
    (w.same.0 ∙ (d.same.0 ∙ c.requires.table.1), (book, has ∙ ap (λ (xs : List (ℕ × Option History)). (0, book) ∷ rest xs) (sym has)))
