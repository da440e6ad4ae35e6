use Rattle.std.proofs.Common.{◌≡◌, Option, Some, List, [], ◌∷◌, ◌++◌, sym, ap, ◌∙◌, subst}
use Rattle.atomic_table.specs.Table.{opening}
use Rattle.ball_model.specs.History.{History}
use Rattle.board.specs.Rule.{IsLocked, first_view}
use Rattle.board.proofs.SeatLemmas.{opens}
use Rattle.board.proofs.board.start_table.Goals as goal

pub new-requires : goal.new-requires
new-requires c =
    let book : History = c.args.book in
    let items : c.push.new.self.items ≡ Some book ∷ [] = c.in_ok-push.ensures.items ∙ ap (λ (l : List (Option History)). l ++ Some book ∷ []) c.new-slots.ensures.items in
    subst (λ (x : List (Option History) × History). IsLocked (opening (1 ∷ 0 ∷ 0 ∷ []) x.0 (first_view x.1 c.args.entries))) (λ i. (sym items i, sym c.of.ensures i))
    (opens book c.args.entries c.requires.book.1 c.requires.book.0 c.requires.entries)
