use Rattle.std.proofs.Common.{◌≡◌, ◌+◌, ◌∙◌, sym, ap}
use Rattle.std.specs.Arc.{arc_value}
use Rattle.std.specs.Global.{Global}
use Rattle.std.specs.BTreeMap.{get}
use Rattle.ball_model.specs.Batches.{BatchValue}
use Rattle.ball_model.specs.State.{State}
use Rattle.ball_model.specs.History.{History, Fetch, entry, board_of}
use Rattle.board.specs.declared.event.HistoryEvent.TheVariants as noted
use Rattle.board.specs.Noted.{by_name}
use Rattle.board.specs.Book.{event_of, history_of}
use Rattle.board.proofs.BookLemmas.{noted as line, noted_next, stands-found, keeps-fetch}
use Rattle.board.proofs.book.Book.fetch.Goals as goal

pub invariant_of-self-2 : goal.invariant_of-self-2
invariant_of-self-2 c =
    let i = c.self.inside in
    let h : History = history_of i in
    let same = line h _ _ (entry c.args.by (event_of (noted.Fetch c.args.name))) c.share.ensures.calls c.note.ensures.calls in
    let more : c.note.new.self.entries ≡ i.calls.entries + 1 = c.note.ensures.entries ∙ ap (λ n. n + 1) c.share.ensures.entries in
    let found = stands-found (arc_value {X = BatchValue} {Z = Global}) (arc_value {X = State} {Z = Global}) h.job (board_of h) (get by_name i.standing) c.args.name c.in-Some.batch.now c.self.invariant.standing (sym c.in-Some.ensures.value) in
    keeps-fetch (arc_value {X = BatchValue} {Z = Global}) (arc_value {X = State} {Z = Global}) h _ c.args.by c.args.name i.calls.entries _ i.floor (get by_name i.standing) i.kept.items c.self.invariant same more found.0

pub returns-clause-next : goal.returns-clause-next
returns-clause-next c =
    noted_next c.args.limit c.args.by _ (history_of c.self.inside) _ _ _ (Fetch c.args.name)
    c.share.ensures.calls c.note.ensures.calls (invariant_of-self-2 c).legal c.self.view_is c.self.invariant.entries_are c.in_ok-copy.ensures.ok.1
