use Rattle.std.proofs.Common.{◌≡◌, ◌+◌, ◌∙◌, ap, max}
use Rattle.std.specs.Arc.{arc_value}
use Rattle.std.specs.Global.{Global}
use Rattle.std.specs.BTreeMap.{get}
use Rattle.ball_model.specs.Batches.{BatchValue}
use Rattle.ball_model.specs.State.{State}
use Rattle.ball_model.specs.History.{History, Drop, entry}
use Rattle.board.specs.declared.event.HistoryEvent.TheVariants as noted
use Rattle.board.specs.Noted.{by_name}
use Rattle.board.specs.Book.{event_of, history_of}
use Rattle.board.proofs.BookLemmas.{noted as line, noted_next, keeps-drop}
use Rattle.board.proofs.book.Book.drop_below.Goals as goal

pub invariant_of-self-2 : goal.invariant_of-self-2
invariant_of-self-2 c =
    let i = c.self.inside in
    let h : History = history_of i in
    let same = line h _ _ (entry c.args.by (event_of (noted.DropBelow c.args.superstep))) c.make_room.ensures.calls c.note.ensures.calls in
    let more : c.note.new.self.entries ≡ i.calls.entries + 1 = c.note.ensures.entries ∙ ap (λ n. n + 1) c.make_room.ensures.entries in
    let m : c.max-self-inside.result ≡ max i.floor c.args.superstep = c.max-self-inside.ensures in
    keeps-drop (arc_value {X = BatchValue} {Z = Global}) (arc_value {X = State} {Z = Global}) h _ c.args.by c.args.superstep i.calls.entries _ i.floor _ (get by_name i.standing) _ i.kept.items c.self.invariant same more (m ∙ ap (λ f. max f c.args.superstep) c.self.invariant.floor_is) c.in_ok-dropped.ensures.left

pub returns-clause-next : goal.returns-clause-next
returns-clause-next c =
    noted_next c.args.limit c.args.by _ (history_of c.self.inside) _ _ _ (Drop c.args.superstep)
    c.make_room.ensures.calls c.note.ensures.calls (invariant_of-self-2 c).legal c.self.view_is c.self.invariant.entries_are c.in_ok-make_room.ensures.ok.0
