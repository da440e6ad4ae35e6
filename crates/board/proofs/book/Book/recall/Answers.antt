use Rattle.std.proofs.Common.{◌≡◌, ◌+◌, ◌∙◌, sym, ap}
use Rattle.std.specs.Prelude.{slice_index_or, Some, None}
use Rattle.std.specs.Arc.{arc_value}
use Rattle.std.specs.Global.{Global}
use Rattle.std.specs.BTreeMap.{get}
use Rattle.ball_model.specs.Batches.{BatchValue}
use Rattle.ball_model.specs.State.{State}
use Rattle.ball_model.specs.History.{History, Recall, entry, with_entry, holding_in}
use Rattle.board.specs.declared.event.HistoryEvent.TheVariants as noted
use Rattle.board.specs.Noted.{by_name}
use Rattle.board.specs.Book.{event_of, history_of}
use Rattle.board.proofs.BookLemmas.{noted as line, noted_next, keeps-recall}
use Rattle.board.proofs.book.Book.recall.Goals as goal

pub invariant_of-self-2 : goal.invariant_of-self-2
invariant_of-self-2 c =
    let i = c.self.inside in
    let h : History = history_of i in
    let same = line h _ _ (entry c.args.by (event_of (noted.Recall c.args.part c.args.at_least c.of.result))) c.share.ensures.calls c.note.ensures.calls in
    let more : c.note.new.self.entries ≡ i.calls.entries + 1 = c.note.ensures.entries ∙ ap (λ n. n + 1) c.share.ensures.entries in
    let value : c.of.result.value ≡ arc_value c.in-Some.snapshot.now = c.of.ensures ∙ (c.deref-2.ensures ∙ c.in_ok-copy.ensures.ok.0) in
    let found : slice_index_or i.kept.items c.args.part None ≡ Some c.in-Some.snapshot.now = ap (λ l. slice_index_or l c.args.part None) (sym c.deref.ensures.value) ∙ c.in-Some.ensures.found.0 in
    let same_event = same ∙ ap (λ (v : State). with_entry h (entry c.args.by (Recall c.args.part c.args.at_least (holding_in v)))) value in
    keeps-recall (arc_value {X = BatchValue} {Z = Global}) (arc_value {X = State} {Z = Global}) h _ c.args.by c.args.part c.args.at_least c.in-Some.snapshot.now i.calls.entries _ i.floor (get by_name i.standing) i.kept.items c.self.invariant same_event more found c.in-Some.ensures.found.1

pub returns-clause-next : goal.returns-clause-next
returns-clause-next c =
    noted_next c.args.limit c.args.by _ (history_of c.self.inside) _ _ _ (Recall c.args.part c.args.at_least (holding_in c.of.result.value))
    c.share.ensures.calls c.note.ensures.calls (invariant_of-self-2 c).legal c.self.view_is c.self.invariant.entries_are c.in_ok-copy.ensures.ok.1
