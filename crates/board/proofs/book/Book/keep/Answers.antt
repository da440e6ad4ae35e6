use Rattle.std.proofs.Common.{◌≡◌, ◌+◌, ◌<◌, ◌∙◌, sym, ap, subst, length}
use Rattle.std.specs.Arc.{arc_value}
use Rattle.std.specs.Global.{Global}
use Rattle.std.specs.BTreeMap.{get}
use Rattle.ball_model.specs.Batches.{BatchValue}
use Rattle.ball_model.specs.State.{State, Stands}
use Rattle.ball_model.specs.History.{History, Keep, entry, with_entry, holding_in}
use Rattle.board.specs.declared.event.HistoryEvent.TheVariants as noted
use Rattle.board.specs.Noted.{by_name}
use Rattle.board.specs.Book.{event_of, history_of}
use Rattle.board.proofs.BookLemmas.{noted as line, noted_next, keeps-keep}
use Rattle.board.proofs.book.Book.keep.Goals as goal

pub invariant_of-self-2 : goal.invariant_of-self-2
invariant_of-self-2 c =
    let i = c.self.inside in
    let h : History = history_of i in
    let a = c.in_ok-copy.copy in
    let reply = c.put_snapshot-reply.result.0 in
    let same = line h _ _ (entry c.args.by (event_of (noted.Keep c.of-seen.result reply))) c.share.ensures.calls c.note.ensures.calls in
    let more : c.note.new.self.entries ≡ i.calls.entries + 1 = c.note.ensures.entries ∙ ap (λ n. n + 1) c.share.ensures.entries in
    let stands : Stands h.job (arc_value a) = subst (Stands h.job) (sym c.in_ok-copy.ensures.ok.0) (subst (λ (k : History). Stands k.job (arc_value c.args.snapshot.now)) (sym c.self.view_is) c.requires) in
    let fits : (arc_value a).part.number < length i.kept.items = subst (λ n. (arc_value a).part.number < n) (sym c.self.invariant.places) stands.partition in
    let value : c.of-seen.result.value ≡ arc_value a = c.of-seen.ensures ∙ c.deref.ensures in
    let same_event = same ∙ ap (λ (v : State). with_entry h (entry c.args.by (Keep (holding_in v) reply))) value in
    keeps-keep (arc_value {X = BatchValue} {Z = Global}) (arc_value {X = State} {Z = Global}) h _ c.args.by reply a i.calls.entries _ i.floor (get by_name i.standing) i.kept.items _ c.self.invariant same_event more fits stands c.put_snapshot-reply.ensures.reply c.put_snapshot-reply.ensures.put

pub returns-clause-next : goal.returns-clause-next
returns-clause-next c =
    noted_next c.args.limit c.args.by _ (history_of c.self.inside) _ _ _ (Keep (holding_in c.of-seen.result.value) c.put_snapshot-reply.result.0)
    c.share.ensures.calls c.note.ensures.calls (invariant_of-self-2 c).legal c.self.view_is c.self.invariant.entries_are c.in_ok-copy.ensures.ok.1
