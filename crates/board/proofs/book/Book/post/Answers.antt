use Rattle.std.proofs.Common.{◌≡◌, ◌+◌, ◌∙◌, sym, ap, subst}
use Rattle.std.specs.Arc.{arc_value}
use Rattle.std.specs.Global.{Global}
use Rattle.std.specs.BTreeMap.{get}
use Rattle.ball_model.specs.Batches.{BatchValue, IsTrueBatch, true_batch}
use Rattle.ball_model.specs.State.{State}
use Rattle.ball_model.specs.History.{History, Post, entry}
use Rattle.board.specs.declared.event.HistoryEvent.TheVariants as noted
use Rattle.board.specs.Noted.{by_name}
use Rattle.board.specs.Book.{event_of, history_of}
use Rattle.board.proofs.BookLemmas.{noted as line, noted_next, keeps-post}
use Rattle.board.proofs.book.Book.post.Goals as goal

pub invariant_of-self-2 : goal.invariant_of-self-2
invariant_of-self-2 c =
    let i = c.self.inside in
    let h : History = history_of i in
    let same = line h _ _ (entry c.args.by (event_of (noted.Post c.name-name.result c.in_ok-reply.reply))) c.share.ensures.calls c.note.ensures.calls in
    let more : c.note.new.self.entries ≡ i.calls.entries + 1 = c.note.ensures.entries ∙ ap (λ n. n + 1) c.share.ensures.entries in
    let a = c.in_ok-copy.copy in
    let name : c.name-name.result ≡ (arc_value a).name = c.name-name.ensures.value ∙ ap (λ (b : BatchValue). b.name) c.deref.ensures in
    let asked : IsTrueBatch h.job (arc_value a) = subst (IsTrueBatch h.job) (sym c.in_ok-copy.ensures.ok.0) (subst (λ (k : History). IsTrueBatch k.job (arc_value c.args.batch.now)) (sym c.self.view_is) c.requires) in
    let true_of : arc_value a ≡ true_batch h.job c.name-name.result = asked ∙ ap (true_batch h.job) (sym name) in
    keeps-post (arc_value {X = BatchValue} {Z = Global}) (arc_value {X = State} {Z = Global}) h _ c.args.by c.name-name.result c.in_ok-reply.reply a i.calls.entries _ i.floor (get by_name i.standing) _ i.kept.items c.self.invariant same more true_of c.in_ok-reply.ensures.reply c.in_ok-reply.ensures.put

pub returns-clause-next : goal.returns-clause-next
returns-clause-next c =
    noted_next c.args.limit c.args.by _ (history_of c.self.inside) _ _ _ (Post c.name-name.result c.in_ok-reply.reply)
    c.share.ensures.calls c.note.ensures.calls (invariant_of-self-2 c).legal c.self.view_is c.self.invariant.entries_are c.in_ok-copy.ensures.ok.1
