use Rattle.std.proofs.Common.{◌≡◌, ◌∙◌, List, ℕ, ap, arith, get_or, subst}
use Rattle.std.specs.Global.{Global}
use Rattle.std.specs.List.{flat_map}
use Rattle.std.specs.Prelude.{Vec}
use Rattle.ball_model.specs.Streams.{PutsFront}
use Rattle.report.proofs.FrontLemmas.{front_page}
use Rattle.report.proofs.pages.Pages.write_to.Goals as goal

pub returns-then-not-put_all-clause-front : goal.returns-then-not-put_all-clause-front
returns-then-not-put_all-clause-front g c = λ is.
    let text : Vec ℕ Global → List ℕ = λ page. page.items in
    let pages = c.deref-page-items.result.now in
    let whole : flat_map text pages ≡ c.args.self.now = ap (flat_map text) c.deref-page-items.ensures.value ∙ c.self.view_is in
    let here : PutsFront (g.W.Write.contents c.loop-page.writer) (g.W.Write.contents c.put_all.new.writer) (text (get_or pages c.loop-page.page-index c.page-item.result)) =
    subst (λ (l : List ℕ). PutsFront (g.W.Write.contents c.loop-page.writer) (g.W.Write.contents c.put_all.new.writer) l)
    (c.deref.ensures.value ∙ ap (λ (page : Vec ℕ Global). page.items) c.page-item.is) (c.put_all.ensures.front c.if-not-put_all.true) in
    subst (λ (l : List ℕ). PutsFront (g.W.Write.contents c.args.writer.now) (g.W.Write.contents c.put_all.new.writer) l) whole
    (front_page text pages c.loop-page.page-index c.page-item.result _ _ _ (omega arith) c.loop-page.invariant.0 here)
