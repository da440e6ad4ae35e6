use Rattle.std.proofs.Common.{◌≡◌, Bool, List, [], false, ap, sym, ◌∙◌}
use Rattle.replica.proofs.Names.{list_any}
use Rattle.replica.specs.Hearing.{HearingValue}
use Rattle.replica.proofs.HearingLemmas.Hearing.{bare_same}
use Rattle.replica.proofs.hearing.Hearing.let_go.Goals as goal

pub returns-then-not-any_marked : goal.returns-then-not-any_marked
returns-then-not-any_marked c =
    let any : List Bool → Bool = λ marks. list_any (λ mark. mark) marks in
    let none : any c.args.self.now.touched ≡ false = ap (λ (a : HearingValue). any a.touched) (sym c.self.view_is) ∙ sym (ap any c.deref.ensures.value) ∙ sym c.any_marked.ensures ∙ c.if-not-any_marked.true in
    λ rows kept. bare_same c.args.self.now _ rows none kept
    (ap (λ (a : HearingValue). a.heard) c.self.view_is)
    (ap (λ (a : HearingValue). a.change) c.self.view_is)
    (c.clear.ensures ∙ ap (λ (a : HearingValue). record a.accumulated { rows = [] }) c.self.view_is)
    (c.shrink_to_fit.ensures.items ∙ c.clear-then-not-any_marked.ensures.items)
