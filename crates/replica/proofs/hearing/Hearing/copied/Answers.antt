use Rattle.std.proofs.Common.{◌≡◌, ℕ, Bool, List, [], false, rules, ap, sym, ◌∙◌}
use Rattle.replica.proofs.Names.{list_any, Table}
use Rattle.replica.specs.Hearing.{HearingValue}
use Rattle.replica.proofs.HearingLemmas.Hearing.{bare_same}
use Rattle.replica.proofs.hearing.Hearing.copied.Goals as goal

-- no rows of a width
abbrev bare : ℕ → Table
bare w = record { width = w; rows = [] }

pub returns : goal.returns
returns c =
    let any : List Bool → Bool = λ marks. list_any (λ mark. mark) marks in
    let none : any c.args.self.now.touched ≡ false = ap (λ (a : HearingValue). any a.touched) (sym c.self.view_is) ∙ sym (ap any c.deref.ensures.value) ∙ sym c.any_marked.ensures ∙ c.if-any_marked.false in
    let empty : c.new.result.items ≡ [] = search rules in
    λ rows kept. bare_same c.args.self.now _ rows none kept
    (ap (λ (a : HearingValue). a.heard) c.self.view_is)
    (ap (λ (a : HearingValue). a.change) c.self.view_is)
    (c.in_ok-accumulated-2.ensures ∙ ap bare c.width.ensures.value ∙ ap (λ (a : HearingValue). record a.accumulated { rows = [] }) c.self.view_is)
    empty
