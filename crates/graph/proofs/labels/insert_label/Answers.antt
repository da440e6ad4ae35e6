use Rattle.std.proofs.Common.{◌∙◌, ℕ, List, subst, sym, Vec, Global}
use Rattle.std.specs.Str.{bytes_eq}
use Rattle.graph.specs.Finding.{StandsAt}
use Rattle.graph.specs.Labels.{texts}
use Rattle.graph.proofs.LabelLemmas.{place-map, texts-insert, with-label, label-at}
use Rattle.graph.proofs.labels.insert_label.Goals as goal

abbrev text : Vec ℕ Global → List ℕ
text v = v.items

pub returns-clause-labels : goal.returns-clause-labels
returns-clause-labels c =
    texts-insert c.args.label.now text c.args.labels.now.keys _ c.in_ok-from_slice.field-0 c.in_ok-from_slice.ensures.items c.in_ok-number.ensures.keys
    ∙ with-label c.args.label.now (texts c.args.labels.now)

pub returns-clause-found : goal.returns-clause-found
returns-clause-found c =
    let here = label-at c.args.label.now (texts c.args.labels.now) c.in_ok-number.number
    (rw c.in_ok-from_slice.ensures.items at c.in_ok-number.ensures.index ∙ place-map (bytes_eq c.args.label.now) text c.args.labels.now.keys) in
    subst (λ (all : List (List ℕ)). StandsAt all c.args.label.now c.in_ok-number.number) (sym (returns-clause-labels c)) (record { within = here.0; is = here.1 })
