use Rattle.std.proofs.Common.{◌≡◌, ◌∙◌, ℕ, List, OnOk, subst}
use Rattle.std.specs.Prelude.{OnErr}
use Rattle.graph.specs.Labels.{texts, with_label}
use Rattle.edgelist.proofs.numbering.Numbering.insert_new.Goals as goal

pub returns-clause-found : goal.returns-clause-found
returns-clause-found c = c.insert_label.ensures.found

pub returns-clause-labels : goal.returns-clause-labels
returns-clause-labels c =
    subst (λ (ls : List (List ℕ)). OnOk c.insert_label.result (texts c.insert_label.new.labels ≡ with_label ls c.args.label.now)) (c.self.view_is ∙ c.make_room-room.ensures) c.insert_label.ensures.labels

pub returns-clause-kept : goal.returns-clause-kept
returns-clause-kept c =
    subst (λ (ls : List (List ℕ)). OnErr c.insert_label.result (texts c.insert_label.new.labels ≡ ls)) (c.self.view_is ∙ c.make_room-room.ensures) c.insert_label.ensures.kept
