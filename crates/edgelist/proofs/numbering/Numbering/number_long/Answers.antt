use Rattle.std.proofs.Common.{ℕ, List, subst}
use Rattle.graph.specs.Finding.{StandsAt}
use Rattle.edgelist.proofs.GuessLemmas.{with-label-at}
use Rattle.edgelist.proofs.numbering.Numbering.number_long.Goals as goal

pub returns-in-Some-clause-labels : goal.returns-in-Some-clause-labels
returns-in-Some-clause-labels c =
    with-label-at c.args.self.now c.args.label.now c.in-Some.number (subst (λ (ls : List (List ℕ)). StandsAt ls c.args.label.now c.in-Some.number) c.self.view_is c.in-Some.ensures)
