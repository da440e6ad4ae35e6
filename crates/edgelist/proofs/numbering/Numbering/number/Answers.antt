use Rattle.std.proofs.Common.{ℕ, List, subst, arith}
use Rattle.edgelist.specs.Guessing.{IsShort, AreGuesses}
use Rattle.edgelist.proofs.GuessLemmas.{with-label-at}
use Rattle.edgelist.proofs.numbering.Numbering.number.Goals as goal

pub returns-in-Some-clause-labels : goal.returns-in-Some-clause-labels
returns-in-Some-clause-labels c =
    let short : IsShort c.args.label.now = record { bytes = λ i. omega (arith, c.type_inv.label i); few = omega (arith, c.if-label-gt-SHORT.false) } in
    let told : AreGuesses c.args.self.now c.deref.result.now = rw c.deref.ensures.value (subst (λ (ls : List (List ℕ)). AreGuesses ls c.self.inside.entries.items) c.self.view_is c.self.invariant) in
    with-label-at c.args.self.now c.args.label.now c.in-Some.number (rw c.in-Some.is at (c.guess.ensures c.args.self.now c.args.label.now told short (c.requires short)))
