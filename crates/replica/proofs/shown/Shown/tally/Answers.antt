use Rattle.std.proofs.Common.{◌≡◌, ◌/◌, get_or, ◌∙◌, subst, arith}
use Rattle.replica.proofs.Names.{common_steps, State, no_figures, value_of}
use Rattle.replica.specs.Seen.{IsState}
use Rattle.replica.proofs.SeenLemmas.Read.{tally_stands}
use Rattle.replica.proofs.shown.Shown.tally.Goals as goal

pub returns-clause-stands : goal.returns-clause-stands
returns-clause-stands g c = λ j p t h.
    let v : State = g.Self.Shown.state c.args.self.now in
    let state : IsState v = subst (λ (u : State). IsState u) c.shown-s.ensures c.own_place.ensures.state in
    let value : value_of c.index-tallies-own_place.result ≡ get_or v.tallies (c.args.x / v.part.plan.parts) no_figures = grind (arith, common_steps) in
    value ∙ tally_stands j p t c.args.x v h state c.requires.vertex c.requires.own
