use Rattle.std.proofs.Common.{◌≡◌, ◌∙◌, rules}
use Rattle.replica.proofs.Names.{None, Some, State}
use Rattle.replica.specs.Level.{found_verdict}
use Rattle.replica.proofs.LevelLemmas.Busy.{found_verdict-is}
use Rattle.replica.proofs.shown.Shown.verdict.Goals as goal

pub returns-in-Some-clause-stands : goal.returns-in-Some-clause-stands
returns-in-Some-clause-stands g c = λ j p t h.
    let v : State = g.Self.Shown.state c.args.self.now in
    let said : None ≡ found_verdict v = search rules in
    said ∙ found_verdict-is j p t v h

pub returns-in-None-clause-stands : goal.returns-in-None-clause-stands
returns-in-None-clause-stands g c = λ j p t h.
    let v : State = g.Self.Shown.state c.args.self.now in
    let said : Some c.level_verdict.result ≡ found_verdict v = search rules in
    said ∙ found_verdict-is j p t v h
