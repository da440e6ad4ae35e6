use Rattle.std.proofs.Common.{◌≡◌, ap, sym, ◌∙◌, subst}
use Rattle.replica.proofs.Names.{OnOk, State}
use Rattle.ball_model.specs.History.{holding_in}
use Rattle.ball_model.specs.Join.{join_of}
use Rattle.replica.proofs.MergedLemmas.Holding.{joined_if}
use Rattle.replica.proofs.replica.join.ReplicaJoin.join.Goals as goal

pub returns-clause-joined : goal.returns-clause-joined
returns-clause-joined c =
    let v = c.args.self.now in
    let stage = c.other.inside.stage.state in
    let w = c.take_over.new.self in
    subst (λ (o : State). OnOk c.take_over.result (holding_in w ≡ join_of (holding_in v) (holding_in o))) c.other.view_is
    (joined_if c.take_over.result v stage w (c.requires.plan ∙ sym (ap (λ (o : State). o.part.plan) c.other.view_is)) (c.requires.partition ∙ sym (ap (λ (o : State). o.part.number) c.other.view_is))
    c.take_over.ensures.taken)
