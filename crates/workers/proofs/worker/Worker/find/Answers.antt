use Rattle.std.proofs.lemmas.Option.{MatchOption-at_none, MatchOption-at_some}
use Rattle.std.specs.Arc.{arc_value}
use Rattle.ball_model.specs.History.{holding_in}
use Rattle.workers.proofs.SuperstepLemmas.{taken_stands}
use Rattle.ball_model.proofs.CheckLemmas.{on_err}
use Rattle.workers.proofs.PathLemmas.{come_nowhere, gone_nowhere, come_by_call, own_take}
use Rattle.workers.proofs.worker.Worker.find.Goals as goal

pub returns-clause-stands : goal.returns-clause-stands
returns-clause-stands g c =
    let v = g.E.Exchange.caller c.args.exchange.now in
    let true_of = MatchOption-at_some _ _ c.in-Some.batch c.in-Some.is c.in_ok-batch.ensures.batch in
    taken_stands v.seen.job c.args.self.now.node.part c.args.replica.now c.take.new.self (arc_value c.in-Some.batch) _ true_of (λ is. c.take.ensures.stands v.seen.job c.args.self.now.node.part _ c.requires.stands is)

pub returns-in_err-batch-clause-gone : goal.returns-in_err-batch-clause-gone
returns-in_err-batch-clause-gone g c = on_err c.from_residual.result (gone_nowhere _ _ _ _ c.in_err-batch.ensures.refused)

pub returns-in_default-clause-came : goal.returns-in_default-clause-came
returns-in_default-clause-came g c = come_nowhere _ _ _ _ (MatchOption-at_none _ _ c.in_default.is c.in_ok-batch.ensures.none)

pub returns-clause-came : goal.returns-clause-came
returns-clause-came g c =
    let v = g.E.Exchange.caller c.args.exchange.now in
    let p = c.args.self.now.node.part in
    let called = MatchOption-at_some _ _ c.in-Some.batch c.in-Some.is c.in_ok-batch.ensures.found in
    let true_of = MatchOption-at_some _ _ c.in-Some.batch c.in-Some.is c.in_ok-batch.ensures.batch in
    come_by_call v _ p _ (holding_in c.args.replica.now) _ called tt (own_take v.seen.job p _ (arc_value c.in-Some.batch) c.take.result c.args.replica.now c.take.new.self c.requires.stands c.superstep.ensures.state true_of (c.take.ensures.step v.seen.job p)) tt (λ keep. tt)
