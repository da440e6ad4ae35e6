use Rattle.std.proofs.Common.{refl, sym}
use Rattle.ball_model.proofs.CheckLemmas.{on_err}
use Rattle.workers.proofs.PathLemmas.{come_anew, come_then, gone_nowhere, gone_then}
use Rattle.workers.proofs.SeenLemmas.{extends_self}
use Rattle.workers.proofs.SuperstepLemmas.{stands_at}
use Rattle.workers.proofs.worker.Worker.begin_anew.Goals as goal

pub catch_up-requires-clause-stands : goal.catch_up-requires-clause-stands
catch_up-requires-clause-stands g c κs within =
    let v = g.E.Exchange.caller c.args.exchange.now in
    let first = c.in_ok-replace_replica.ensures.first v.seen.job c.args.self.now.node.part c.requires.part.job c.requires.part.below c.requires.part.part in
    stands_at v.seen.job c.args.self.now.node.part _ _ first.stands

pub returns-in_err-replace_replica-clause-gone : goal.returns-in_err-replace_replica-clause-gone
returns-in_err-replace_replica-clause-gone g c = on_err c.from_residual.result (gone_nowhere _ _ _ _ refl)

pub returns-in_err-catch_up-clause-gone : goal.returns-in_err-catch_up-clause-gone
returns-in_err-catch_up-clause-gone g c =
    let v = g.E.Exchange.caller c.args.exchange.now in
    let p = c.args.self.now.node.part in
    let first = c.in_ok-replace_replica.ensures.first v.seen.job p c.requires.part.job c.requires.part.below c.requires.part.part in
    on_err c.from_residual-in_err-catch_up.result (gone_then v v _ p _ _ (extends_self v c.requires.caller) (come_anew v p _ _ (sym first.held)) c.in_err-catch_up.ensures.gone)

pub returns-clause-came : goal.returns-clause-came
returns-clause-came g c =
    let v = g.E.Exchange.caller c.args.exchange.now in
    let p = c.args.self.now.node.part in
    let first = c.in_ok-replace_replica.ensures.first v.seen.job p c.requires.part.job c.requires.part.below c.requires.part.part in
    come_then v v _ p _ _ _ (extends_self v c.requires.caller) (come_anew v p _ _ (sym first.held)) c.in_ok-catch_up.ensures.came
