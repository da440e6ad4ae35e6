use Rattle.std.proofs.Common.{◌∙◌, subst, sym}
use Rattle.std.proofs.lemmas.Result.{err_from_is_err_and}
use Rattle.std.specs.Prelude.{OnErr, OnOk, Result}
use Rattle.ball_model.specs.Caller.{Caller}
use Rattle.ball_model.specs.History.{holding_in}
use Rattle.ball_model.specs.Join.{Holding}
use Rattle.ball_model.specs.State.{State}
use Rattle.workers.specs.declared.worker.node_run.NodeEnd.{NodeEnd}
use Rattle.workers.specs.declared.worker.node_run.NodeError.{NodeError}
use Rattle.workers.specs.Superstep.{EndsAs}
use Rattle.workers.specs.Tie.{HasPath, IsPath}
use Rattle.workers.proofs.NodeLemmas.{end_fits, ended, out_of_memory}
use Rattle.workers.proofs.SuperstepLemmas.{stands_at}
use Rattle.workers.proofs.worker.Worker.run_ready.Goals as goal

pub returns-in_err-shared-clause-ends : goal.returns-in_err-shared-clause-ends
returns-in_err-shared-clause-ends g c =
    let v : Caller = g.E.Exchange.caller c.args.exchange.now in
    let p = err_from_is_err_and c.from_residual.result c.from_residual.ensures.1 in
    subst (λ (r : Result NodeEnd NodeError). EndsAs v c.args.self.now.node.part c.args.self.now.orders r v) (sym p.1) (out_of_memory v c.args.self.now.node.part c.args.self.now.orders _ p.2)

pub returns-in_err-replica-clause-ends : goal.returns-in_err-replica-clause-ends
returns-in_err-replica-clause-ends g c =
    let v : Caller = g.E.Exchange.caller c.args.exchange.now in
    let p = err_from_is_err_and c.from_residual-in_err-replica.result c.from_residual-in_err-replica.ensures.1 in
    subst (λ (r : Result NodeEnd NodeError). EndsAs v c.args.self.now.node.part c.args.self.now.orders r v) (sym p.1) (out_of_memory v c.args.self.now.node.part c.args.self.now.orders _ p.2)

pub go_on-fate-requires-clause-part : goal.go_on-fate-requires-clause-part
go_on-fate-requires-clause-part g c κs within = record { job = c.requires.job; below = c.requires.node; part = c.in_ok-shared.ensures ∙ c.part-2.ensures ∙ c.requires.part }

pub go_on-fate-requires-clause-stands : goal.go_on-fate-requires-clause-stands
go_on-fate-requires-clause-stands g c κs within =
    let v : Caller = g.E.Exchange.caller c.args.exchange.now in
    let p = c.args.self.now.node.part in
    stands_at v.seen.job p _ _ (c.in_ok-replica.ensures v.seen.job p c.requires.job c.requires.node c.requires.part).stands

pub returns : goal.returns
returns g c =
    let v : Caller = g.E.Exchange.caller c.args.exchange.now in
    let w : Caller = g.E.Exchange.caller c.go_on-fate.new.exchange in
    let p = c.args.self.now.node.part in
    let r : State = c.go_on-fate.new.replica in
    let orders = c.args.self.now.orders in
    let held = (c.in_ok-replica.ensures v.seen.job p c.requires.job c.requires.node c.requires.part).held in
    let came = subst (λ (h : Holding). OnOk c.go_on-fate.result (IsPath orders.keep v p h (holding_in r) w)) held c.go_on-fate.ensures.came in
    let gone = subst (λ (h : Holding). OnErr c.go_on-fate.result (HasPath orders.keep v p h w)) held c.go_on-fate.ensures.gone in
    record {
      seen = c.go_on-fate.ensures.seen;
      ends = subst (λ (e : Result NodeEnd NodeError). EndsAs v p orders e w) (sym c.end_with.ensures) (ended v p orders r c.go_on-fate.result w c.requires.node c.go_on-fate.ensures.fate came gone c.go_on-fate.ensures.full);
      fits = λ one keep anew. end_fits c.go_on-fate.result r c.end_with.result c.end_with.ensures (c.go_on-fate.ensures.alone one keep anew);
    }
