use Rattle.std.proofs.Common.{◌≢◌, ◌<◌, ◌+◌, ℕ, ap, arith, refl, sym, subst}
use Rattle.std.proofs.lemmas.Result.{err_from_is_err_and}
use Rattle.ball_model.specs.PlanValue.{PlanValue}
use Rattle.ball_model.specs.Caller.{Caller, Extends}
use Rattle.replica.specs.Sent.{batch_name}
use Rattle.workers.specs.Node.{HasPosted}
use Rattle.ball_model.specs.History.{holding_in}
use Rattle.ball_model.specs.Join.{Holding}
use Rattle.workers.specs.Tie.{HasCome}
use Rattle.ball_model.proofs.CheckLemmas.{on_err}
use Rattle.workers.proofs.PathLemmas.{come_nowhere, come_then, gone_then, ok_is_no_err}
use Rattle.workers.proofs.SeenLemmas.{caller_of, extends_self, extends_trans, told_more}
use Rattle.workers.proofs.SuperstepLemmas.{below_job, below_later, below_plan, no_other, stands_later}
use Rattle.workers.proofs.worker.Worker.tell_each.Goals as goal
use Rattle.workers.proofs.worker.Worker.tell_each.Goals.{then-target-self+in_ok-tell, else-target-self}

pub tell-requires-clause-target : goal.tell-requires-clause-target
tell-requires-clause-target g c κs within =
    let parts = ap (λ (a : PlanValue). a.parts) c.plan.ensures in
    let lt : c.loop-target.target < c.args.replica.now.part.plan.parts = omega (arith, c.loop-target-test.true, c.loop-target.auto.target-end, c.parts-target-end.ensures.value, parts) in
    below_later _ _ _ c.loop-target.invariant.0 (below_job _ _ _ _ c.args.replica.now c.requires.stands lt)

pub returns-in_err-tell-clause-alone : goal.returns-in_err-tell-clause-alone
returns-in_err-tell-clause-alone g c = λ one _.
    let parts = ap (λ (a : PlanValue). a.parts) c.plan.ensures in
    let lt : c.loop-target.target < c.args.replica.now.part.plan.parts = omega (arith, c.loop-target-test.true, c.loop-target.auto.target-end, c.parts-target-end.ensures.value, parts) in
    no_other _ _ _ _ c.args.replica.now c.requires.stands (below_job _ _ _ _ c.args.replica.now c.requires.stands lt) c.if-target-self.true one

pub loop-target-preserved : goal.loop-target-preserved
loop-target-preserved g c =
    let caller = g.E.Exchange.caller in
    let v : Caller = caller c.args.exchange.now in
    let s : ℕ = c.args.replica.now.superstep in
    let p : ℕ = c.args.self.now.node.part in
    let n : ℕ = c.loop-target.target in
    let h : Holding = holding_in c.args.replica.now in
    elim c.if-target-self.branch [
      | then-target-self+in_ok-tell w ↦
          subst (λ (k : Caller). Extends v k × ((r : ℕ) → r < n + 1 → r ≢ p → HasPosted v (batch_name s p r) k) × HasCome v p h h k) (sym (ap caller w.exchange-is))
          (extends_trans v _ _ c.loop-target.invariant.0 w.tell.ensures.seen, told_more v _ _ s p n c.loop-target.invariant.0 c.loop-target.invariant.1 w.tell.ensures.seen w.in_ok-tell.ensures.posted, come_then v _ _ p h h h c.loop-target.invariant.0 c.loop-target.invariant.2 w.in_ok-tell.ensures.came)
      | else-target-self w ↦
          subst (λ (k : Caller). Extends v k × ((r : ℕ) → r < n + 1 → r ≢ p → HasPosted v (batch_name s p r) k) × HasCome v p h h k) (sym (ap caller w.exchange-is))
          (c.loop-target.invariant.0, λ r lt other. c.loop-target.invariant.1 r (omega (arith, lt, other, w.if-target-self.false)) other, c.loop-target.invariant.2)
    ]

pub returns-clause-told : goal.returns-clause-told
returns-clause-told g c = λ r lt other.
    let parts = ap (λ (a : PlanValue). a.parts) c.plan.ensures in
    let below : r < c.args.replica.now.part.plan.parts = below_plan _ _ _ r c.args.replica.now c.requires.stands lt in
    c.loop-target.invariant.1 r (omega (arith, below, c.loop-target-test.false, c.loop-target.auto.target-end, c.parts-target-end.ensures.value, parts)) other

pub loop-target-init : goal.loop-target-init
loop-target-init g c = (extends_self _ c.requires.caller, λ r lt other. absurd (omega (arith, lt)), come_nowhere _ _ _ _ refl)

pub returns-in_err-tell-clause-gone : goal.returns-in_err-tell-clause-gone
returns-in_err-tell-clause-gone g c = on_err c.from_residual.result (gone_then _ _ _ _ _ _ c.loop-target.invariant.0 c.loop-target.invariant.2 c.in_err-tell.ensures.gone)

pub returns-clause-came : goal.returns-clause-came
returns-clause-came g c = c.loop-target.invariant.2

pub returns-in_err-tell-clause-seen : goal.returns-in_err-tell-clause-seen
returns-in_err-tell-clause-seen g c = extends_trans _ _ _ c.loop-target.invariant.0 c.tell.ensures.seen

pub returns-in_err-tell-clause-told : goal.returns-in_err-tell-clause-told
returns-in_err-tell-clause-told g c = let p = err_from_is_err_and c.from_residual.result c.from_residual.ensures.1 in rw (p.1) tt

pub returns-in_err-tell-clause-came : goal.returns-in_err-tell-clause-came
returns-in_err-tell-clause-came g c = let p = err_from_is_err_and c.from_residual.result c.from_residual.ensures.1 in rw (p.1) tt

pub returns-in_err-tell-clause-full : goal.returns-in_err-tell-clause-full
returns-in_err-tell-clause-full g c = let p = err_from_is_err_and c.from_residual.result c.from_residual.ensures.1 in rw (p.1, p.2) c.in_err-tell.ensures.full

pub returns-clause-seen : goal.returns-clause-seen
returns-clause-seen g c = c.loop-target.invariant.0

pub returns-clause-gone : goal.returns-clause-gone
returns-clause-gone g c = tt

pub returns-clause-full : goal.returns-clause-full
returns-clause-full g c = tt

pub returns-clause-alone : goal.returns-clause-alone
returns-clause-alone g c = λ _. ok_is_no_err _ _

pub tell-requires-clause-caller : goal.tell-requires-clause-caller
tell-requires-clause-caller g c κs within = caller_of _ _ c.loop-target.invariant.0

pub tell-requires-clause-stands : goal.tell-requires-clause-stands
tell-requires-clause-stands g c κs within = stands_later (g.E.Exchange.caller c.args.exchange.now) _ c.args.self.now.node.part c.args.replica.now c.loop-target.invariant.0 c.requires.stands
