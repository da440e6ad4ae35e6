use Rattle.std.proofs.Common.{◌∙◌, ℕ, ap, refl, sym, subst}
use Rattle.std.proofs.lemmas.Result.{err_from_is_err_and}
use Rattle.ball_model.specs.Caller.{Caller}
use Rattle.ball_model.specs.Job.{Job}
use Rattle.workers.specs.declared.worker.superstep.SuperstepEnd.{SuperstepEnd}
use Rattle.workers.specs.Node.{FallsDue}
use Rattle.workers.specs.Superstep.{HasStarved, IsSuperstepEnd}
use Rattle.workers.specs.Tie.{KeptIfTold}
use Rattle.ball_model.proofs.CheckLemmas.{on_err}
use Rattle.workers.proofs.PathLemmas.{come_nowhere, err_not_as, left_by, left_then, ok_is_no_err, path_then}
use Rattle.workers.proofs.SeenLemmas.{caller_of, extends_self, extends_trans, kept_before, starved_before, told_before}
use Rattle.workers.proofs.SuperstepLemmas.{done_of, part_later, stands_back, stands_later}
use Rattle.workers.proofs.worker.Worker.go_on.Goals as goal

pub returns-in-Over-clause-fate : goal.returns-in-Over-clause-fate
returns-in-Over-clause-fate g c =
    let caller = g.E.Exchange.caller in
    let v : Caller = caller c.args.exchange.now in
    let w : Caller = caller c.run_superstep.new.exchange in
    let p : ℕ = c.args.self.now.node.part in
    let r = c.run_superstep.new.replica in
    let end = subst (λ (t : SuperstepEnd). IsSuperstepEnd (caller c.loop.exchange) p r t w) c.in-Over.is c.in_ok-run_superstep.ensures.ends.is in
    let stands = stands_back v (caller c.loop.exchange) p r c.loop.invariant.0 c.in_ok-run_superstep.ensures.ends.stands in
    let keep : ℕ = c.args.self.now.orders.keep in
    let same = c.in_ok-run_superstep.ensures.ends.stays (λ next. let both = sym next ∙ c.in-Over.is in absurd (cc)) in
    let kept = kept_before keep c.loop.replica.superstep v _ w c.loop.invariant.0 c.in_ok-run_superstep.ensures.ends.kept in (
      told_before v _ w _ p c.loop.invariant.0 end.0,
      subst (λ (s : ℕ). KeptIfTold keep v s w) (sym same) kept,
      done_of v.seen.job p r stands end.1,
      λ due. c.falls_due.ensures.spared c.if-falls_due.false (subst (FallsDue c.args.self.now.orders.lose) (same ∙ sym c.superstep-superstep.ensures.value) due),
    )

pub returns-in-Starved-clause-fate : goal.returns-in-Starved-clause-fate
returns-in-Starved-clause-fate g c =
    let caller = g.E.Exchange.caller in
    let v : Caller = caller c.args.exchange.now in
    let w : Caller = caller c.run_superstep.new.exchange in
    let p : ℕ = c.args.self.now.node.part in
    let q : ℕ = c.in-Starved.source in
    let r = c.run_superstep.new.replica in
    let end = subst (λ (t : SuperstepEnd). IsSuperstepEnd (caller c.loop.exchange) p r t w) c.in-Starved.is c.in_ok-run_superstep.ensures.ends.is in
    let keep : ℕ = c.args.self.now.orders.keep in
    let same = c.in_ok-run_superstep.ensures.ends.stays (λ next. let both = sym next ∙ c.in-Starved.is in absurd (cc)) in
    let kept = kept_before keep c.loop.replica.superstep v _ w c.loop.invariant.0 c.in_ok-run_superstep.ensures.ends.kept in (
      subst (λ (s : ℕ). HasStarved v s q p w) (sym c.superstep-superstep-in-Starved.ensures.value) (starved_before v _ w _ q p c.loop.invariant.0 end),
      subst (λ (s : ℕ). KeptIfTold keep v s w) (sym (c.superstep-superstep-in-Starved.ensures.value ∙ same)) kept,
    )

pub returns-then-falls_due-clause-came : goal.returns-then-falls_due-clause-came
returns-then-falls_due-clause-came g c = c.loop.invariant.3

pub returns-in_err-begin_anew-clause-gone : goal.returns-in_err-begin_anew-clause-gone
returns-in_err-begin_anew-clause-gone g c = on_err c.from_residual.result (left_then _ _ _ _ _ _ _ c.loop.invariant.0 c.loop.invariant.3 (left_by _ _ _ _ _ c.in_err-begin_anew.ensures.gone))

pub returns-in_err-run_superstep-clause-gone : goal.returns-in_err-run_superstep-clause-gone
returns-in_err-run_superstep-clause-gone g c = on_err c.from_residual-in_err-run_superstep.result (left_then _ _ _ _ _ _ _ c.loop.invariant.0 c.loop.invariant.3 c.in_err-run_superstep.ensures.gone)

pub returns-in-Over-clause-came : goal.returns-in-Over-clause-came
returns-in-Over-clause-came g c = path_then _ _ _ _ _ _ _ _ c.loop.invariant.0 c.loop.invariant.3 c.in_ok-run_superstep.ensures.ends.came

pub returns-in-Starved-clause-came : goal.returns-in-Starved-clause-came
returns-in-Starved-clause-came g c = path_then _ _ _ _ _ _ _ _ c.loop.invariant.0 c.loop.invariant.3 c.in_ok-run_superstep.ensures.ends.came

pub loop-init : goal.loop-init
loop-init g c = (extends_self _ c.requires.caller, c.requires.stands, λ h. h, come_nowhere _ _ _ _ refl c.args.self.now.orders.keep)

pub loop-preserved-then-falls_due-2 : goal.loop-preserved-then-falls_due-2
loop-preserved-then-falls_due-2 g c =
    let v : Caller = g.E.Exchange.caller c.args.exchange.now in
    let u : Caller = g.E.Exchange.caller c.loop.exchange in
    let i = c.loop.invariant in (
      extends_trans v u _ i.0 c.begin_anew.ensures.seen,
      stands_back v u c.args.self.now.node.part c.begin_anew.new.replica i.0 c.in_ok-begin_anew.ensures.stands,
      λ _. refl,
      path_then _ v u _ _ _ _ _ i.0 i.3 (c.in_ok-begin_anew.ensures.came c.args.self.now.orders.keep),
    )

pub loop-preserved : goal.loop-preserved
loop-preserved g c =
    let v : Caller = g.E.Exchange.caller c.args.exchange.now in
    let u : Caller = g.E.Exchange.caller c.loop.exchange in
    let i = c.loop.invariant in (
      extends_trans v u _ i.0 c.run_superstep.ensures.seen,
      stands_back v u c.args.self.now.node.part c.run_superstep.new.replica i.0 c.in_ok-run_superstep.ensures.ends.stands,
      i.2,
      path_then _ v u _ _ _ _ _ i.0 i.3 c.in_ok-run_superstep.ensures.ends.came,
    )

pub begin_anew-requires-clause-caller : goal.begin_anew-requires-clause-caller
begin_anew-requires-clause-caller g c κs within = caller_of _ _ c.loop.invariant.0

pub begin_anew-requires-clause-part : goal.begin_anew-requires-clause-part
begin_anew-requires-clause-part g c κs within = part_later (g.E.Exchange.caller c.args.exchange.now) (g.E.Exchange.caller c.loop.exchange) _ _ c.loop.invariant.0 c.requires.part

pub run_superstep-requires-clause-caller : goal.run_superstep-requires-clause-caller
run_superstep-requires-clause-caller g c κs within = caller_of _ _ c.loop.invariant.0

pub run_superstep-requires-clause-stands : goal.run_superstep-requires-clause-stands
run_superstep-requires-clause-stands g c κs within = stands_later (g.E.Exchange.caller c.args.exchange.now) (g.E.Exchange.caller c.loop.exchange) _ c.loop.replica c.loop.invariant.0 c.loop.invariant.1

pub returns-then-falls_due-clause-seen : goal.returns-then-falls_due-clause-seen
returns-then-falls_due-clause-seen g c = c.loop.invariant.0

pub returns-then-falls_due-clause-stands : goal.returns-then-falls_due-clause-stands
returns-then-falls_due-clause-stands g c = c.loop.invariant.1

pub returns-in_err-begin_anew-clause-seen : goal.returns-in_err-begin_anew-clause-seen
returns-in_err-begin_anew-clause-seen g c = extends_trans _ _ _ c.loop.invariant.0 c.begin_anew.ensures.seen

pub returns-in_err-run_superstep-clause-seen : goal.returns-in_err-run_superstep-clause-seen
returns-in_err-run_superstep-clause-seen g c = extends_trans _ _ _ c.loop.invariant.0 c.run_superstep.ensures.seen

pub returns-in-Over-clause-seen : goal.returns-in-Over-clause-seen
returns-in-Over-clause-seen g c = extends_trans _ _ _ c.loop.invariant.0 c.run_superstep.ensures.seen

pub returns-in-Starved-clause-seen : goal.returns-in-Starved-clause-seen
returns-in-Starved-clause-seen g c = extends_trans _ _ _ c.loop.invariant.0 c.run_superstep.ensures.seen

pub returns-in-Over-clause-stands : goal.returns-in-Over-clause-stands
returns-in-Over-clause-stands g c = stands_back (g.E.Exchange.caller c.args.exchange.now) (g.E.Exchange.caller c.loop.exchange) _ c.run_superstep.new.replica c.loop.invariant.0 c.in_ok-run_superstep.ensures.ends.stands

pub returns-in-Starved-clause-stands : goal.returns-in-Starved-clause-stands
returns-in-Starved-clause-stands g c = stands_back (g.E.Exchange.caller c.args.exchange.now) (g.E.Exchange.caller c.loop.exchange) _ c.run_superstep.new.replica c.loop.invariant.0 c.in_ok-run_superstep.ensures.ends.stands

pub returns-in_err-begin_anew-clause-stands : goal.returns-in_err-begin_anew-clause-stands
returns-in_err-begin_anew-clause-stands g c = let p = err_from_is_err_and c.from_residual.result c.from_residual.ensures.1 in rw (p.1) tt

pub returns-in_err-begin_anew-clause-fate : goal.returns-in_err-begin_anew-clause-fate
returns-in_err-begin_anew-clause-fate g c = let p = err_from_is_err_and c.from_residual.result c.from_residual.ensures.1 in rw (p.1) tt

pub returns-in_err-begin_anew-clause-came : goal.returns-in_err-begin_anew-clause-came
returns-in_err-begin_anew-clause-came g c = let p = err_from_is_err_and c.from_residual.result c.from_residual.ensures.1 in rw (p.1) tt

pub returns-in_err-begin_anew-clause-full : goal.returns-in_err-begin_anew-clause-full
returns-in_err-begin_anew-clause-full g c = let p = err_from_is_err_and c.from_residual.result c.from_residual.ensures.1 in rw (p.1, p.2) c.in_err-begin_anew.ensures.full

pub returns-in_err-run_superstep-clause-stands : goal.returns-in_err-run_superstep-clause-stands
returns-in_err-run_superstep-clause-stands g c = let p = err_from_is_err_and c.from_residual-in_err-run_superstep.result c.from_residual-in_err-run_superstep.ensures.1 in rw (p.1) tt

pub returns-in_err-run_superstep-clause-fate : goal.returns-in_err-run_superstep-clause-fate
returns-in_err-run_superstep-clause-fate g c = let p = err_from_is_err_and c.from_residual-in_err-run_superstep.result c.from_residual-in_err-run_superstep.ensures.1 in rw (p.1) tt

pub returns-in_err-run_superstep-clause-came : goal.returns-in_err-run_superstep-clause-came
returns-in_err-run_superstep-clause-came g c = let p = err_from_is_err_and c.from_residual-in_err-run_superstep.result c.from_residual-in_err-run_superstep.ensures.1 in rw (p.1) tt

pub returns-in_err-run_superstep-clause-full : goal.returns-in_err-run_superstep-clause-full
returns-in_err-run_superstep-clause-full g c = let p = err_from_is_err_and c.from_residual-in_err-run_superstep.result c.from_residual-in_err-run_superstep.ensures.1 in rw (p.1, p.2) c.in_err-run_superstep.ensures.full

pub returns-in_err-run_superstep-clause-alone : goal.returns-in_err-run_superstep-clause-alone
returns-in_err-run_superstep-clause-alone g c = λ one keep _. let p = err_from_is_err_and c.from_residual-in_err-run_superstep.result c.from_residual-in_err-run_superstep.ensures.1 in rw (p.1, p.2) (err_not_as _ _ (c.in_err-run_superstep.ensures.alone (ap (λ (j : Job). j.plan.parts) c.loop.invariant.0.begins.job ∙ one) keep))

pub returns-then-falls_due-clause-gone : goal.returns-then-falls_due-clause-gone
returns-then-falls_due-clause-gone g c = tt

pub returns-then-falls_due-clause-full : goal.returns-then-falls_due-clause-full
returns-then-falls_due-clause-full g c = tt

pub returns-then-falls_due-clause-alone : goal.returns-then-falls_due-clause-alone
returns-then-falls_due-clause-alone g c = λ _ _ _. ok_is_no_err _ _

pub returns-in-Over-clause-gone : goal.returns-in-Over-clause-gone
returns-in-Over-clause-gone g c = tt

pub returns-in-Over-clause-full : goal.returns-in-Over-clause-full
returns-in-Over-clause-full g c = tt

pub returns-in-Over-clause-alone : goal.returns-in-Over-clause-alone
returns-in-Over-clause-alone g c = λ _ _ _. ok_is_no_err _ _

pub returns-in-Starved-clause-gone : goal.returns-in-Starved-clause-gone
returns-in-Starved-clause-gone g c = tt

pub returns-in-Starved-clause-full : goal.returns-in-Starved-clause-full
returns-in-Starved-clause-full g c = tt

pub returns-in-Starved-clause-alone : goal.returns-in-Starved-clause-alone
returns-in-Starved-clause-alone g c = λ _ _ _. ok_is_no_err _ _

pub returns-then-falls_due-clause-fate : goal.returns-then-falls_due-clause-fate
returns-then-falls_due-clause-fate g c = (c.falls_due.ensures.due c.if-falls_due.true, c.superstep-superstep.ensures.value)
