use Rattle.std.proofs.Common.{◌≡◌, ◌∙◌, ℕ, true, refl, ap, subst, sym}
use Rattle.workers.proofs.SuperstepLemmas.{same_stands}
use Rattle.ball_model.specs.History.{holding_in}
use Rattle.ball_model.proofs.CheckLemmas.{on_err}
use Rattle.workers.proofs.PathLemmas.{come_nowhere, gone_nowhere, path_by_call}
use Rattle.workers.specs.Node.{is_kept_at}
use Rattle.workers.proofs.worker.Worker.keep_snapshot.Goals as goal

pub keep-requires : goal.keep-requires
keep-requires g c =
    let v = g.E.Exchange.caller c.args.exchange.now in
    record { snapshot = same_stands v.seen.job c.args.self.now.node.part c.args.replica.now _ c.requires.stands c.in_ok-snapshot.ensures.same }

pub returns-then-not-is_kept_at-clause-came : goal.returns-then-not-is_kept_at-clause-came
returns-then-not-is_kept_at-clause-came g c = come_nowhere _ _ _ _ refl c.args.self.now.orders.keep

pub returns-in_err-snapshot-clause-gone : goal.returns-in_err-snapshot-clause-gone
returns-in_err-snapshot-clause-gone g c = on_err c.from_residual.result (gone_nowhere _ _ _ _ refl)

pub returns-in_err-keep-clause-gone : goal.returns-in_err-keep-clause-gone
returns-in_err-keep-clause-gone g c = on_err c.from_residual-in_err-keep.result (gone_nowhere _ _ _ _ c.in_err-keep.ensures.refused)

pub returns-clause-came : goal.returns-clause-came
returns-clause-came g c =
    let due : is_kept_at c.args.self.now.orders.keep c.superstep.result ≡ true = sym c.is_kept_at.ensures ∙ c.if-not-is_kept_at.false in
    path_by_call _ _ _ _ _ _ _ c.in_ok-keep.ensures.ok (ap holding_in c.in_ok-snapshot.ensures.same) (ap holding_in (sym c.shared_snapshot.ensures.unchanged)) tt
    (subst (λ (n : ℕ). is_kept_at c.args.self.now.orders.keep n ≡ true) c.superstep.ensures.value due)
