use Rattle.std.proofs.Common.{◌∙◌, refl}
use Rattle.replica.proofs.LevelLemmas.Level.{number_is}
use Rattle.workers.proofs.SuperstepLemmas.{below_plan, true_shared, told_by_call}
use Rattle.ball_model.proofs.CheckLemmas.{on_err}
use Rattle.workers.proofs.PathLemmas.{gone_nowhere, come_by_call, own_post}
use Rattle.workers.proofs.worker.Worker.tell.Goals as goal

pub shared_batch-requires-clause-target : goal.shared_batch-requires-clause-target
shared_batch-requires-clause-target g c = below_plan _ _ _ _ c.args.replica.now c.requires.stands c.requires.target

pub shared_batch-requires-clause-other : goal.shared_batch-requires-clause-other
shared_batch-requires-clause-other g c e = c.requires.other (e ∙ number_is _ _ _ c.args.replica.now c.requires.stands)

pub post-requires : goal.post-requires
post-requires g c =
    let v = g.E.Exchange.caller c.args.exchange.now in
    record { batch = true_shared v.seen.job _ _ _ refl (c.in_ok-batch.ensures v.seen.job c.args.self.now.node.part _ c.requires.stands) }

pub returns-clause-posted : goal.returns-clause-posted
returns-clause-posted g c =
    let v = g.E.Exchange.caller c.args.exchange.now in
    told_by_call v.seen.job v _ _ _ _ _ refl (c.in_ok-batch.ensures v.seen.job c.args.self.now.node.part _ c.requires.stands) c.in_ok-post.ensures.ok

pub returns-in_err-batch-clause-gone : goal.returns-in_err-batch-clause-gone
returns-in_err-batch-clause-gone g c = on_err c.from_residual.result (gone_nowhere _ _ _ _ refl)

pub returns-in_err-post-clause-gone : goal.returns-in_err-post-clause-gone
returns-in_err-post-clause-gone g c = on_err c.from_residual-in_err-post.result (gone_nowhere _ _ _ _ c.in_err-post.ensures.refused)

pub returns-clause-came : goal.returns-clause-came
returns-clause-came g c =
    let v = g.E.Exchange.caller c.args.exchange.now in
    let told = c.in_ok-batch.ensures v.seen.job c.args.self.now.node.part _ c.requires.stands in
    come_by_call v _ _ _ _ _ c.in_ok-post.ensures.ok (own_post v.seen.job c.args.self.now.node.part c.args.target _ _ c.args.replica.now c.requires.stands c.requires.target c.requires.other refl told) refl tt (λ keep. tt)
