use Rattle.std.proofs.Common.{◌∙◌, ◌<◌, sym, ap, subst}
use Rattle.ball_model.specs.Job.{IsJob, Job, part_of}
use Rattle.ball_model.specs.History.{History}
use Rattle.workers.proofs.tests.alone.Goals as goal

pub run_node-requires-clause-job : goal.run_node-requires-clause-job
run_node-requires-clause-job g c κs within = subst IsJob (sym (ap (λ (h : History). h.job) c.in-Ok.ensures.seen)) c.requires.job

pub run_node-requires-clause-node : goal.run_node-requires-clause-node
run_node-requires-clause-node g c κs within = subst (λ (j : Job). c.args.node.part < j.plan.parts) (sym (ap (λ (h : History). h.job) c.in-Ok.ensures.seen)) c.requires.node

pub run_node-requires-clause-part : goal.run_node-requires-clause-part
run_node-requires-clause-part g c κs within =
    let job = ap (λ (h : History). h.job) c.in-Ok.ensures.seen in
    c.in-Some.ensures ∙ ap (λ (j : Job). part_of j c.args.node.part) (sym job)
