use Rattle.std.proofs.Common.{◌≤◌, arith}
use Rattle.ball_model.specs.declared.plan.TheConstants.{MOST_REPLICAS}
use Rattle.ball_model.specs.Job.{job_of}
use Rattle.workers.specs.Job.{IsPartEnd}
use Rattle.workers.proofs.JobLemmas.{each_is, few_replicas, first_of_ends}
use Rattle.workers.proofs.nodes.run_job.Goals as goal

pub done_replicas-requires-clause-few : goal.done_replicas-requires-clause-few
done_replicas-requires-clause-few g c =
    let j = job_of c.args.graph.now.graph c.args.planned.plan in
    let o = c.args.options.now in
    let few : o.replicas ≤ MOST_REPLICAS = few_replicas o c.requires.limits in
    λ k d lt. let e = (each_is (λ p own. IsPartEnd j o p own.items) 0 c.in_ok-ends.ends.items k d c.in_ok-ends.ensures.each lt).count in omega (arith, e, few)

pub returns-clause-first : goal.returns-clause-first
returns-clause-first g c =
    let j = job_of c.args.graph.now.graph c.args.planned.plan in
    let o = c.args.options.now in
    first_of_ends (λ own. own.items) j o c.in_ok-ends.ends.items c.done_replicas.result c.in_ok-ends.ensures c.done_replicas.ensures.first c.done_replicas.ensures.lacking
