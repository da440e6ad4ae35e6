use Rattle.std.proofs.Common.{map}
use Rattle.ball_model.specs.Job.{job_of}
use Rattle.world.proofs.PlaceLemmas.{Row}
use Rattle.world.proofs.StartLemmas.{start_with}
use Rattle.world.proofs.world.World.new.Goals as goal

pub returns : goal.returns
returns c =
    start_with (job_of c.args.graph.now.graph c.args.plan.now) c.args.replicas (map (λ (row : Row). row.items) c.in_ok-nodes.nodes.items) c.new.result.items c.new-2.result.items
    c.new.ensures.items c.new-2.ensures.items c.requires c.in_ok-nodes.ensures
