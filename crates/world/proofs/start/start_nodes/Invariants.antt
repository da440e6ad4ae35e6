use Rattle.std.proofs.Common.{◌≡◌, ◌<◌, ℕ}
use Rattle.ball_model.specs.Job.{IsJob, Job, part_of}
use Rattle.world.specs.Shows.{AreStart}
use Rattle.world.proofs.start.start_nodes.Given as goal

abbrev pub invariant-loop : goal.invariant-loop
invariant-loop l = (j : Job) (p : ℕ) → IsJob j → p < j.plan.parts → l.fn.part ≡ part_of j p →
    AreStart j p l.counter l.nodes.items
