use Rattle.std.specs.Vec.Iter.{into_iter_items}
use Rattle.ball_model.specs.Job.{Job}
use Rattle.workers.specs.Job.{AreMade}
use Rattle.workers.proofs.PartsLemmas.{Signing}
use Rattle.workers.proofs.planned.shared_parts.Given as goal

abbrev pub invariant-loop-part : goal.invariant-loop-part
invariant-loop-part l = (j : Job) → AreMade j l.fn.parts.items →
    Signing j l.fn.job (into_iter_items l.part-iterator) l.shared.items
