use Rattle.std.proofs.Common.{◌≡◌, ◌<◌, ℕ, map, get_or, take}
use Rattle.ball_model.specs.State.{State}
use Rattle.report.specs.Parts.{HasSize, figures_among, lists_in}
use Rattle.report.proofs.parts.put_figures.Given as goal

abbrev pub invariant-loop-replica : goal.invariant-loop-replica
invariant-loop-replica g l = record {
  sizes : (k : ℕ) (d : State) → k < l.replica-index → HasSize (get_or l.replicas k d);
  made : lists_in l.parts.items ≡ map (figures_among l.places.start l.places.end) (take l.replica-index l.replicas);
}
