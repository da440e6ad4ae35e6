use Rattle.std.proofs.Common.{map, ◌∙◌}
use Rattle.replica.proofs.Names.{value_of}
use Rattle.replica.proofs.WalkedLemmas.{all_walked, can_walk_all, walks_over}
use Rattle.replica.proofs.walk.walk_own.Goals as goal

pub walk-requires-clause-can : goal.walk-requires-clause-can
walk-requires-clause-can g c =
    let walk = c.args.walk.now in
    let over = walks_over walk.estimator.now walk.t walk.pull.part.now walk.stale walk.pull.rows.now walk.pull.marks.now c.args.accumulated.now c.args.touched.now c.args.weights.now (map value_of c.args.tallies.now) c.requires.can c.requires.stale in
    can_walk_all walk.estimator.now walk.t walk.pull.part.now walk.stale walk.pull.rows.now walk.pull.marks.now c.args.accumulated.now c.cells_mut-cells.result.now c.args.touched.now c.args.weights.now (map value_of c.args.tallies.now) over c.cells_mut-cells.ensures.rows c.cells_mut-cells.ensures.length

pub returns : goal.returns
returns g c =
    let walk = c.args.walk.now in
    let over = walks_over walk.estimator.now walk.t walk.pull.part.now walk.stale walk.pull.rows.now walk.pull.marks.now c.args.accumulated.now c.args.touched.now c.args.weights.now (map value_of c.args.tallies.now) c.requires.can c.requires.stale in
    all_walked walk.estimator.now walk.t walk.pull.part.now walk.stale walk.pull.rows.now walk.pull.marks.now c.args.accumulated.now c.cells_mut-cells.result.now c.walk.new.cells c.args.touched.now c.walk.new.touched c.args.weights.now c.walk.new.weights (map value_of c.args.tallies.now) (map value_of c.walk.new.tallies) c.walk.result
    c.limits.ensures.part over c.cells_mut-cells.ensures.rows (c.walk.auto.cells ∙ c.cells_mut-cells.ensures.length) c.walk.auto.touched c.walk.auto.weights c.walk.ensures
