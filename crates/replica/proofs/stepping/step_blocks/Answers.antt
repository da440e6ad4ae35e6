use Rattle.std.proofs.Common.{map, ◌∙◌}
use Rattle.replica.proofs.Names.{value_of}
use Rattle.replica.proofs.LevelLemmas.Before.{before_is}
use Rattle.replica.proofs.LevelLemmas.Weight.{weights_count}
use Rattle.replica.proofs.SteppingLemmas.{all_are_stepped, can_step_all}
use Rattle.replica.proofs.stepping.step_blocks.Goals as goal

pub step_halves-gain-requires-after_bounds : goal.step_halves-gain-requires-after_bounds
step_halves-gain-requires-after_bounds g c κs within =
    let old = c.go_on-before.ensures in
    let was = before_is c.go_on-before.result c.go_on-before.new.self c.args.rows.now c.args.step.now.marks.now old.before old.stays in
    rw (c.table_before.ensures, was) (can_step_all c.args.step.now.estimator.now c.args.step.now.t c.args.rows.now c.args.step.now.ahead.now c.args.step.now.marks.now c.args.weights.now (map value_of c.args.tallies.now) c.requires)

pub returns : goal.returns
returns g c =
    let can = c.requires in
    all_are_stepped c.args.step.now.estimator.now c.args.step.now.t c.args.step.now.ahead.now c.leave_behind.new.self (map value_of c.args.tallies.now) (map value_of c.step_halves-gain.new.tallies) c.step_halves-gain.new.weights c.step_halves-gain.result
    can.count (c.step_halves-gain.auto.weights ∙ weights_count c.args.rows.now.rows c.args.weights.now can.weights ∙ can.differ.count) (c.leave_behind.ensures ∙ c.put_marked.ensures) c.step_halves-gain.ensures
