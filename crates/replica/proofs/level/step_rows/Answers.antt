use Rattle.std.proofs.Common.{sym, subst}
use Rattle.replica.proofs.Names.{Table}
use Rattle.registers.specs.Differ.{DifferWhere}
use Rattle.replica.specs.Relay.{IsRelay}
use Rattle.replica.proofs.LevelLemmas.Before.{may_be_left, step_by_row}
use Rattle.replica.proofs.level.step_rows.Goals as goal

pub step_marked-gain-requires : goal.step_marked-gain-requires
step_marked-gain-requires c = step_by_row c.go_on-before.result c.go_on-before.new.self c.requires c.go_on-before.ensures.before c.go_on-before.ensures.stays c.go_on-before.ensures.differ

pub leave_behind-requires : goal.leave_behind-requires
leave_behind-requires c =
    subst (λ (rows : Table). IsRelay DifferWhere rows c.go_on-before.result) (sym c.step_marked-gain.ensures.rows)
    (may_be_left c.go_on-before.result c.args.rows.now c.args.step.now.ahead.now c.args.step.now.marks.now c.go_on-before.ensures.before c.requires.differ)
