use Rattle.std.proofs.Common.{◌∙◌}
use Rattle.registers.proofs.TakenLemmas.{all_taken, can_take}
use Rattle.registers.proofs.takes.take_over.Goals as goal

pub take_halves-requires : goal.take_halves-requires
take_halves-requires g c = (c.type_bounds.sync-R, can_take c.args.rows.now c.args.ahead.now c.args.marks.now c.cells_mut.result.now c.requires c.cells_mut.ensures.rows c.cells_mut.ensures.length)

pub returns : goal.returns
returns g c = all_taken c.args.rows.now c.args.ahead.now c.args.marks.now c.take_halves.new.cells c.requires (c.take_halves.auto.cells ∙ c.cells_mut.ensures.length) c.take_halves.ensures
