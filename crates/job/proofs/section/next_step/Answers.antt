use Rattle.job.proofs.SectionLemmas.{ahead_none}
use Rattle.job.proofs.section.next_step.Goals as goal

pub invariant_of-cut-in-Mark : goal.invariant_of-cut-in-Mark
invariant_of-cut-in-Mark g c = record { at_line = ahead_none c.args.cut.now.begins c.step_of-step.new.ahead.items c.in-Mark.ensures.ahead }

pub invariant_of-cut-in-End : goal.invariant_of-cut-in-End
invariant_of-cut-in-End g c = record { at_line = ahead_none c.args.cut.now.begins c.step_of-step.new.ahead.items c.in-End.ensures.ahead }
