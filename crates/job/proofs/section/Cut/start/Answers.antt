use Rattle.std.proofs.Common.{true}
use Rattle.job.proofs.SectionLemmas.{ahead_none}
use Rattle.job.proofs.section.Cut.start.Goals as goal

pub invariant_of-result : goal.invariant_of-result
invariant_of-result c = record { at_line = ahead_none true c.new.result.items c.new.ensures }
