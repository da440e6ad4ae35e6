use Rattle.report.proofs.EndedLemmas.{ended_are_ready}
use Rattle.report.proofs.laws.ended_are_ready.Goals as goal

pub returns : goal.returns
returns c = ended_are_ready
