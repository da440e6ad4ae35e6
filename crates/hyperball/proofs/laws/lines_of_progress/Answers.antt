use Rattle.hyperball.proofs.ProgressLemmas.{line_is}
use Rattle.hyperball.proofs.laws.lines_of_progress.Goals as goal

pub returns : goal.returns
returns c = line_is
