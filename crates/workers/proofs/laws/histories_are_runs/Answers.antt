use Rattle.workers.proofs.TieLemmas.{histories_are_runs}
use Rattle.workers.proofs.laws.histories_are_runs.Goals as goal

pub returns : goal.returns
returns c = histories_are_runs
