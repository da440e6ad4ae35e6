use Rattle.workers.proofs.PathLemmas.{replicas_are_of_runs}
use Rattle.workers.proofs.laws.replicas_are_of_runs.Goals as goal

pub returns : goal.returns
returns c = replicas_are_of_runs
