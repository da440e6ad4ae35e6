use Rattle.std.proofs.Common.{subst, sym}
use Rattle.std.specs.Prelude.{None}
use Rattle.hyperball.specs.Progress.{TellsProgress}
use Rattle.hyperball.proofs.ProgressLemmas.{tells_none}
use Rattle.hyperball.proofs.progress.StderrLendTeller.end.Goals as goal

pub returns : goal.returns
returns c = λ before unknown. subst (λ b. TellsProgress b None) (sym unknown) (tells_none None None tt)
