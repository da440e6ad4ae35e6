use Rattle.report.proofs.WholeLemmas.{total_fits}
use Rattle.report.proofs.laws.totals_fit.Goals as goal

pub returns : goal.returns
returns c = total_fits
