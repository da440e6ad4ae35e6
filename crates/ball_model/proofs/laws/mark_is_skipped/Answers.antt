use Rattle.ball_model.proofs.LineLemmas.{mark_line, mark_none}
use Rattle.ball_model.proofs.laws.mark_is_skipped.Goals as goal

pub returns-clause-line : goal.returns-clause-line
returns-clause-line c = mark_line

pub returns-clause-none : goal.returns-clause-none
returns-clause-none c = mark_none
