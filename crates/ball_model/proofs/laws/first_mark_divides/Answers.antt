use Rattle.ball_model.proofs.SectionLemmas.{mark_divides, first_divides}
use Rattle.ball_model.proofs.laws.first_mark_divides.Goals as goal

pub returns-clause-divides : goal.returns-clause-divides
returns-clause-divides c = mark_divides

pub returns-clause-first : goal.returns-clause-first
returns-clause-first c = first_divides
