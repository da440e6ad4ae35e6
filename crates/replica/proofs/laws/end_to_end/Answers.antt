use Rattle.replica.proofs.RunsLemmas.Run.{run_stands, run_answers, run_in_time, stable_is, stable_reaches, over_at_end}
use Rattle.replica.proofs.laws.end_to_end.Goals as goal

pub returns-clause-stands : goal.returns-clause-stands
returns-clause-stands c = run_stands

pub returns-clause-answers : goal.returns-clause-answers
returns-clause-answers c = run_answers

pub returns-clause-in_time : goal.returns-clause-in_time
returns-clause-in_time c = run_in_time

pub returns-clause-stable : goal.returns-clause-stable
returns-clause-stable c = stable_is

pub returns-clause-reaches : goal.returns-clause-reaches
returns-clause-reaches c = stable_reaches

pub returns-clause-over : goal.returns-clause-over
returns-clause-over c = over_at_end
