use Rattle.ball_model.proofs.HistoryLemmas.{beginning_is_legal, last_is_answer}
use Rattle.ball_model.proofs.history.replies_stay.Goals as goal

pub returns-clause-beginning : goal.returns-clause-beginning
returns-clause-beginning c = beginning_is_legal

pub returns-clause-last : goal.returns-clause-last
returns-clause-last c = last_is_answer
