use Rattle.ball_model.proofs.LineLemmas.{lf_ends, crlf_ends, end_ends}
use Rattle.ball_model.proofs.laws.lines_end.Goals as goal

pub returns-clause-lf : goal.returns-clause-lf
returns-clause-lf c = lf_ends

pub returns-clause-crlf : goal.returns-clause-crlf
returns-clause-crlf c = crlf_ends

pub returns-clause-end : goal.returns-clause-end
returns-clause-end c = end_ends
