use Rattle.node.proofs.AnswerLemmas.{said_line}
use Rattle.node.proofs.answers.put_said.Goals as goal

pub returns-in_default : goal.returns-in_default
returns-in_default c = said_line c.args.answer c.args.line.now.items c.put_answer.new.line.items c.put_answer.result c.in_default.not-Shown c.put_answer.ensures
