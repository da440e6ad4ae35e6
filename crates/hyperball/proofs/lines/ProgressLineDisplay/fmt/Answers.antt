use Rattle.std.proofs.Common.{rules, sym}
use Rattle.std.proofs.Output.{has_written_of_eq}
use Rattle.hyperball.proofs.ProgressLemmas.{close_text, limit_text, log2m_text, parts_text, read_text, superstep_text}
use Rattle.hyperball.proofs.lines.ProgressLineDisplay.fmt.Goals as goal

pub returns-in-NoLog2m-clause-writes : goal.returns-in-NoLog2m-clause-writes
returns-in-NoLog2m-clause-writes g c = λ plain ok.
    rw c.in-NoLog2m.is (has_written_of_eq _ _ _ _ _ (sym (log2m_text c.in-NoLog2m.log2m)) (c.write.ensures.writes plain ok))

pub returns-in-NoParts-clause-writes : goal.returns-in-NoParts-clause-writes
returns-in-NoParts-clause-writes g c = λ plain ok.
    rw c.in-NoParts.is (has_written_of_eq _ _ _ _ _ (sym (parts_text c.in-NoParts.parts)) (c.write-in-NoParts.ensures.writes plain ok))

pub returns-in-NoLimit-clause-writes : goal.returns-in-NoLimit-clause-writes
returns-in-NoLimit-clause-writes g c = λ plain ok.
    rw c.in-NoLimit.is (has_written_of_eq _ _ _ _ _ (sym (limit_text c.in-NoLimit.limit)) (c.write-in-NoLimit.ensures.writes plain ok))

pub returns-in-Read-clause-writes : goal.returns-in-Read-clause-writes
returns-in-Read-clause-writes g c = λ plain ok.
    rw c.in-Read.is (has_written_of_eq _ _ _ _ _ (sym (read_text c.in-Read.records c.in-Read.vertices)) (c.write-in-Read.ensures.writes plain ok))

pub returns-in-Start-clause-writes : goal.returns-in-Start-clause-writes
returns-in-Start-clause-writes g c = rw c.in-Start.is (search rules)

pub returns-in-Superstep-clause-writes : goal.returns-in-Superstep-clause-writes
returns-in-Superstep-clause-writes g c = λ plain ok.
    rw c.in-Superstep.is (has_written_of_eq _ _ _ _ _ (sym (superstep_text c.in-Superstep.superstep c.in-Superstep.changed c.in-Superstep.vertices)) (c.write-in-Superstep.ensures.writes plain ok))

pub returns-in-Close-clause-writes : goal.returns-in-Close-clause-writes
returns-in-Close-clause-writes g c = λ plain ok.
    rw c.in-Close.is (has_written_of_eq _ _ _ _ _ (sym (close_text c.in-Close.node c.in-Close.superstep c.in-Close.changed c.in-Close.vertices)) (c.write-in-Close.ensures.writes plain ok))

pub returns-in-Report-clause-writes : goal.returns-in-Report-clause-writes
returns-in-Report-clause-writes g c = rw c.in-Report.is (search rules)

pub returns-in-Answers-clause-writes : goal.returns-in-Answers-clause-writes
returns-in-Answers-clause-writes g c = rw c.in-Answers.is (search rules)

pub returns-in-Commands-clause-writes : goal.returns-in-Commands-clause-writes
returns-in-Commands-clause-writes g c = rw c.in-Commands.is (search rules)
