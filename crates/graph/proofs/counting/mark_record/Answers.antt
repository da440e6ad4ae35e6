use Rattle.csv.specs.Records.{fields_of}
use Rattle.graph.proofs.CountLemmas.{alike-marks, marks-more}
use Rattle.graph.proofs.counting.mark_record.Goals as goal

pub returns-clause-marks : goal.returns-clause-marks
returns-clause-marks c = λ past are.
    marks-more c.args.index.now past c.args.marks.now c.mark.new.marks c.in-Some.label.now (fields_of c.args.row.now) c.in-Some.ensures.fields (c.mark.ensures.marks (alike-marks c.args.index.now past c.args.marks.now are)) are
