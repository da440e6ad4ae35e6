use Rattle.std.proofs.Common.{take}
use Rattle.std.specs.List.{All}
use Rattle.edgelist.specs.Records.{HasForm, ReadsRecords}
use Rattle.edgelist.proofs.reading.read_rows.Given as goal

abbrev pub invariant-loop-i : goal.invariant-loop-i
invariant-loop-i g l = record {
  reads : ReadsRecords g.R.Read.remaining l.initial.reader l.reader (take l.i l.rows);
  form : All HasForm (take l.i l.rows);
}
