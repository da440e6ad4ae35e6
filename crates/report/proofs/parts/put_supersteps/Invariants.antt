use Rattle.std.proofs.Common.{◌≡◌, ◌++◌, slice_index}
use Rattle.std.specs.List.{flat_map, range_with_len}
use Rattle.ball_model.specs.Report.{superstep_line}
use Rattle.report.specs.Rows.{AtRow, text_in}
use Rattle.report.proofs.parts.put_supersteps.Given as goal

abbrev pub invariant-loop-i : goal.invariant-loop-i
invariant-loop-i l = record {
  row : AtRow l.rows;
  text : text_in l.rows ≡ text_in l.initial.rows ++ flat_map (λ i. superstep_line i (slice_index l.totals i)) (range_with_len 0 l.i);
}
