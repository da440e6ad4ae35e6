use Rattle.std.proofs.Common.{◌+◌, ◌*◌, ◌≤◌, length, take}
use Rattle.edgelist.specs.Pieces.{AddsRecords}
use Rattle.edgelist.specs.Reading.{limits_of}
use Rattle.edgelist.proofs.reading.Reading.add_each.Given as goal

abbrev pub invariant-loop-i : goal.invariant-loop-i
invariant-loop-i l = record {
  adds : AddsRecords (limits_of l.limits) l.number (take l.i l.rows) l.initial.self.labels l.initial.self.edges.items l.self.labels l.self.edges.items;
  grows : length l.self.labels ≤ length l.initial.self.labels + 2 * l.i;
}
