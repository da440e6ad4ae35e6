use Rattle.std.proofs.Common.{◌≡◌, ◌≤◌, ◌⊎◌, ◌-◌, [], length}
use Rattle.std.specs.Prelude.{vec_capacity}
use Rattle.std.specs.Io.KnownBytes.{Consumes}
use Rattle.node.specs.Stream.{HasNoEnd}
use Rattle.node.specs.declared.input.TheConstants.{MOST_LINE}
use Rattle.node.proofs.input.read_line.Given as goal

abbrev pub invariant-loop-reader : goal.invariant-loop-reader
invariant-loop-reader g l = record {
  consumed : Consumes (g.R.Read.remaining l.initial.reader) (g.R.Read.remaining l.reader) l.line.items;
  one_line : HasNoEnd l.line.items;
  room : (l.line.items ≡ []) ⊎ (MOST_LINE ≤ vec_capacity l.line);
  counted : g.R.CountedRead.failed_calls l.reader ≡ g.R.CountedRead.failed_calls l.initial.reader;
}

abbrev pub decreases-loop-reader : goal.decreases-loop-reader
decreases-loop-reader g l = MOST_LINE - length l.line.items
