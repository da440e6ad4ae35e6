use Rattle.std.proofs.Common.{◌<◌, ◌≤◌, length}
use Rattle.graph.specs.Records.{byte_of, ForPlain}
use Rattle.edgelist.specs.Reading.{AreWithin, limits_of}
use Rattle.edgelist.specs.Rounds.{AreOn}
use Rattle.edgelist.proofs.rounds.Rounds.read_rounds.Given as goal

abbrev pub invariant-loop-turn : goal.invariant-loop-turn
invariant-loop-turn g l = record {
  some : 0 < length l.pieces.items;
  more : 0 < length l.coming.items;
  in_range : l.number ≤ l.self.limits.edges;
  within : AreWithin l.self.limits.vertices l.number l.reading.labels l.reading.edges.items;
  on : ForPlain (g.S.Read.remaining l.initial.reader) (λ text.
      AreOn (limits_of l.self.limits) (byte_of l.self.delimiter) text l.number l.reading.labels l.reading.edges.items l.pieces.items l.held.bytes.items (g.S.Read.remaining l.reader));
}
