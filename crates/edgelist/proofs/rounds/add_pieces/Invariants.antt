use Rattle.std.proofs.Common.{◌≤◌, ◌++◌, ℕ, List, take}
use Rattle.std.specs.List.{All, flat_map}
use Rattle.edgelist.specs.Pieces.{IsThrough}
use Rattle.edgelist.specs.Reading.{AreWithin, limits_of}
use Rattle.edgelist.specs.Rounds.{has_plain_lines, records_of}
use Rattle.edgelist.proofs.rounds.add_pieces.Given as goal

abbrev pub invariant-loop-i : goal.invariant-loop-i
invariant-loop-i l = record {
  in_range : l.n ≤ l.limits.edges;
  within : AreWithin l.limits.vertices l.n l.reading.labels l.reading.edges.items;
  through : (before : List (List (List ℕ))) → All has_plain_lines l.pieces → IsThrough (limits_of l.limits) l.number before l.initial.reading.labels l.initial.reading.edges.items →
      IsThrough (limits_of l.limits) l.n (before ++ flat_map records_of (take l.i l.pieces)) l.reading.labels l.reading.edges.items;
}
