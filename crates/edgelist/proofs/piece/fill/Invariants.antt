use Rattle.edgelist.specs.Pieces.{Fills}
use Rattle.edgelist.proofs.piece.fill.Given as goal

abbrev pub invariant-loop-turn : goal.invariant-loop-turn
invariant-loop-turn g l = record {
  fills : Fills (g.S.Read.remaining l.initial.reader) (g.S.Read.remaining l.reader) l.initial.lines.items l.lines.items;
}
