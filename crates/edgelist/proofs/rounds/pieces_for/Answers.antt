use Rattle.std.proofs.Common.{rules, List, subst, sym}
use Rattle.std.specs.List.{All}
use Rattle.std.proofs.lemmas.List.Elements.{All-push}
use Rattle.edgelist.specs.Rounds.{has_no_lines}
use Rattle.edgelist.specs.declared.piece.Piece.{Piece}
use Rattle.edgelist.proofs.rounds.pieces_for.Goals as goal

pub loop-i-preserved : goal.loop-i-preserved
loop-i-preserved c = record {
  none = subst (λ (ps : List Piece). All has_no_lines ps) (sym c.in_ok-push.ensures.items) (All-push has_no_lines c.loop-i.pieces.items c.new.result c.loop-i.invariant.none c.new.ensures);
  count = search rules;
}
