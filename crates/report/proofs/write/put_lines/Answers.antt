use Rattle.std.proofs.Common.{◌≡◌, ◌+◌, ◌-◌, ℕ, arith, subst}
use Rattle.std.proofs.lemmas.Result.{err_from_is_err_and}
use Rattle.report.specs.Parts.{lists_in, vertices_text}
use Rattle.ball_model.specs.Streams.{TextWritten}
use Rattle.report.proofs.WrittenLemmas.{no_piece, piece_more, piece_part}
use Rattle.report.proofs.write.put_lines.Goals as goal

pub loop-at-init : goal.loop-at-init
loop-at-init g c = record {
  low = omega arith;
  high = c.requires.from;
  written = no_piece g.W.Write.contents g.W.CountedWrite.failed_calls c.args.writer.now c.args.graph.now.labels c.args.block.now.first (lists_in c.args.block.now.parts.items) c.args.vertices.start;
}

-- the vertices of a piece are some of these
pub put_piece-requires-clause-places : goal.put_piece-requires-clause-places
put_piece-requires-clause-places g c = λ x low high. c.requires.places x (omega arith) (omega arith)

pub loop-at-preserved : goal.loop-at-preserved
loop-at-preserved g c =
    let to : ℕ = c.loop-at.at + c.min.result in
    record {
      low = omega arith;
      high = omega arith;
      written = piece_more c.args.graph.now.labels c.args.block.now.first (lists_in c.args.block.now.parts.items) c.args.vertices.start c.loop-at.at to
          c.loop-at.invariant.low (omega arith) c.loop-at.invariant.written c.in_ok-put_piece.ensures;
    }

pub returns : goal.returns
returns g c =
    let all : c.loop-at.at ≡ c.args.vertices.end = omega arith in
    subst (λ n. TextWritten g.W.Write.contents g.W.CountedWrite.failed_calls c.args.writer.now c.loop-at.writer (vertices_text c.args.graph.now.labels c.args.block.now.first (lists_in c.args.block.now.parts.items) c.args.vertices.start (n - c.args.vertices.start)))
    all c.loop-at.invariant.written

pub returns-in_err-put_piece : goal.returns-in_err-put_piece
returns-in_err-put_piece g c =
    let end : ℕ = c.loop-at.at + c.min.result in
    let p = err_from_is_err_and c.from_residual.result c.from_residual.ensures.1 in
    rw (p.1, p.2) (piece_part c.args.graph.now.labels c.args.block.now.first (lists_in c.args.block.now.parts.items) c.args.vertices.start c.loop-at.at end c.args.vertices.end c.in_err-put_piece.field-0.0
    c.loop-at.invariant.low (omega arith) (omega arith) c.loop-at.invariant.written c.in_err-put_piece.ensures)
