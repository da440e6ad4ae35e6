use Rattle.std.proofs.Common.{◌≡◌, ◌+◌, ◌≤◌, ℕ, List, map, arith, subst}
use Rattle.std.proofs.lemmas.Result.{err_from_is_err_and}
use Rattle.report.specs.Parts.{figures_in, lines_between, lists_in}
use Rattle.report.specs.Written.{WrittenInPart}
use Rattle.ball_model.specs.Streams.{TextWritten}
use Rattle.report.proofs.ReadyLemmas.{are_ready-facts}
use Rattle.report.proofs.BlockLemmas.{same_lines}
use Rattle.report.proofs.FrontLemmas.{vertices_some}
use Rattle.report.proofs.WrittenLemmas.{no_piece, nothing_of, piece_more, piece_part}
use Rattle.report.proofs.write.put_vertices.Goals as goal

pub bounds-replicas-0 : goal.bounds-replicas-0
bounds-replicas-0 g c = (are_ready-facts c.args.replicas.now c.requires.ready).some

pub loop-from-init : goal.loop-from-init
loop-from-init g c = record {
  place = omega arith;
  written = no_piece g.W.Write.contents g.W.CountedWrite.failed_calls c.args.writer.now c.args.graph.now.labels 0 (map figures_in c.args.replicas.now) 0;
}

-- a block is of vertices that there are
pub of-requires-clause-end : goal.of-requires-clause-end
of-requires-clause-end g c κs within = λ k d lt.
    let all = c.requires.graph k d lt in
    omega arith

pub loop-from-preserved : goal.loop-from-preserved
loop-from-preserved g c =
    let from : ℕ = c.loop-from.from in
    let to : ℕ = from + c.min.result in
    let all = map figures_in c.args.replicas.now in
    let block = c.in_ok-block.block in
    let low : from ≤ to = omega arith in
    let lines = same_lines c.args.graph.now.labels block.first from to (lists_in block.parts.items) all low c.in_ok-block.ensures.figures in
    record {
      place = omega arith;
      written = piece_more c.args.graph.now.labels 0 all 0 from to (omega arith) low c.loop-from.invariant.written
          (subst (λ (text : List ℕ). TextWritten g.W.Write.contents g.W.CountedWrite.failed_calls c.loop-from.writer c.put_lines.new.writer text) lines c.in_ok-put_lines.ensures);
    }

pub returns : goal.returns
returns g c =
    let all : c.loop-from.from ≡ c.args.graph.now.graph.vertices = omega arith in
    subst (λ n. TextWritten g.W.Write.contents g.W.CountedWrite.failed_calls c.args.writer.now c.loop-from.writer (lines_between c.args.graph.now.labels c.args.replicas.now 0 n)) all c.loop-from.invariant.written

-- memory was refused for the figures of a block
pub returns-in_err-block : goal.returns-in_err-block
returns-in_err-block g c =
    let from : ℕ = c.loop-from.from in
    let to : ℕ = from + c.min.result in
    let labels = c.args.graph.now.labels in
    let all = map figures_in c.args.replicas.now in
    let p = err_from_is_err_and c.from_residual.result c.from_residual.ensures.1 in
    rw (p.1, p.2) (piece_part labels 0 all 0 from to c.args.graph.now.graph.vertices _
    (omega arith) (omega arith) (omega arith) c.loop-from.invariant.written
    (nothing_of g.W.Write.contents g.W.CountedWrite.failed_calls c.loop-from.writer _ (vertices_some labels 0 all from to (omega arith))))

pub returns-in_err-put_lines : goal.returns-in_err-put_lines
returns-in_err-put_lines g c =
    let from : ℕ = c.loop-from.from in
    let to : ℕ = from + c.min.result in
    let all = map figures_in c.args.replicas.now in
    let block = c.in_ok-block.block in
    let low : from ≤ to = omega arith in
    let lines = same_lines c.args.graph.now.labels block.first from to (lists_in block.parts.items) all low c.in_ok-block.ensures.figures in
    let p = err_from_is_err_and c.from_residual-in_err-put_lines.result c.from_residual-in_err-put_lines.ensures.1 in
    rw (p.1, p.2) (piece_part c.args.graph.now.labels 0 all 0 from to c.args.graph.now.graph.vertices c.in_err-put_lines.field-0.0
    (omega arith) low (omega arith) c.loop-from.invariant.written
    (subst (λ (text : List ℕ). WrittenInPart g.W.Write.contents g.W.CountedWrite.failed_calls c.loop-from.writer c.put_lines.new.writer text c.in_err-put_lines.field-0.0) lines c.in_err-put_lines.ensures))
