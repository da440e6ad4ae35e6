use Rattle.std.proofs.Common.{◌-◌}
use Rattle.std.proofs.lemmas.Result.{err_from_is_err_and}
use Rattle.report.specs.Parts.{lists_in, vertices_text}
use Rattle.report.proofs.FrontLemmas.{vertices_some}
use Rattle.report.proofs.WrittenLemmas.{nothing_of}
use Rattle.report.proofs.write.put_piece.Goals as goal

pub returns-in_err-vertices_text : goal.returns-in_err-vertices_text
returns-in_err-vertices_text g c =
    let p = err_from_is_err_and c.from_residual.result c.from_residual.ensures.1 in
    rw (p.1, p.2) (nothing_of g.W.Write.contents g.W.CountedWrite.failed_calls c.args.writer.now (vertices_text c.args.graph.now.labels c.args.block.now.first (lists_in c.args.block.now.parts.items) c.args.vertices.start (c.args.vertices.end - c.args.vertices.start))
    (vertices_some c.args.graph.now.labels c.args.block.now.first (lists_in c.args.block.now.parts.items) c.args.vertices.start c.args.vertices.end c.requires.from))
