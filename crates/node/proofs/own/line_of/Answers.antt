use Rattle.std.proofs.Common.{◌∙◌, ap, List, ℕ}
use Rattle.std.specs.Prelude.{[], slice_index_or}
use Rattle.std.proofs.lemmas.Result.{IfOk-weaker}
use Rattle.ball_model.specs.Report.{vertex_text}
use Rattle.report.specs.Parts.{figures_line}
use Rattle.report.proofs.VertexLemmas.{line_is}
use Rattle.node.proofs.own.line_of.Goals as goal

pub returns : goal.returns
unfolding vertex_text
returns c = λ j h has.
    IfOk-weaker c.figures_text.result _ _
    (λ text is. is ∙ ap (λ (l : List ℕ). figures_line l c.figures_of.result) c.label.ensures
    ∙ ap (figures_line (slice_index_or c.args.graph.now.labels c.args.x [])) (c.figures_of.ensures j h has)
    ∙ line_is j (slice_index_or c.args.graph.now.labels c.args.x []) h.superstep c.args.x)
    c.figures_text.ensures
