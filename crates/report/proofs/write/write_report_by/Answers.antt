use Rattle.std.proofs.Common.{◌∙◌, ◌++◌, Bool, List, ℕ, ap, sym, subst}
use Rattle.std.proofs.lemmas.Result.{err_from_is_err_and}
use Rattle.ball_model.specs.State.{State}
use Rattle.ball_model.specs.Streams.{PutsFront, RisesByOne}
use Rattle.report.specs.Parts.{head_text, lines_of_all, totals_in}
use Rattle.report.proofs.FrontLemmas.{front_first}
use Rattle.report.proofs.ReadyLemmas.{are_ready-facts}
use Rattle.report.proofs.ReportLemmas.{report_text}
use Rattle.report.proofs.WrittenLemmas.{adds_front, adds_report, none_failed, one_failed, writes_then}
use Rattle.report.proofs.write.write_report_by.Goals as goal

pub bounds-replicas-0 : goal.bounds-replicas-0
bounds-replicas-0 g c = (are_ready-facts c.args.replicas.now c.requires.ready).some

pub put_top-requires : goal.put_top-requires
put_top-requires g c =
    let v = c.index-replicas-0.result in
    let ready = are_ready-facts c.args.replicas.now c.requires.ready in
    λ k d lt. (ready.each k d v lt).superstep ∙ ap (λ (w : State). w.superstep) (sym c.index-replicas-0.is) ∙ sym c.superstep-end.ensures.value

pub returns-clause-ok : goal.returns-clause-ok
returns-clause-ok g c =
    let vs = c.args.replicas.now in
    let t : ℕ = c.superstep-end.result in
    let stable : Bool = c.is_stable-stable.result in
    let written = writes_then _ _ _ _ _ (head_text (totals_in vs t) t stable) (lines_of_all c.args.graph.now vs) c.put_vertices.result c.in_ok-put_top.ensures c.put_vertices.ensures in
    adds_report _ _ _ _ (head_text (totals_in vs t) t stable ++ lines_of_all c.args.graph.now vs) c.put_vertices.result c.args.graph.now vs
    (report_text c.args.graph.now vs c.index-replicas-0.result t stable c.requires.ready c.index-replicas-0.is c.superstep-end.ensures.value c.is_stable-stable.ensures.value c.is_stable-stable.ensures.stands)
    written

pub returns-clause-front : goal.returns-clause-front
returns-clause-front g c =
    let vs = c.args.replicas.now in
    let t : ℕ = c.superstep-end.result in
    let stable : Bool = c.is_stable-stable.result in
    let written = writes_then _ _ _ _ _ (head_text (totals_in vs t) t stable) (lines_of_all c.args.graph.now vs) c.put_vertices.result c.in_ok-put_top.ensures c.put_vertices.ensures in
    adds_front _ _ _ _ (head_text (totals_in vs t) t stable ++ lines_of_all c.args.graph.now vs) c.put_vertices.result c.args.graph.now vs
    (report_text c.args.graph.now vs c.index-replicas-0.result t stable c.requires.ready c.index-replicas-0.is c.superstep-end.ensures.value c.is_stable-stable.ensures.value c.is_stable-stable.ensures.stands)
    written

pub returns-clause-counted : goal.returns-clause-counted
returns-clause-counted g c = λ other.
    none_failed _ _ _ _ (lines_of_all c.args.graph.now c.args.replicas.now) c.put_vertices.result c.put_vertices.ensures other ∙ c.in_ok-put_top.ensures.counted

pub returns-clause-write : goal.returns-clause-write
returns-clause-write g c = λ is.
    subst (λ n. RisesByOne n (g.W.CountedWrite.failed_calls c.put_vertices.new.writer)) c.in_ok-put_top.ensures.counted
    (one_failed _ _ _ _ (lines_of_all c.args.graph.now c.args.replicas.now) c.put_vertices.result c.put_vertices.ensures is)

pub returns-in_err-put_top-clause-front : goal.returns-in_err-put_top-clause-front
returns-in_err-put_top-clause-front g c =
    let vs = c.args.replicas.now in
    let t : ℕ = c.superstep-end.result in
    let stable : Bool = c.is_stable-stable.result in
    let p = err_from_is_err_and c.from_residual.result c.from_residual.ensures.1 in
    rw (p.1) (λ j same stands.
    let text = report_text c.args.graph.now vs c.index-replicas-0.result t stable c.requires.ready c.index-replicas-0.is c.superstep-end.ensures.value c.is_stable-stable.ensures.value c.is_stable-stable.ensures.stands j same stands in
    subst (λ (line : List ℕ). PutsFront (g.W.Write.contents c.args.writer.now) (g.W.Write.contents c.put_top.new.writer) line) text
    (front_first (head_text (totals_in vs t) t stable) (lines_of_all c.args.graph.now vs) _ _ c.in_err-put_top.ensures.front))
