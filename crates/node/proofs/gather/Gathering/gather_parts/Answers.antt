use Rattle.std.proofs.Common.{◌≡◌, ◌∙◌, true, ap, refl, subst, sym}
use Rattle.node.specs.declared.error.GatherError.TheVariants as fault
use Rattle.std.specs.List.{All}
use Rattle.ball_model.specs.Job.{Job, job_of}
use Rattle.ball_model.specs.State.{State}
use Rattle.report.specs.Ready.{AllStand, are_ready}
use Rattle.node.specs.NoReport.{IsNoReport}
use Rattle.node.proofs.GatherLemmas.{all_vertices_read, gathered, ready_lacks, unready}
use Rattle.std.specs.Prelude.{Err}
use Rattle.std.proofs.lemmas.Result.{err_from_is_err_and}
use Rattle.node.proofs.GatherLemmas.{gathered_front}
use Rattle.node.proofs.gather.Gathering.gather_parts.Goals as goal

pub write_report_by-requires-clause-graph : goal.write_report_by-requires-clause-graph
write_report_by-requires-clause-graph g c κs within =
    let j : Job = job_of c.args.self.now.graph.now.graph c.args.self.now.plan.now in
    subst (All (λ (v : State). v.part.plan.vertices ≡ c.args.self.now.graph.now.graph.vertices)) (sym c.deref-2.ensures.value)
    (all_vertices_read j c.args.self.now.graph.now.graph.vertices c.args.self.now.plan.now.parts (g.R.Read.remaining c.args.reader.now) (g.R.Read.remaining c.read_replicas.new.reader) c.read_replicas.new.replicas.items
    c.requires refl c.in_ok-read_replicas.ensures.read)

pub returns-clause-ok : goal.returns-clause-ok
returns-clause-ok g c =
    let j : Job = job_of c.args.self.now.graph.now.graph c.args.self.now.plan.now in
    let ready : are_ready c.read_replicas.new.replicas.items ≡ true = ap are_ready (sym c.deref.ensures.value) ∙ c.in_ok-need_end.ensures.ok in
    gathered j c.args.self.now.graph.now.labels (g.R.Read.remaining c.args.reader.now) (g.R.Read.remaining c.read_replicas.new.reader)
    (g.W.Write.contents c.args.writer.now) (g.W.Write.contents c.write_report_by.new.writer) c.read_replicas.new.replicas.items
    c.in_ok-read_replicas.ensures.read ready c.in_ok-read_replicas.ensures.end
    (λ stand. c.in_ok-write_report_by.ensures.ok j refl (subst (AllStand j) (sym c.deref-2.ensures.value) stand))

pub returns-in_err-read_replicas-clause-write : goal.returns-in_err-read_replicas-clause-write
returns-in_err-read_replicas-clause-write g c =
    let p = err_from_is_err_and c.from_residual.result c.from_residual.ensures.1 in
    record {
      some = λ is.
          let same : p.0 ≡ fault.Write = cc (p.1, is) in
          absurd (c.in_err-read_replicas.ensures.unwritten (ap Err (sym p.2 ∙ same)));
      none = λ other. refl;
    }

pub returns-in_err-need_end-clause-refused : goal.returns-in_err-need_end-clause-refused
returns-in_err-need_end-clause-refused g c =
    let j : Job = job_of c.args.self.now.graph.now.graph c.args.self.now.plan.now in
    let p = err_from_is_err_and c.from_residual-in_err-need_end.result c.from_residual-in_err-need_end.ensures.1 in
    let said = p.2 ∙ c.in_err-need_end.ensures.none.1 in
    rw (p.1)
    (subst (IsNoReport j (g.R.Read.remaining c.args.reader.now) (g.R.Read.remaining c.read_replicas.new.reader)) (sym said)
    (unready j (g.R.Read.remaining c.args.reader.now) (g.R.Read.remaining c.read_replicas.new.reader) c.read_replicas.new.replicas.items
    c.in_ok-read_replicas.ensures.read c.in_ok-read_replicas.ensures.end (ap are_ready (sym c.deref.ensures.value) ∙ c.in_err-need_end.ensures.none.0)))

pub returns-in_err-write_report_by-clause-refused : goal.returns-in_err-write_report_by-clause-refused
returns-in_err-write_report_by-clause-refused g c =
    let j : Job = job_of c.args.self.now.graph.now.graph c.args.self.now.plan.now in
    let p = err_from_is_err_and c.from_residual-in_err-write_report_by.result c.from_residual-in_err-write_report_by.ensures.1 in
    rw (p.1, p.2)
    (ready_lacks j (g.R.Read.remaining c.args.reader.now) (g.R.Read.remaining c.read_replicas.new.reader) c.read_replicas.new.replicas.items _
    c.in_ok-read_replicas.ensures.read c.in_ok-read_replicas.ensures.end (ap are_ready (sym c.deref.ensures.value) ∙ c.in_ok-need_end.ensures.ok))

pub returns-in_err-write_report_by-clause-front : goal.returns-in_err-write_report_by-clause-front
returns-in_err-write_report_by-clause-front g c =
    let j : Job = job_of c.args.self.now.graph.now.graph c.args.self.now.plan.now in
    let p = err_from_is_err_and c.from_residual-in_err-write_report_by.result c.from_residual-in_err-write_report_by.ensures.1 in
    let ready : are_ready c.read_replicas.new.replicas.items ≡ true = ap are_ready (sym c.deref.ensures.value) ∙ c.in_ok-need_end.ensures.ok in
    rw (p.1)
    (gathered_front j c.args.self.now.graph.now.labels (g.R.Read.remaining c.args.reader.now) (g.R.Read.remaining c.read_replicas.new.reader)
    (g.W.Write.contents c.args.writer.now) (g.W.Write.contents c.write_report_by.new.writer) c.read_replicas.new.replicas.items
    c.in_ok-read_replicas.ensures.read ready c.in_ok-read_replicas.ensures.end
    (λ stand. c.in_err-write_report_by.ensures.front j refl (subst (AllStand j) (sym c.deref-2.ensures.value) stand)))
