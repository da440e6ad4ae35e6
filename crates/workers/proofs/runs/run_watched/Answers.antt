use Rattle.std.proofs.Common.{◌≡◌, ◌≢◌, ◌∙◌, ℕ, ap, subst, sym}
use Rattle.std.proofs.lemmas.Result.{err_from_is_err_and}
use Rattle.std.specs.Prelude.{Result, Ok, Err}
use Rattle.ball_model.specs.PlanValue.{PlanValue}
use Rattle.ball_model.specs.RunText.{HasPlan, IsReport, plan_asked}
use Rattle.ball_model.specs.declared.plan.PlanError.{PlanError}
use Rattle.job.specs.Job.{numbers_asked, settings_of}
use Rattle.graph.specs.Planning.{signed}
use Rattle.job.specs.declared.job.JobOptions.{JobOptions}
use Rattle.job.specs.declared.job.NetworkError.{NetworkError}
use Rattle.edgelist.specs.declared.limits.EdgeError.TheVariants as edge
use Rattle.workers.specs.declared.runs.RunError.{RunError}
use Rattle.workers.specs.declared.runs.RunError.TheVariants as fault
use Rattle.workers.specs.Job.{IsFaultOf}
use Rattle.workers.specs.Options.{job_asked}
use Rattle.workers.specs.Run.{IsRunRefusal, WherePlain, network_fault}
use Rattle.workers.proofs.PathLemmas.{ok_is_no_err}
use Rattle.workers.proofs.RunLemmas.{EndsUnwritten, IsRead, TellsNone, edges_back, edges_told, ends_unwritten, listed_edges, none_done, none_held, none_planned, plan_job, planned, read_by, report_planned, reported, unread_by, unread_edges, unwritten, unwritten_edges, where_always, wrote, wrote_front}
use Rattle.workers.proofs.runs.run_watched.Given.{Over}
use Rattle.workers.proofs.runs.run_watched.Goals.{In_ok-bare, In_ok-read, In_ok-text}
use Rattle.workers.proofs.runs.run_watched.Goals as goal

pub returns-then-not-are_in_limits-clause-refused : goal.returns-then-not-are_in_limits-clause-refused
returns-then-not-are_in_limits-clause-refused g c = where_always c.args.options.now (g.R.Read.remaining c.args.reader.now) c.args.counted (λ s input list. IsRunRefusal s input list fault.Options) (λ s input list. tt)

-- the network that is read, and the plan over it
network_read : (g : Over) (c : In_ok-read g) → IsRead c.args.options.now (g.R.Read.remaining c.args.reader.now) c.args.counted c.in_ok-read.read.graph
network_read g c = read_by c.args.options.now c.job-job.result (g.R.Read.remaining c.args.reader.now) c.args.counted c.in_ok-read.read.graph c.job-job.ensures c.in_ok-read.ensures.ok c.in_ok-read.ensures.edges

plan_made : (g : Over) (c : In_ok-bare g) → ◌≡◌ {A = Result PlanValue PlanError} (Ok (signed c.in_ok-read.read.graph.graph c.in_ok-bare.bare)) (plan_asked (numbers_asked (job_asked c.args.options.now)) c.in_ok-read.read.graph.graph)
plan_made g c = plan_job c.args.options.now c.job-job.result c.in_ok-read.read.graph.graph (Ok (signed c.in_ok-read.read.graph.graph c.in_ok-bare.bare)) c.job-job.ensures c.in_ok-bare.ensures.ok

has_plan : (g : Over) (c : In_ok-bare g) → HasPlan (numbers_asked (job_asked c.args.options.now)) c.in_ok-read.read.graph
has_plan g c = planned (numbers_asked (job_asked c.args.options.now)) c.in_ok-read.read.graph.graph (signed c.in_ok-read.read.graph.graph c.in_ok-bare.bare) (plan_made g c)

-- it ends for another reason than the reader
ends_over : {T : Type 0} (g : Over) (c : In_ok-read g) (e : RunError) → TellsNone c.args.options.now (g.R.Read.remaining c.args.reader.now) c.args.counted e → e ≢ fault.Edges edge.Read →
    EndsUnwritten {T = T} c.args.options.now (g.R.Read.remaining c.args.reader.now) c.args.counted (g.R.CountedRead.failed_calls c.args.reader.now) (g.R.CountedRead.failed_calls c.read_network_by.new.reader) g.W.Write.contents g.W.CountedWrite.failed_calls c.args.writer.now (Err e)
ends_over g c e none other =
    ends_unwritten c.args.options.now (g.R.Read.remaining c.args.reader.now) c.args.counted (g.R.CountedRead.failed_calls c.args.reader.now) (g.R.CountedRead.failed_calls c.read_network_by.new.reader) g.W.Write.contents g.W.CountedWrite.failed_calls c.args.writer.now e none (cc)
    (λ is. absurd (other is)) (λ rises. absurd (ok_is_no_err _ _ (c.in_ok-read.ensures.failed rises)))

pub returns-in_err-read : goal.returns-in_err-read
returns-in_err-read g c =
    let o = c.args.options.now in
    let told = g.R.Read.remaining c.args.reader.now in
    let e : NetworkError = c.in_err-read.field-0.0 in
    let p = err_from_is_err_and c.from_residual.result c.from_residual.ensures.1 in
    let none = unread_by o c.job-job.result told c.args.counted e c.job-job.ensures c.in_err-read.ensures.refused c.in_err-read.ensures.of_edges in
    rw (p.1, p.2) (ends_unwritten o told c.args.counted (g.R.CountedRead.failed_calls c.args.reader.now) (g.R.CountedRead.failed_calls c.read_network_by.new.reader) g.W.Write.contents g.W.CountedWrite.failed_calls c.args.writer.now (network_fault e) none (cc)
    (λ is. c.in_err-read.ensures.read (edges_back e edge.Read is)) (λ rises. edges_told e edge.Read (c.in_err-read.ensures.failed rises)))

pub returns-in_err-bare : goal.returns-in_err-bare
returns-in_err-bare g c =
    let o = c.args.options.now in
    let at = (goal.at.returns-in_err-bare g c).In_ok-read in
    let network = c.in_ok-read.read.graph in
    let x : PlanError = c.in_err-bare.field-0.0 in
    let p = err_from_is_err_and c.from_residual-in_err-bare.result c.from_residual-in_err-bare.ensures.1 in
    let refused = plan_job o c.job-job.result network.graph (Err x) c.job-job.ensures c.in_err-bare.ensures.refused in
    rw (p.1, p.2) (ends_over g at (fault.Plan x) (none_planned o (g.R.Read.remaining c.args.reader.now) c.args.counted network x (network_read g at) (sym refused)) (λ is. absurd (cc)))

pub returns-in_err-planned : goal.returns-in_err-planned
returns-in_err-planned g c =
    let at = goal.at.returns-in_err-planned g c in
    let p = err_from_is_err_and c.from_residual-in_err-planned.result c.from_residual-in_err-planned.ensures.1 in
    let none = none_held c.args.options.now (g.R.Read.remaining c.args.reader.now) c.args.counted c.in_ok-read.read.graph (network_read g at.In_ok-read) (has_plan g at.In_ok-bare) in
    rw (p.1, p.2) (ends_over g at.In_ok-read fault.Memory none (λ is. absurd (cc)))

pub returns-in_err-replicas : goal.returns-in_err-replicas
returns-in_err-replicas g c =
    let o = c.args.options.now in
    let at = goal.at.returns-in_err-replicas g c in
    let e : RunError = c.in_err-replicas.field-0.0 in
    let parts = ap (λ (plan : PlanValue). plan.parts) c.in_ok-planned.ensures.plan ∙ (c.in_ok-bare.ensures.parts ∙ ap (λ (a : JobOptions). a.parts) c.job-job.ensures) in
    let p = err_from_is_err_and c.from_residual-in_err-replicas.result c.from_residual-in_err-replicas.ensures.1 in
    let due = subst (λ (n : ℕ). IsFaultOf n o e) parts c.in_err-replicas.ensures.fault in
    let none =
    none_done o (g.R.Read.remaining c.args.reader.now) c.args.counted c.in_ok-read.read.graph c.in_ok-planned.planned.plan e (network_read g at.In_ok-read) (rw c.in_ok-planned.ensures.plan (plan_made g at.In_ok-bare))
    due c.in_err-replicas.ensures.first in
    rw (p.1, p.2) (ends_over g at.In_ok-read e none (unread_edges o e edge.Read due))

pub returns-in_err-text : goal.returns-in_err-text
returns-in_err-text g c =
    let at = goal.at.returns-in_err-text g c in
    let p = err_from_is_err_and c.from_residual-in_err-text.result c.from_residual-in_err-text.ensures.1 in
    let none = none_held c.args.options.now (g.R.Read.remaining c.args.reader.now) c.args.counted c.in_ok-read.read.graph (network_read g at.In_ok-read) (has_plan g at.In_ok-bare) in
    rw (p.1, p.2) (ends_over g at.In_ok-read fault.Memory none (λ is. absurd (cc)))

-- the text is the report
told_text : (g : Over) (c : In_ok-text g) → IsRead c.args.options.now (g.R.Read.remaining c.args.reader.now) c.args.counted c.in_ok-read.read.graph →
    ◌≡◌ {A = Result PlanValue PlanError} (Ok (signed c.in_ok-read.read.graph.graph c.in_ok-bare.bare)) (plan_asked (numbers_asked (job_asked c.args.options.now)) c.in_ok-read.read.graph.graph) →
    WherePlain c.args.options.now (g.R.Read.remaining c.args.reader.now) c.args.counted (λ s input list. IsReport s input list c.in_ok-text.text)
told_text g c read plan =
    reported c.args.options.now (g.R.Read.remaining c.args.reader.now) c.args.counted c.in_ok-read.read.graph c.in_ok-text.text read
    (report_planned (numbers_asked (job_asked c.args.options.now)) c.in_ok-read.read.graph c.in_ok-planned.planned.plan c.in_ok-text.text (rw c.in_ok-planned.ensures.plan plan) c.in_ok-text.ensures)

pub returns-clause-refused : goal.returns-clause-refused
returns-clause-refused g c =
    let at = goal.at.returns-clause-refused g c in
    let report = told_text g at.In_ok-text (network_read g at.In_ok-read) (plan_made g at.In_ok-bare) in
    unwritten c.args.options.now (g.R.Read.remaining c.args.reader.now) c.args.counted c.in_ok-text.text c.write_text.result report c.write_text.ensures.kind

pub returns-clause-ok : goal.returns-clause-ok
returns-clause-ok g c =
    let at = goal.at.returns-clause-ok g c in
    let report = told_text g at.In_ok-text (network_read g at.In_ok-read) (plan_made g at.In_ok-bare) in
    wrote c.args.options.now (g.R.Read.remaining c.args.reader.now) c.args.counted g.W.Write.contents c.args.writer.now c.write_text.new.writer c.in_ok-text.text c.write_text.result report c.write_text.ensures.done

pub returns-clause-begun : goal.returns-clause-begun
returns-clause-begun g c =
    let at = goal.at.returns-clause-begun g c in
    let report = told_text g at.In_ok-text (network_read g at.In_ok-read) (plan_made g at.In_ok-bare) in
    wrote_front c.args.options.now (g.R.Read.remaining c.args.reader.now) c.args.counted g.W.Write.contents c.args.writer.now c.write_text.new.writer c.in_ok-text.text c.write_text.result report c.write_text.ensures.front

pub returns-clause-edges : goal.returns-clause-edges
returns-clause-edges g c =
    let read = network_read g (goal.at.returns-clause-edges g c).In_ok-read in
    listed_edges (settings_of (job_asked c.args.options.now)) (g.R.Read.remaining c.args.reader.now) c.write_text.result read.edges

pub returns-clause-of_edges : goal.returns-clause-of_edges
returns-clause-of_edges g c =
    let read = network_read g (goal.at.returns-clause-of_edges g c).In_ok-read in
    unwritten_edges (settings_of (job_asked c.args.options.now)) (g.R.Read.remaining c.args.reader.now) c.write_text.result read.edges c.write_text.ensures.kind
