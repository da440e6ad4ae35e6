use Rattle.std.proofs.Common.{◌≡◌, ◌∙◌, ℕ, List, [], ◌++◌, ap, refl, arith, length}
use Rattle.std.proofs.lemmas.List.{with_items_is}
use Rattle.ball_model.specs.Job.{Job, job_of}
use Rattle.ball_model.specs.PlanValue.{mixing_of}
use Rattle.ball_model.specs.Report.{report_of}
use Rattle.ball_model.specs.State.{State}
use Rattle.workers.proofs.ReadyLemmas.{all_planned, all_stand, ready}
use Rattle.workers.proofs.runs.replicas_text.Goals as goal
use Rattle.workers.proofs.runs.replicas_text.Goals.{After-deref}

-- what has been given back changes no replica
same : (g : _) (c : After-deref g) → c.deref.result.now ≡ c.args.replicas.items
same g c =
    let kept : c.give_back.new.replicas ≡ c.args.replicas.items = c.give_back.ensures ∙ c.deref_mut.ensures.value in
    let count : length c.give_back.new.replicas ≡ c.args.replicas.len = omega (arith, ap (length {A = State}) kept, c.args.replicas.ok.0) in
    c.deref.ensures.value ∙ with_items_is c.args.replicas c.give_back.new.replicas count ∙ kept

pub write_report_by-requires-clause-ready : goal.write_report_by-requires-clause-ready
write_report_by-requires-clause-ready g c κs within =
    rw (same g c) (ready (job_of c.args.graph.now.graph c.args.plan.now) c.args.replicas.items c.requires.job.plan.parts_from c.requires.done)

pub write_report_by-requires-clause-graph : goal.write_report_by-requires-clause-graph
write_report_by-requires-clause-graph g c κs within =
    rw (same g c) (λ p d lt. all_planned (job_of c.args.graph.now.graph c.args.plan.now) c.args.replicas.items c.requires.done p d lt ∙ c.requires.job.vertices)

pub returns-in-Ok : goal.returns-in-Ok
returns-in-Ok g c =
    let j : Job = job_of c.args.graph.now.graph c.args.plan.now in
    let at = (goal.at.returns-in-Ok g c).After-deref in
    let text : List ℕ = report_of (mixing_of j.plan) j.graph c.args.graph.now.labels j.plan.limit in
    let said : c.write_report_by.new.writer.inner ≡ c.new-text.result.inner ++ text = c.in-Ok.ensures.ok j refl (rw (same g at) (all_stand j c.args.replicas.items c.requires.done)) in
    let start : c.new-text.result.inner ≡ [] = c.new-text.ensures.inner ∙ c.new.ensures in
    c.into_inner.ensures ∙ said ∙ ap (λ l. l ++ text) start
