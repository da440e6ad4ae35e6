use Rattle.std.proofs.Common.{◌∙◌, ◌+◌, ◌<◌, ℕ, ap, arith, refl, set, subst, sym}
use Rattle.std.proofs.lemmas.List.{set-get_or}
use Rattle.workers.specs.Job.{CrewView}
use Rattle.workers.proofs.JobLemmas.{StartingAll, starting_all_more}
use Rattle.workers.proofs.nodes.Crew.start_all.Goals as goal

pub loop-p-preserved : goal.loop-p-preserved
loop-p-preserved g c =
    let j = c.args.self.now.job in
    let o = c.args.self.now.options in
    let p : ℕ = c.loop-p.p in (
      c.start_part.ensures.seat,
      subst (StartingAll (λ h. h.promise) (λ own. own.items) j o (p + 1)) (sym c.in-Ok-push.ensures.items) (starting_all_more (λ h. h.promise) (λ own. own.items) j o p c.loop-p.children.items c.in-Ok-start_part.own c.loop-p.invariant.1 c.in-Ok-start_part.ensures.started),
      ap (set c.loop-p.parts c.from-in-loop-p.result) c.start_part.ensures.part ∙ set-get_or c.loop-p.parts c.from-in-loop-p.result c.index-parts-from.result ∙ c.loop-p.invariant.2,
    )

pub loop-p-init : goal.loop-p-init
loop-p-init g c =
    let j = c.args.self.now.job in
    (c.requires.seat, subst (StartingAll (λ h. h.promise) (λ own. own.items) j c.args.self.now.options 0) (sym c.in-Ok.ensures.items) (record { count = refl; each = tt }), refl)

pub start_part-requires-clause-part : goal.start_part-requires-clause-part
start_part-requires-clause-part g c κs within =
    let j = c.args.self.now.job in
    let count = c.parts-count.ensures.value ∙ ap (λ (v : CrewView). v.job.plan.parts) c.self.view_is in
    let below : c.loop-p.p < j.plan.parts = omega (arith, c.loop-p-test.true, c.loop-p.auto.p-end, count) in
    rw (c.loop-p.invariant.2, c.from-in-loop-p.ensures) (c.requires.parts.each c.loop-p.p c.index-parts-from.result below)
