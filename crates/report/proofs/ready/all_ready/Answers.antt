use Rattle.std.proofs.Common.{◌&&◌, ◌∙◌, drop, ◌+◌, Bool, ap, sym}
use Rattle.report.specs.Ready.{is_ready, ready_from}
use Rattle.report.proofs.ReadyLemmas.{ready_step, ready_end}
use Rattle.report.proofs.ready.all_ready.Goals as goal

pub returns-then-not-is_ready : goal.returns-then-not-is_ready
returns-then-not-is_ready c =
    let p = c.loop-p.p in
    let rest : Bool = ready_from c.args.plan.now c.args.superstep (p + 1) (drop (p + 1) c.args.replicas.now) in
    sym (c.loop-p.invariant.rest
    ∙ ready_step c.args.plan.now c.args.superstep p c.args.replicas.now c.index-replicas-p.result c.loop-p-test.true
    ∙ ap (λ v. is_ready c.args.plan.now c.args.superstep p v && rest) (sym c.index-replicas-p.is)
    ∙ ap (λ (b : Bool). b && rest) (sym c.is_ready.ensures ∙ c.if-not-is_ready.true))

pub loop-p-preserved : goal.loop-p-preserved
loop-p-preserved c =
    let p = c.loop-p.p in
    let rest : Bool = ready_from c.args.plan.now c.args.superstep (p + 1) (drop (p + 1) c.args.replicas.now) in
    record {
      rest = c.loop-p.invariant.rest
          ∙ ready_step c.args.plan.now c.args.superstep p c.args.replicas.now c.index-replicas-p.result c.loop-p-test.true
          ∙ ap (λ v. is_ready c.args.plan.now c.args.superstep p v && rest) (sym c.index-replicas-p.is)
          ∙ ap (λ (b : Bool). b && rest) (sym c.is_ready.ensures ∙ c.if-not-is_ready.false);
    }

pub returns : goal.returns
returns c = sym (c.loop-p.invariant.rest ∙ ready_end c.args.plan.now c.args.superstep c.loop-p.p c.args.replicas.now c.loop-p-test.false)
