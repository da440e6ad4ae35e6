use Rattle.std.proofs.Common.{◌∙◌, ◌<◌, sym, subst, arith}
use Rattle.std.proofs.lemmas.Option.{IfSome_then}
use Rattle.std.proofs.lemmas.Bool.Decides.{nat_tests}
use Rattle.ball_model.specs.Job.{Job, job_of}
use Rattle.ball_model.specs.State.{Stands}
use Rattle.state_tests.proofs.TestLemmas.{stands_self}
use Rattle.state_tests.proofs.of_board.replica.Goals as goal

pub returns : goal.returns
returns c =
    let i = c.setting.inside in
    let j : Job = job_of i.graph.graph i.plan in
    let below : c.args.p < i.plan.parts = grind (arith, nat_tests, c.if-p-parts.false, c.parts.ensures.value) in
    IfSome_then c.boxed.result c.boxed.ensures (λ b same. subst (λ (k : Job). Stands k b.value) c.setting.view_is (subst (Stands j) (sym same) (stands_self j c.args.p 0 _ (c.in-Ok-new.ensures.stands j c.args.p c.setting.invariant below (c.in_ok-shared.ensures ∙ c.in-Ok.ensures)))))
