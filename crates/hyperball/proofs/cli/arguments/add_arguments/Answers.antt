use Rattle.std.proofs.Common.{ap, sym, subst}
use Rattle.std.proofs.lemmas.List.{take_all}
use Rattle.clap.specs.Words.{App}
use Rattle.hyperball.specs.CommandLine.{IsApp, with_arguments}
use Rattle.hyperball.proofs.CommandLemmas.{one_more, with_next}
use Rattle.hyperball.proofs.cli.arguments.add_arguments.Goals as goal

pub loop-argument-init : goal.loop-argument-init
unfolding with_arguments
loop-argument-init c = λ app h. h

pub loop-argument-preserved : goal.loop-argument-preserved
loop-argument-preserved c = λ app h.
    subst (λ (to : App). IsApp to c.in_ok-command.command) (sym (with_next c.args.arguments.now c.loop-argument.argument-index _ app c.loop-argument-test.true))
    (one_more _ _ _ _ _ (c.loop-argument.invariant app h) c.in_ok-command.ensures c.arg_of.ensures.local c.arg_of.ensures.rule)

pub returns : goal.returns
returns c = λ app h.
    subst (λ (to : App). IsApp to c.loop-argument.command)
    (ap (λ some. with_arguments some app) (take_all c.loop-argument.argument-index c.args.arguments.now c.loop-argument-test.false))
    (c.loop-argument.invariant app h)
