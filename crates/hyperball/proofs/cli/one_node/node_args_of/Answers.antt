use Rattle.std.proofs.Common.{◌∙◌, codes, sym}
use Rattle.std.specs.Str.Parse.{ExplainsUnsignedError, HasUnsignedDigitsIfOk}
use Rattle.clap.specs.Words.{found_of}
use Rattle.hyperball.proofs.OptionLemmas.{number_is, same_node_args}
use Rattle.hyperball.proofs.cli.one_node.node_args_of.Goals as goal

pub returns-clause-options : goal.returns-clause-options
returns-clause-options c = λ w h.
    let f = found_of c.args.matches.now in
    same_node_args _ _ _ w
    (c.job_input_of.ensures w.job h.job (c.wants_large.ensures w.job.options.large h.large) (sym h.threads))
    (c.unwrap_or.ensures ∙ number_is (λ t r. ExplainsUnsignedError 10 t r) (λ t r. HasUnsignedDigitsIfOk t r) f (codes "part") 0 16 w.part c.get_one.result c.get_one.ensures.none c.get_one.ensures.value h.part)
    (c.wants_progress.ensures w.progress h.progress)
