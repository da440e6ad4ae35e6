use Rattle.std.proofs.Common.{◌∙◌, codes}
use Rattle.std.specs.Str.Parse.{ExplainsUnsignedError, HasUnsignedDigitsIfOk}
use Rattle.clap.specs.Words.{found_of}
use Rattle.hyperball.proofs.OptionLemmas.{number_is, same_gather_args}
use Rattle.hyperball.proofs.cli.gather.gather_args_of.Goals as goal

pub returns-clause-options : goal.returns-clause-options
returns-clause-options c = λ w h.
    let f = found_of c.args.matches.now in
    same_gather_args _ _ w
    (c.job_input_of.ensures w.job h.job (c.wants_large.ensures w.job.options.large h.large)
    (c.unwrap_or-threads.ensures ∙ number_is (λ t r. ExplainsUnsignedError 10 t r) (λ t r. HasUnsignedDigitsIfOk t r) f (codes "threads") 0 16 w.job.options.threads c.get_one.result c.get_one.ensures.none c.get_one.ensures.value h.threads))
    (c.wants_progress.ensures w.progress h.progress)
