use Rattle.std.proofs.Common.{◌≡◌, ◌∙◌, ap, codes}
use Rattle.std.specs.Str.Parse.{ExplainsUnsignedError, HasUnsignedDigitsIfOk}
use Rattle.clap.specs.Words.{found_of}
use Rattle.job.specs.declared.input.JobInput.{JobInput}
use Rattle.hyperball.specs.Words.{run_input}
use Rattle.hyperball.proofs.OptionLemmas.{number_is, same_args}
use Rattle.hyperball.proofs.cli.run.args_with.Goals as goal

pub returns-clause-args : goal.returns-clause-args
returns-clause-args c = λ w h.
    let f = found_of c.args.matches.now in
    let job : c.job_input_of-counted.result ≡ run_input w = c.job_input_of-counted.ensures (run_input w) h.job (c.wants_large.ensures w.options.large h.large)
    (c.unwrap_or-threads.ensures ∙ number_is (λ t r. ExplainsUnsignedError 10 t r) (λ t r. HasUnsignedDigitsIfOk t r) f (codes "threads") 0 16 w.options.threads c.get_one.result c.get_one.ensures.none c.get_one.ensures.value h.threads) in
    same_args _ _ _ _ _ _ _ _ _ _ _ _ _ _ w
    (ap (λ (o : JobInput). o.options.log2m) job)
    (ap (λ (o : JobInput). o.options.seed) job)
    (ap (λ (o : JobInput). o.options.parts) job)
    (ap (λ (o : JobInput). o.options.limit) job)
    (ap (λ (o : JobInput). o.options.estimate) job)
    (ap (λ (o : JobInput). o.options.delimiter) job)
    (ap (λ (o : JobInput). o.options.large) job)
    (c.unwrap_or.ensures ∙ number_is (λ t r. ExplainsUnsignedError 10 t r) (λ t r. HasUnsignedDigitsIfOk t r) f (codes "replicas") 1 8 w.options.replicas c.get_one-2.result c.get_one-2.ensures.none c.get_one-2.ensures.value h.replicas)
    (c.unwrap_or-2.ensures ∙ number_is (λ t r. ExplainsUnsignedError 10 t r) (λ t r. HasUnsignedDigitsIfOk t r) f (codes "entries") 1048576 32 w.options.entries c.get_one-3.result c.get_one-3.ensures.none c.get_one-3.ensures.value h.entries)
    (c.unwrap_or-3.ensures ∙ number_is (λ t r. ExplainsUnsignedError 10 t r) (λ t r. HasUnsignedDigitsIfOk t r) f (codes "keep") 1 32 w.options.keep c.get_one-4.result c.get_one-4.ensures.none c.get_one-4.ensures.value h.keep)
    (c.unwrap_or-4.ensures ∙ number_is (λ t r. ExplainsUnsignedError 10 t r) (λ t r. HasUnsignedDigitsIfOk t r) f (codes "patience") 1000000 32 w.options.patience c.get_one-5.result c.get_one-5.ensures.none c.get_one-5.ensures.value h.patience)
    (ap (λ (o : JobInput). o.options.threads) job)
    (ap (λ (o : JobInput). o.counted) job)
    (c.wants_progress.ensures w.progress h.progress)
