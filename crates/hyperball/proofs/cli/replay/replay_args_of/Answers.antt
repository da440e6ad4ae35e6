use Rattle.std.proofs.Common.{◌≡◌, ◌∙◌, ap, codes, refl}
use Rattle.std.specs.Str.Parse.{ExplainsUnsignedError, HasUnsignedDigitsIfOk}
use Rattle.clap.specs.Words.{found_of}
use Rattle.job.specs.declared.input.JobInput.{JobInput}
use Rattle.hyperball.specs.Replaying.{replay_input}
use Rattle.hyperball.proofs.OptionLemmas.{number_is, same_replay_args}
use Rattle.hyperball.proofs.cli.replay.replay_args_of.Goals as goal

pub returns-clause-options : goal.returns-clause-options
returns-clause-options c = λ w h.
    let f = found_of c.args.matches.now in
    let job : c.job_input_of-counted.result ≡ replay_input w = c.job_input_of-counted.ensures (replay_input w) h.job refl refl in
    same_replay_args _ _ _ _ _ _ _ _ _ w
    (ap (λ (o : JobInput). o.options.log2m) job)
    (ap (λ (o : JobInput). o.options.seed) job)
    (ap (λ (o : JobInput). o.options.parts) job)
    (ap (λ (o : JobInput). o.options.limit) job)
    (c.unwrap_or.ensures ∙ number_is (λ t r. ExplainsUnsignedError 10 t r) (λ t r. HasUnsignedDigitsIfOk t r) f (codes "replicas") 1 8 w.options.replicas c.get_one.result c.get_one.ensures.none c.get_one.ensures.value h.replicas)
    (ap (λ (o : JobInput). o.options.estimate) job)
    (ap (λ (o : JobInput). o.options.delimiter) job)
    (ap (λ (o : JobInput). o.counted) job)
    (c.wants_progress.ensures w.progress h.progress)
