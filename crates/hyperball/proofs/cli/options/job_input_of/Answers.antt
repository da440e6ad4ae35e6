use Rattle.std.proofs.Common.{◌∙◌, codes}
use Rattle.std.specs.Str.Parse.{ExplainsUnsignedError, HasUnsignedDigitsIfOk}
use Rattle.clap.specs.Words.{found_of}
use Rattle.hyperball.specs.Words.{delimiter_name, estimate_name, usual_options}
use Rattle.hyperball.proofs.OptionLemmas.{flag_is, name_is, number_is, same_job}
use Rattle.hyperball.proofs.cli.options.job_input_of.Goals as goal

pub returns : goal.returns
returns c = λ o h large threads.
    let f = found_of c.args.matches.now in
    same_job _ _ _ _ _ _ _ _ _ o
    (c.unwrap_or.ensures ∙ number_is (λ t r. ExplainsUnsignedError 10 t r) (λ t r. HasUnsignedDigitsIfOk t r) f (codes "log2m") 8 8 o.options.log2m c.get_one.result c.get_one.ensures.none c.get_one.ensures.value h.log2m)
    (c.unwrap_or-2.ensures ∙ number_is (λ t r. ExplainsUnsignedError 10 t r) (λ t r. HasUnsignedDigitsIfOk t r) f (codes "seed") 0 64 o.options.seed c.get_one-2.result c.get_one-2.ensures.none c.get_one-2.ensures.value h.seed)
    (c.unwrap_or-3.ensures ∙ number_is (λ t r. ExplainsUnsignedError 10 t r) (λ t r. HasUnsignedDigitsIfOk t r) f (codes "parts") 1 16 o.options.parts c.get_one-3.result c.get_one-3.ensures.none c.get_one-3.ensures.value h.parts)
    (c.unwrap_or-4.ensures ∙ number_is (λ t r. ExplainsUnsignedError 10 t r) (λ t r. HasUnsignedDigitsIfOk t r) f (codes "limit") 4096 32 o.options.limit c.get_one-4.result c.get_one-4.ensures.none c.get_one-4.ensures.value h.limit)
    (c.estimate_of.ensures o.options.estimate (name_is usual_options.estimate estimate_name f (codes "estimate") o.options.estimate _ c.get_str.ensures h.estimate))
    (c.delimiter_of.ensures o.options.delimiter (name_is usual_options.delimiter delimiter_name f (codes "delimiter") o.options.delimiter _ c.get_str-2.ensures h.delimiter))
    large
    threads
    (flag_is f (codes "counted") c.get_flag.result o.counted c.get_flag.ensures.none c.get_flag.ensures.value c.get_flag.ensures.other h.counted)
