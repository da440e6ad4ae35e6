use Rattle.std.proofs.Common.{refl}
use Rattle.hyperball.specs.CommandLine.{with_arguments}
use Rattle.hyperball.proofs.cli.options.job_arguments.Goals as goal

pub returns : goal.returns
unfolding with_arguments
returns c = λ app.
    rw (
      c.option.ensures,
      c.option-2.ensures,
      c.option-3.ensures,
      c.option-4.ensures,
      c.option-5.ensures,
      c.option-6.ensures,
      c.flag.ensures,
      c.value_parser.ensures,
      c.value_parser-2.ensures,
      c.value_parser-3.ensures,
      c.value_parser-4.ensures,
    ) refl
