use Rattle.std.proofs.Common.{codes}
use Rattle.clap.specs.Words.{found_of}
use Rattle.hyperball.proofs.OptionLemmas.{flag_is}
use Rattle.hyperball.proofs.cli.options.wants_progress.Goals as goal

pub returns : goal.returns
returns c = λ b h.
    flag_is (found_of c.args.matches.now) (codes "progress") c.get_flag.result b c.get_flag.ensures.none c.get_flag.ensures.value c.get_flag.ensures.other h
