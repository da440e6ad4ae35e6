use Rattle.std.proofs.Common.{◌∙◌, List, Option, subst, sym}
use Rattle.std.proofs.lemmas.Result.{IfOk-weaker}
use Rattle.clap.specs.Words.{Row, Text}
use Rattle.clap.specs.declared.error.kind.ErrorKind.{ErrorKind}
use Rattle.hyperball.specs.Subcommands.{IsSubcommandOf}
use Rattle.hyperball.specs.Words.{FailsWith, RefusesLists}
use Rattle.hyperball.proofs.SubcommandLemmas.{answer_says, of_words, refuses_orders}
use Rattle.hyperball.proofs.cli.read_words.Goals as goal

pub returns-in-Ok-clause-asked : goal.returns-in-Ok-clause-asked
returns-in-Ok-clause-asked c = λ a is.
    let read = c.in-Ok.ensures.read in
    answer_says a c.read_subcommand.result (c.read_subcommand.ensures.asked a (subst (λ (sub : Option (Text × List Row)). IsSubcommandOf sub a) (sym read.rows) (is.command read.parsers read.take)))

pub returns-in-Ok-clause-found : goal.returns-in-Ok-clause-found
returns-in-Ok-clause-found c =
    let read = c.in-Ok.ensures.read in
    IfOk-weaker c.read_subcommand.result _ _ (λ x found. of_words _ x read.parsers read.take read.faults _ read.rows found) c.read_subcommand.ensures.found

pub returns-in-Ok-clause-faults : goal.returns-in-Ok-clause-faults
returns-in-Ok-clause-faults c = λ kinds has.
    let read = c.in-Ok.ensures.read in
    subst (λ (k : List ErrorKind). FailsWith k c.read_subcommand.result) (sym (sym (has.are read.parsers read.take) ∙ read.faults)) c.read_subcommand.ensures.none

pub returns-in-Ok-clause-lists : goal.returns-in-Ok-clause-lists
returns-in-Ok-clause-lists c = λ e is.
    let read = c.in-Ok.ensures.read in
    refuses_orders _ e read.parsers read.take (subst (λ (sub : Option (Text × List Row)). RefusesLists sub e) read.rows (c.read_subcommand.ensures.lists e is))
