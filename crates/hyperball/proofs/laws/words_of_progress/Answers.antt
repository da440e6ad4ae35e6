use Rattle.std.proofs.Common.{◌≡◌, ◌∙◌, List, Option, [], ◌∷◌, codes, false, refl, subst, sym, true}
use Rattle.std.specs.Prelude.{MatchOption, None, Some}
use Rattle.clap.specs.Words.{Row, Text, subcommand_of}
use Rattle.clap.proofs.OnLiterals.{clap_on_literals}
use Rattle.hyperball.specs.CommandLine.{gather_app, hyperball_app, node_app, replay_app, run_app}
use Rattle.hyperball.specs.Subcommands.{IsSubcommand}
use Rattle.hyperball.specs.Words.{AsksProgress, GivesProgress, HasFaults, flag_text}
use Rattle.hyperball.specs.declared.cli.Subcommand.{Subcommand}
use Rattle.hyperball.specs.declared.cli.Subcommand.TheVariants as subcommand
use Rattle.hyperball.proofs.NameLemmas.{of_names, some_parsers}
use Rattle.hyperball.proofs.laws.words_of_progress.Goals as goal

abbrev run_line : List Text
run_line = codes "hyperball" ∷ codes "run" ∷ codes "--progress" ∷ codes "--parts" ∷ codes "2" ∷ []

pub returns-clause-run : goal.returns-clause-run
unfolding clap_on_literals hyperball_app gather_app node_app replay_app run_app
returns-clause-run c = record {
  flag = λ p take accepted. of_names (λ q. GivesProgress (subcommand_of (hyperball_app q) run_line) true) (λ at. refl) p take;
}

abbrev replay_line : List Text
replay_line = codes "hyperball" ∷ codes "replay" ∷ codes "--progress" ∷ []

pub returns-clause-replay : goal.returns-clause-replay
unfolding clap_on_literals hyperball_app gather_app node_app replay_app run_app
returns-clause-replay c = record {
  flag = λ p take accepted. of_names (λ q. GivesProgress (subcommand_of (hyperball_app q) replay_line) true) (λ at. refl) p take;
}

abbrev node_line : List Text
node_line = codes "hyperball" ∷ codes "node" ∷ codes "--progress" ∷ []

pub returns-clause-node : goal.returns-clause-node
unfolding clap_on_literals hyperball_app gather_app node_app replay_app run_app
returns-clause-node c = record {
  flag = λ p take accepted. of_names (λ q. GivesProgress (subcommand_of (hyperball_app q) node_line) true) (λ at. refl) p take;
}

abbrev gather_line : List Text
gather_line = codes "hyperball" ∷ codes "gather" ∷ codes "--progress" ∷ []

pub returns-clause-gather : goal.returns-clause-gather
unfolding clap_on_literals hyperball_app gather_app node_app replay_app run_app
returns-clause-gather c = record {
  flag = λ p take accepted. of_names (λ q. GivesProgress (subcommand_of (hyperball_app q) gather_line) true) (λ at. refl) p take;
}

different : codes "true" ≡ codes "false" → ⊥
different same = absurd (cc)

both : (one : Option Text) → MatchOption one (true ≡ false) (λ text. text ≡ flag_text true) → MatchOption one (false ≡ false) (λ text. text ≡ flag_text false) → ⊥
both None asked plain = absurd (cc)
both (Some text) asked plain = different (sym asked ∙ plain)

-- accepted words of a subcommand
never_both : (words : List Text) (name : Text) (rows : List Row) → HasFaults words [] → subcommand_of (hyperball_app some_parsers) words ≡ Some (name, rows) → AsksProgress words true → AsksProgress words false → ⊥
never_both words name rows accepted is asked plain =
    let none = accepted.are some_parsers (refl, refl) in
    both _
    (subst (λ (sub : Option (Text × List Row)). GivesProgress sub true) is (asked.flag some_parsers (refl, refl) none))
    (subst (λ (sub : Option (Text × List Row)). GivesProgress sub false) is (plain.flag some_parsers (refl, refl) none))

-- so it is of each command
wish_once : (words : List Text) (x : Subcommand) → IsSubcommand words x → AsksProgress words true → AsksProgress words false → ⊥
wish_once words (subcommand.Run w) is asked plain = let command = is.command some_parsers (refl, refl) in never_both _ _ command.0 is.accepted command.1 asked plain
wish_once words (subcommand.Replay w) is asked plain = let command = is.command some_parsers (refl, refl) in never_both _ _ command.0 is.accepted command.1 asked plain
wish_once words (subcommand.Node w) is asked plain = let command = is.command some_parsers (refl, refl) in never_both _ _ command.0 is.accepted command.1 asked plain
wish_once words (subcommand.Gather w) is asked plain = let command = is.command some_parsers (refl, refl) in never_both _ _ command.0 is.accepted command.1 asked plain

pub returns-clause-one : goal.returns-clause-one
returns-clause-one c = wish_once
