use Rattle.std.proofs.Common.{◌∙◌, List, [], ◌∷◌, codes, false, refl, sym}
use Rattle.clap.specs.Words.{Text, subcommand_of}
use Rattle.clap.proofs.OnLiterals.{clap_on_literals}
use Rattle.hyperball.specs.CommandLine.{gather_app, hyperball_app, node_app, replay_app, run_app}
use Rattle.hyperball.specs.Words.{GivesProgress}
use Rattle.hyperball.proofs.NameLemmas.{of_names}
use Rattle.hyperball.proofs.laws.words_of_no_progress.Goals as goal

abbrev run_line : List Text
run_line = codes "hyperball" ∷ codes "run" ∷ codes "--parts" ∷ codes "2" ∷ []

pub returns-clause-run : goal.returns-clause-run
unfolding clap_on_literals hyperball_app gather_app node_app replay_app run_app
returns-clause-run c = record {
  flag = λ p take accepted. of_names (λ q. GivesProgress (subcommand_of (hyperball_app q) run_line) false) (λ at. refl) p take;
}

abbrev node_line : List Text
node_line = codes "hyperball" ∷ codes "node" ∷ []

pub returns-clause-node : goal.returns-clause-node
unfolding clap_on_literals hyperball_app gather_app node_app replay_app run_app
returns-clause-node c = record {
  flag = λ p take accepted. of_names (λ q. GivesProgress (subcommand_of (hyperball_app q) node_line) false) (λ at. refl) p take;
}

abbrev gather_line : List Text
gather_line = codes "hyperball" ∷ codes "gather" ∷ codes "--parts=3" ∷ []

pub returns-clause-gather : goal.returns-clause-gather
unfolding clap_on_literals hyperball_app gather_app node_app replay_app run_app
returns-clause-gather c = record {
  flag = λ p take accepted. of_names (λ q. GivesProgress (subcommand_of (hyperball_app q) gather_line) false) (λ at. refl) p take;
}

pub returns-clause-refused : goal.returns-clause-refused
returns-clause-refused c = λ words kinds has some. record {
  flag = λ p take accepted. absurd (some (sym (has.are p take) ∙ accepted));
}
