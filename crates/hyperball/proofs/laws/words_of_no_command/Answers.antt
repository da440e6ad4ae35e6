use Rattle.std.proofs.Common.{◌≡◌, [], ◌∷◌, codes, refl}
use Rattle.clap.specs.Words.{fault_of}
use Rattle.clap.specs.declared.error.kind.ErrorKind.TheVariants.{DisplayHelp, DisplayVersion, MissingSubcommand, UnknownArgument}
use Rattle.clap.proofs.OnLiterals.{clap_on_literals}
use Rattle.hyperball.specs.CommandLine.{gather_app, hyperball_app, node_app, replay_app, run_app}
use Rattle.hyperball.proofs.NameLemmas.{of_names}
use Rattle.hyperball.proofs.laws.words_of_no_command.Goals as goal

pub returns-clause-version : goal.returns-clause-version
unfolding clap_on_literals hyperball_app gather_app node_app replay_app run_app
returns-clause-version c = record { are = of_names (λ p. fault_of (hyperball_app p) (codes "hyperball" ∷ codes "--version" ∷ []) ≡ DisplayVersion ∷ []) (λ at. refl) }

pub returns-clause-help : goal.returns-clause-help
unfolding clap_on_literals hyperball_app gather_app node_app replay_app run_app
returns-clause-help c = record { are = of_names (λ p. fault_of (hyperball_app p) (codes "hyperball" ∷ codes "--help" ∷ []) ≡ DisplayHelp ∷ []) (λ at. refl) }

pub returns-clause-none : goal.returns-clause-none
unfolding clap_on_literals hyperball_app gather_app node_app replay_app run_app
returns-clause-none c = record { are = of_names (λ p. fault_of (hyperball_app p) (codes "hyperball" ∷ []) ≡ MissingSubcommand ∷ []) (λ at. refl) }

pub returns-clause-inner : goal.returns-clause-inner
unfolding clap_on_literals hyperball_app gather_app node_app replay_app run_app
returns-clause-inner c = record { are = of_names (λ p. fault_of (hyperball_app p) (codes "hyperball" ∷ codes "run" ∷ codes "--version" ∷ []) ≡ UnknownArgument ∷ []) (λ at. refl) }
