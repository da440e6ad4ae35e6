use Rattle.std.proofs.Common.{◌≡◌, [], ◌∷◌, codes, refl}
use Rattle.clap.specs.Words.{fault_of}
use Rattle.clap.specs.declared.error.kind.ErrorKind.TheVariants.{DisplayHelp, InvalidValue, UnknownArgument, ValueValidation}
use Rattle.clap.proofs.OnLiterals.{clap_on_literals}
use Rattle.hyperball.specs.CommandLine.{gather_app, hyperball_app, node_app, replay_app, run_app}
use Rattle.hyperball.proofs.NameLemmas.{of_names}
use Rattle.hyperball.proofs.laws.words_of_no_run.Goals as goal

pub returns-clause-help : goal.returns-clause-help
unfolding clap_on_literals hyperball_app gather_app node_app replay_app run_app
returns-clause-help c = record { are = of_names (λ p. fault_of (hyperball_app p) (codes "hyperball" ∷ codes "run" ∷ codes "--help" ∷ []) ≡ DisplayHelp ∷ []) (λ at. refl) }

pub returns-clause-unknown : goal.returns-clause-unknown
unfolding clap_on_literals hyperball_app gather_app node_app replay_app run_app
returns-clause-unknown c = record { are = of_names (λ p. fault_of (hyperball_app p) (codes "hyperball" ∷ codes "run" ∷ codes "--part" ∷ codes "0" ∷ []) ≡ UnknownArgument ∷ []) (λ at. refl) }

pub returns-clause-number : goal.returns-clause-number
unfolding clap_on_literals hyperball_app gather_app node_app replay_app run_app
returns-clause-number c = record { are = of_names (λ p. fault_of (hyperball_app p) (codes "hyperball" ∷ codes "run" ∷ codes "--log2m" ∷ codes "300" ∷ []) ≡ ValueValidation ∷ []) (λ at. refl) }

pub returns-clause-name : goal.returns-clause-name
unfolding clap_on_literals hyperball_app gather_app node_app replay_app run_app
returns-clause-name c = record { are = of_names (λ p. fault_of (hyperball_app p) (codes "hyperball" ∷ codes "run" ∷ codes "--delimiter" ∷ codes "semicolon" ∷ []) ≡ InvalidValue ∷ []) (λ at. refl) }

pub returns-clause-threads : goal.returns-clause-threads
unfolding clap_on_literals hyperball_app gather_app node_app replay_app run_app
returns-clause-threads c = record { are = of_names (λ p. fault_of (hyperball_app p) (codes "hyperball" ∷ codes "run" ∷ codes "--threads" ∷ codes "1025" ∷ []) ≡ ValueValidation ∷ []) (λ at. refl) }
