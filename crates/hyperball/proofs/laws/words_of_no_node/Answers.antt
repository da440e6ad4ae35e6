use Rattle.std.proofs.Common.{◌≡◌, [], ◌∷◌, codes, refl}
use Rattle.clap.specs.Words.{fault_of}
use Rattle.clap.specs.declared.error.kind.ErrorKind.TheVariants.{DisplayHelp, UnknownArgument, ValueValidation}
use Rattle.clap.proofs.OnLiterals.{clap_on_literals}
use Rattle.hyperball.specs.CommandLine.{gather_app, hyperball_app, node_app, replay_app, run_app}
use Rattle.hyperball.proofs.NameLemmas.{of_names}
use Rattle.hyperball.proofs.laws.words_of_no_node.Goals as goal

pub returns-clause-help : goal.returns-clause-help
unfolding clap_on_literals hyperball_app gather_app node_app replay_app run_app
returns-clause-help c = record { are = of_names (λ p. fault_of (hyperball_app p) (codes "hyperball" ∷ codes "node" ∷ codes "--help" ∷ []) ≡ DisplayHelp ∷ []) (λ at. refl) }

pub returns-clause-part : goal.returns-clause-part
unfolding clap_on_literals hyperball_app gather_app node_app replay_app run_app
returns-clause-part c = record { are = of_names (λ p. fault_of (hyperball_app p) (codes "hyperball" ∷ codes "gather" ∷ codes "--part" ∷ codes "0" ∷ []) ≡ UnknownArgument ∷ []) (λ at. refl) }

pub returns-clause-replicas : goal.returns-clause-replicas
unfolding clap_on_literals hyperball_app gather_app node_app replay_app run_app
returns-clause-replicas c = record { are = of_names (λ p. fault_of (hyperball_app p) (codes "hyperball" ∷ codes "node" ∷ codes "--replicas" ∷ codes "2" ∷ []) ≡ UnknownArgument ∷ []) (λ at. refl) }

pub returns-clause-number : goal.returns-clause-number
unfolding clap_on_literals hyperball_app gather_app node_app replay_app run_app
returns-clause-number c = record { are = of_names (λ p. fault_of (hyperball_app p) (codes "hyperball" ∷ codes "node" ∷ codes "--part" ∷ codes "65536" ∷ []) ≡ ValueValidation ∷ []) (λ at. refl) }

pub returns-clause-threads : goal.returns-clause-threads
unfolding clap_on_literals hyperball_app gather_app node_app replay_app run_app
returns-clause-threads c = record { are = of_names (λ p. fault_of (hyperball_app p) (codes "hyperball" ∷ codes "gather" ∷ codes "--threads" ∷ codes "1025" ∷ []) ≡ ValueValidation ∷ []) (λ at. refl) }

pub returns-clause-node_threads : goal.returns-clause-node_threads
unfolding clap_on_literals hyperball_app gather_app node_app replay_app run_app
returns-clause-node_threads c = record { are = of_names (λ p. fault_of (hyperball_app p) (codes "hyperball" ∷ codes "node" ∷ codes "--threads" ∷ codes "2" ∷ []) ≡ UnknownArgument ∷ []) (λ at. refl) }
