use Rattle.std.proofs.Common.{◌≡◌, List, [], ◌∷◌, codes, refl, lit<}
use Rattle.clap.specs.Words.{Text, fault_of, subcommand_of}
use Rattle.clap.proofs.OnLiterals.{clap_on_literals}
use Rattle.hyperball.specs.CommandLine.{gather_app, hyperball_app, node_app, replay_app, run_app}
use Rattle.hyperball.specs.LawWords.{replayed_input, replayed_plan, usual_replay}
use Rattle.hyperball.specs.Replaying.{IsReplayOf}
use Rattle.hyperball.proofs.NameLemmas.{of_names}
use Rattle.hyperball.proofs.laws.words_of_a_replay.Goals as goal

abbrev usual_line : List Text
usual_line = codes "hyperball" ∷ codes "replay" ∷ []

pub returns-clause-usual : goal.returns-clause-usual
unfolding clap_on_literals hyperball_app gather_app node_app replay_app run_app
returns-clause-usual c = record {
  accepted = record { are = of_names (λ p. fault_of (hyperball_app p) usual_line ≡ []) (λ at. refl) };
  command = of_names (λ p. IsReplayOf (subcommand_of (hyperball_app p) usual_line) usual_replay) (λ at. (
    _,
    refl,
    record {
      job = record {
        log2m = refl;
        seed = refl;
        parts = refl;
        limit = refl;
        estimate = refl;
        delimiter = refl;
        counted = refl;
      };
      replicas = refl;
      progress = refl;
    },
  ));
}

abbrev plan_line : List Text
plan_line = codes "hyperball" ∷ codes "replay" ∷ codes "--log2m" ∷ codes "4" ∷ codes "--parts=3" ∷ codes "--limit" ∷ codes "9" ∷ codes "--replicas" ∷ codes "2" ∷ []

pub returns-clause-plan : goal.returns-clause-plan
unfolding clap_on_literals hyperball_app gather_app node_app replay_app run_app
returns-clause-plan c = record {
  accepted = record { are = of_names (λ p. fault_of (hyperball_app p) plan_line ≡ []) (λ at. refl) };
  command = of_names (λ p. IsReplayOf (subcommand_of (hyperball_app p) plan_line) replayed_plan) (λ at. (
    _,
    refl,
    record {
      job = record {
        log2m = record { numeral = (lit< tt, (lit< tt, tt)); value = refl; fits = lit< tt };
        seed = refl;
        parts = record { numeral = (lit< tt, (lit< tt, tt)); value = refl; fits = lit< tt };
        limit = record { numeral = (lit< tt, (lit< tt, tt)); value = refl; fits = lit< tt };
        estimate = refl;
        delimiter = refl;
        counted = refl;
      };
      replicas = record { numeral = (lit< tt, (lit< tt, tt)); value = refl; fits = lit< tt };
      progress = refl;
    },
  ));
}

abbrev input_line : List Text
input_line = codes "hyperball" ∷ codes "replay" ∷ codes "--counted" ∷ codes "--delimiter" ∷ codes "comma" ∷ codes "--estimate=corrected" ∷ codes "--seed" ∷ codes "7" ∷ codes "--progress" ∷ []

pub returns-clause-input : goal.returns-clause-input
unfolding clap_on_literals hyperball_app gather_app node_app replay_app run_app
returns-clause-input c = record {
  accepted = record { are = of_names (λ p. fault_of (hyperball_app p) input_line ≡ []) (λ at. refl) };
  command = of_names (λ p. IsReplayOf (subcommand_of (hyperball_app p) input_line) replayed_input) (λ at. (
    _,
    refl,
    record {
      job = record {
        log2m = refl;
        seed = record { numeral = (lit< tt, (lit< tt, tt)); value = refl; fits = lit< tt };
        parts = refl;
        limit = refl;
        estimate = refl;
        delimiter = refl;
        counted = refl;
      };
      replicas = refl;
      progress = refl;
    },
  ));
}
