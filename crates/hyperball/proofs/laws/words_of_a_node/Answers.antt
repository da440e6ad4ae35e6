use Rattle.std.proofs.Common.{◌≡◌, List, [], ◌∷◌, codes, refl, lit<}
use Rattle.clap.specs.Words.{Text, fault_of, subcommand_of}
use Rattle.clap.proofs.OnLiterals.{clap_on_literals}
use Rattle.hyperball.specs.CommandLine.{gather_app, hyperball_app, node_app, replay_app, run_app}
use Rattle.hyperball.specs.LawWords.{gathered_job, telling_gathering, telling_node, third_node, usual_node}
use Rattle.hyperball.specs.Nodes.{IsGatherOf, IsNodeOf}
use Rattle.hyperball.proofs.NameLemmas.{of_names}
use Rattle.hyperball.proofs.laws.words_of_a_node.Goals as goal

abbrev usual_line : List Text
usual_line = codes "hyperball" ∷ codes "node" ∷ []

pub returns-clause-usual : goal.returns-clause-usual
unfolding clap_on_literals hyperball_app gather_app node_app replay_app run_app
returns-clause-usual c = record {
  accepted = record { are = of_names (λ p. fault_of (hyperball_app p) usual_line ≡ []) (λ at. refl) };
  command = of_names (λ p. IsNodeOf (subcommand_of (hyperball_app p) usual_line) usual_node) (λ at. (
    _,
    refl,
    record {
      job = record { log2m = refl; seed = refl; parts = refl; limit = refl; estimate = refl; delimiter = refl; counted = refl };
      large = refl;
      threads = refl;
      part = refl;
      progress = refl;
    },
  ));
}

abbrev third_line : List Text
third_line = codes "hyperball" ∷ codes "node" ∷ codes "--log2m" ∷ codes "4" ∷ codes "--parts=3" ∷ codes "--part" ∷ codes "2" ∷ codes "--counted" ∷ codes "--large" ∷ []

pub returns-clause-third : goal.returns-clause-third
unfolding clap_on_literals hyperball_app gather_app node_app replay_app run_app
returns-clause-third c = record {
  accepted = record { are = of_names (λ p. fault_of (hyperball_app p) third_line ≡ []) (λ at. refl) };
  command = of_names (λ p. IsNodeOf (subcommand_of (hyperball_app p) third_line) third_node) (λ at. (
    _,
    refl,
    record {
      job = record {
        log2m = record { numeral = (lit< tt, (lit< tt, tt)); value = refl; fits = lit< tt };
        seed = refl;
        parts = record { numeral = (lit< tt, (lit< tt, tt)); value = refl; fits = lit< tt };
        limit = refl;
        estimate = refl;
        delimiter = refl;
        counted = refl;
      };
      large = refl;
      threads = refl;
      part = record { numeral = (lit< tt, (lit< tt, tt)); value = refl; fits = lit< tt };
      progress = refl;
    },
  ));
}

abbrev gather_line : List Text
gather_line = codes "hyperball" ∷ codes "gather" ∷ codes "--parts=3" ∷ codes "--estimate" ∷ codes "corrected" ∷ codes "--delimiter=comma" ∷ codes "--threads" ∷ codes "2" ∷ codes "--large" ∷ []

pub returns-clause-gather : goal.returns-clause-gather
unfolding clap_on_literals hyperball_app gather_app node_app replay_app run_app
returns-clause-gather c = record {
  accepted = record { are = of_names (λ p. fault_of (hyperball_app p) gather_line ≡ []) (λ at. refl) };
  command = of_names (λ p. IsGatherOf (subcommand_of (hyperball_app p) gather_line) gathered_job) (λ at. (
    _,
    refl,
    record {
      job = record {
        log2m = refl;
        seed = refl;
        parts = record { numeral = (lit< tt, (lit< tt, tt)); value = refl; fits = lit< tt };
        limit = refl;
        estimate = refl;
        delimiter = refl;
        counted = refl;
      };
      large = refl;
      threads = record { numeral = (lit< tt, (lit< tt, tt)); value = refl; fits = lit< tt };
      progress = refl;
    },
  ));
}

abbrev telling_line : List Text
telling_line = codes "hyperball" ∷ codes "node" ∷ codes "--progress" ∷ []

pub returns-clause-telling : goal.returns-clause-telling
unfolding clap_on_literals hyperball_app gather_app node_app replay_app run_app
returns-clause-telling c = record {
  accepted = record { are = of_names (λ p. fault_of (hyperball_app p) telling_line ≡ []) (λ at. refl) };
  command = of_names (λ p. IsNodeOf (subcommand_of (hyperball_app p) telling_line) telling_node) (λ at. (
    _,
    refl,
    record {
      job = record { log2m = refl; seed = refl; parts = refl; limit = refl; estimate = refl; delimiter = refl; counted = refl };
      large = refl;
      threads = refl;
      part = refl;
      progress = refl;
    },
  ));
}

abbrev telling_gather_line : List Text
telling_gather_line = codes "hyperball" ∷ codes "gather" ∷ codes "--progress" ∷ []

pub returns-clause-telling_gather : goal.returns-clause-telling_gather
unfolding clap_on_literals hyperball_app gather_app node_app replay_app run_app
returns-clause-telling_gather c = record {
  accepted = record { are = of_names (λ p. fault_of (hyperball_app p) telling_gather_line ≡ []) (λ at. refl) };
  command = of_names (λ p. IsGatherOf (subcommand_of (hyperball_app p) telling_gather_line) telling_gathering) (λ at. (
    _,
    refl,
    record {
      job = record { log2m = refl; seed = refl; parts = refl; limit = refl; estimate = refl; delimiter = refl; counted = refl };
      large = refl;
      threads = refl;
      progress = refl;
    },
  ));
}
