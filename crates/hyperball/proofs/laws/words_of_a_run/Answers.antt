use Rattle.std.proofs.Common.{◌≡◌, List, [], ◌∷◌, codes, refl, lit<}
use Rattle.clap.specs.Words.{Text, fault_of, subcommand_of}
use Rattle.clap.proofs.OnLiterals.{clap_on_literals}
use Rattle.hyperball.specs.CommandLine.{gather_app, hyperball_app, node_app, replay_app, run_app}
use Rattle.hyperball.specs.LawWords.{board_words, corrected_words, counted_words, log2m_words, node_words, space_words}
use Rattle.hyperball.specs.Words.{IsRunOf}
use Rattle.hyperball.proofs.NameLemmas.{of_names}
use Rattle.hyperball.proofs.laws.words_of_a_run.Goals as goal

abbrev log2m_line : List Text
log2m_line = codes "hyperball" ∷ codes "run" ∷ codes "--log2m" ∷ codes "4" ∷ []

abbrev space_line : List Text
space_line = codes "hyperball" ∷ codes "run" ∷ codes "--delimiter=space" ∷ codes "--limit=5000" ∷ []

abbrev corrected_line : List Text
corrected_line = codes "hyperball" ∷ codes "run" ∷ codes "--estimate" ∷ codes "corrected" ∷ []

abbrev counted_line : List Text
counted_line = codes "hyperball" ∷ codes "run" ∷ codes "--counted" ∷ codes "--parts" ∷ codes "2" ∷ []

abbrev node_line : List Text
node_line = codes "hyperball" ∷ codes "run" ∷ codes "--replicas" ∷ codes "2" ∷ codes "--keep=0" ∷ codes "--lose" ∷ codes "0.1@2" ∷ []

pub returns-clause-nodes : goal.returns-clause-nodes
unfolding clap_on_literals hyperball_app gather_app node_app replay_app run_app
returns-clause-nodes c = λ w. record {
  accepted = record { are = of_names (λ p. fault_of (hyperball_app p) node_line ≡ []) (λ at. refl) };
  command = of_names (λ p. IsRunOf (subcommand_of (hyperball_app p) node_line) (node_words w)) (λ at. (
    _,
    refl,
    record {
      job = record {
        log2m = refl;
        seed = refl;
        parts = refl;
        limit = refl;
        estimate = refl;
        delimiter = refl;
        counted = refl;
      };
      large = refl;
      threads = refl;
      replicas = record { numeral = (lit< tt, (lit< tt, tt)); value = refl; fits = lit< tt };
      entries = refl;
      keep = record { numeral = (lit< tt, (lit< tt, tt)); value = refl; fits = lit< tt };
      patience = refl;
      progress = refl;
    },
  ));
}

pub returns-clause-log2m : goal.returns-clause-log2m
unfolding clap_on_literals hyperball_app gather_app node_app replay_app run_app
returns-clause-log2m c = λ w. record {
  accepted = record { are = of_names (λ p. fault_of (hyperball_app p) log2m_line ≡ []) (λ at. refl) };
  command = of_names (λ p. IsRunOf (subcommand_of (hyperball_app p) log2m_line) (log2m_words w)) (λ at. (
    _,
    refl,
    record {
      job = record {
        log2m = record { numeral = (lit< tt, (lit< tt, tt)); value = refl; fits = lit< tt };
        seed = refl;
        parts = refl;
        limit = refl;
        estimate = refl;
        delimiter = refl;
        counted = refl;
      };
      large = refl;
      threads = refl;
      replicas = refl;
      entries = refl;
      keep = refl;
      patience = refl;
      progress = refl;
    },
  ));
}

pub returns-clause-limit : goal.returns-clause-limit
unfolding clap_on_literals hyperball_app gather_app node_app replay_app run_app
returns-clause-limit c = λ w. record {
  accepted = record { are = of_names (λ p. fault_of (hyperball_app p) space_line ≡ []) (λ at. refl) };
  command = of_names (λ p. IsRunOf (subcommand_of (hyperball_app p) space_line) (space_words w)) (λ at. (
    _,
    refl,
    record {
      job = record {
        log2m = refl;
        seed = refl;
        parts = refl;
        limit = record { numeral = (lit< tt, (lit< tt, (lit< tt, (lit< tt, (lit< tt, tt))))); value = refl; fits = lit< tt };
        estimate = refl;
        delimiter = refl;
        counted = refl;
      };
      large = refl;
      threads = refl;
      replicas = refl;
      entries = refl;
      keep = refl;
      patience = refl;
      progress = refl;
    },
  ));
}

pub returns-clause-estimate : goal.returns-clause-estimate
unfolding clap_on_literals hyperball_app gather_app node_app replay_app run_app
returns-clause-estimate c = λ w. record {
  accepted = record { are = of_names (λ p. fault_of (hyperball_app p) corrected_line ≡ []) (λ at. refl) };
  command = of_names (λ p. IsRunOf (subcommand_of (hyperball_app p) corrected_line) (corrected_words w)) (λ at. (
    _,
    refl,
    record {
      job = record {
        log2m = refl;
        seed = refl;
        parts = refl;
        limit = refl;
        estimate = refl;
        delimiter = refl;
        counted = refl;
      };
      large = refl;
      threads = refl;
      replicas = refl;
      entries = refl;
      keep = refl;
      patience = refl;
      progress = refl;
    },
  ));
}

pub returns-clause-counted : goal.returns-clause-counted
unfolding clap_on_literals hyperball_app gather_app node_app replay_app run_app
returns-clause-counted c = λ w. record {
  accepted = record { are = of_names (λ p. fault_of (hyperball_app p) counted_line ≡ []) (λ at. refl) };
  command = of_names (λ p. IsRunOf (subcommand_of (hyperball_app p) counted_line) (counted_words w)) (λ at. (
    _,
    refl,
    record {
      job = record {
        log2m = refl;
        seed = refl;
        parts = record { numeral = (lit< tt, (lit< tt, tt)); value = refl; fits = lit< tt };
        limit = refl;
        estimate = refl;
        delimiter = refl;
        counted = refl;
      };
      large = refl;
      threads = refl;
      replicas = refl;
      entries = refl;
      keep = refl;
      patience = refl;
      progress = refl;
    },
  ));
}

abbrev board_line : List Text
board_line = codes "hyperball" ∷ codes "run" ∷ codes "--entries" ∷ codes "64" ∷ codes "--patience=10" ∷ codes "--restart" ∷ codes "0.0@2" ∷ codes "--threads" ∷ codes "2" ∷ codes "--large" ∷ []

pub returns-clause-board : goal.returns-clause-board
unfolding clap_on_literals hyperball_app gather_app node_app replay_app run_app
returns-clause-board c = λ w. record {
  accepted = record { are = of_names (λ p. fault_of (hyperball_app p) board_line ≡ []) (λ at. refl) };
  command = of_names (λ p. IsRunOf (subcommand_of (hyperball_app p) board_line) (board_words w)) (λ at. (
    _,
    refl,
    record {
      job = record {
        log2m = refl;
        seed = refl;
        parts = refl;
        limit = refl;
        estimate = refl;
        delimiter = refl;
        counted = refl;
      };
      large = refl;
      threads = record { numeral = (lit< tt, (lit< tt, tt)); value = refl; fits = lit< tt };
      replicas = refl;
      entries = record { numeral = (lit< tt, (lit< tt, (lit< tt, tt))); value = refl; fits = lit< tt };
      keep = refl;
      patience = record { numeral = (lit< tt, (lit< tt, (lit< tt, tt))); value = refl; fits = lit< tt };
      progress = refl;
    },
  ));
}
