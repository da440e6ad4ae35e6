use Rattle.std.proofs.Common.{◌≡◌, ◌∙◌, ap, refl, rules, true, subst}
use Rattle.std.proofs.lemmas.Result.{IfOk-weaker}
use Rattle.clap.specs.Words.{App, is_simple, is_simple_and_free, subcommand_of, FailsBy, fault_of}
use Rattle.clap.proofs.CallerLemmas.{subcommand_required}
use Rattle.clap.proofs.OnLiterals.{clap_on_literals}
use Rattle.hyperball.specs.CommandLine.{Parsers, TakeNames, gather_app, hyperball_app, node_app, replay_app, run_app}
use Rattle.hyperball.specs.Words.{texts_of}
use Rattle.hyperball.proofs.NameLemmas.{of_names, some_parsers}
use Rattle.hyperball.proofs.cli.parse.Goals as goal

simple : (p : Parsers) → TakeNames p → is_simple (hyperball_app p) ≡ true
unfolding clap_on_literals hyperball_app gather_app node_app replay_app run_app
simple = of_names (λ p. is_simple (hyperball_app p) ≡ true) (λ at. refl)

free : (p : Parsers) → TakeNames p → is_simple_and_free (hyperball_app p) ≡ true
unfolding clap_on_literals hyperball_app gather_app node_app replay_app run_app
free = of_names (λ p. is_simple_and_free (hyperball_app p) ≡ true) (λ at. refl)

pub returns-in_err-command-clause-read : goal.returns-in_err-command-clause-read
returns-in_err-command-clause-read c = record {
  parsers = some_parsers;
  take = (refl, refl);
  rows = search rules;
  faults = search rules;
}

pub returns-clause-read : goal.returns-clause-read
returns-clause-read c =
    let p = c.in_ok-command.ensures.0 in
    let take = c.in_ok-command.ensures.1 in
    let app = c.in_ok-command.ensures.2.form in
    let parse = c.try_get_matches_from in
    record {
      parsers = p;
      take = take;
      rows = IfOk-weaker parse.result _ _ (λ m h. (h (ap is_simple app ∙ simple p take)).1 ∙ ap (λ (a : App). subcommand_of a (texts_of c.args.words.now)) app) parse.ensures.matches;
      faults = subst (λ (a : App). FailsBy (fault_of a (texts_of c.args.words.now)) parse.result) app (parse.ensures.kinds (ap is_simple_and_free app ∙ free p take));
    }

pub returns-clause-subcommand : goal.returns-clause-subcommand
unfolding hyperball_app
returns-clause-subcommand c =
    let app = c.in_ok-command.ensures.2 in
    IfOk-weaker c.try_get_matches_from.result _ _ (λ m parsed. subcommand_required _ m parsed app.local (ap (λ (a : App). a.top.subcommand_required) app.form)) c.try_get_matches_from.ensures.parsed
