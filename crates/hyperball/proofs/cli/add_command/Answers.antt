use Rattle.std.proofs.Common.{ap, ap₂, Bool, ◌||◌, ◌∙◌, subst}
use Rattle.std.specs.Prelude.{IfOk}
use Rattle.std.proofs.lemmas.Result.{IfOk-weaker}
use Rattle.clap.specs.Words.{App, with_subcommand}
use Rattle.hyperball.specs.CommandLine.{IsApp}
use Rattle.hyperball.proofs.cli.add_command.Goals as goal

pub returns-in-Ok : goal.returns-in-Ok
returns-in-Ok c = λ app sub top is.
    let or : Bool → Bool → Bool = λ a b. a || b in
    let inner = subst (λ r. IfOk r (IsApp sub)) c.in-Ok.is is in
    IfOk-weaker c.subcommand.result _ _ (λ m h. record {
      form = h.shape inner.local ∙ ap₂ with_subcommand top.form (ap (λ (a : App). a.top) inner.form);
      local = h.globals ∙ ap₂ or top.local inner.local;
    }) c.subcommand.ensures
