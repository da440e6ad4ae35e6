-- Commands that are built up.
use Rattle.std.proofs.Common.{◌≡◌, ◌∙◌, ◌+◌, ◌<◌, ◌++◌, ◌∷◌, [], ℕ, Bool, List, false, ◌||◌, ap, ap₂, get_or, length, refl, take}
use Rattle.std.proofs.lemmas.List.{take_more}
use Rattle.clap.specs.Words.{AddsArg, App, Rule, rule_of, with_rule}
use Rattle.clap.specs.declared.builder.arg.Arg.{Arg}
use Rattle.clap.specs.declared.builder.command.Command.{Command}
use Rattle.hyperball.specs.CommandLine.{IsApp, rule_in, with_arguments}
use Rattle.hyperball.specs.declared.cli.arguments.Argument.{Argument}

-- with one argument more, which is for this command alone
pub one_more : (app : App) (old new : Command) (a : Arg) (r : Rule) → IsApp app old → AddsArg old a new → a.global ≡ false → rule_of a ≡ r → IsApp (with_rule app r) new
one_more app old new a r h adds local rule =
    let or : Bool → Bool → Bool = λ x y. x || y in
    record { form = adds.shape local ∙ ap₂ with_rule h.form rule; local = adds.globals ∙ ap₂ or h.local local }

-- an argument behind others
with_last : (some : List Argument) (a : Argument) (app : App) → with_arguments (some ++ a ∷ []) app ≡ with_rule (with_arguments some app) (rule_in a)
unfolding with_arguments
with_last [] a app = refl
with_last (x ∷ some) a app = with_last some a (with_rule app (rule_in x))

-- one argument further
pub with_next : (all : List Argument) (i : ℕ) (a : Argument) (app : App) → i < length all → with_arguments (take (i + 1) all) app ≡ with_rule (with_arguments (take i all) app) (rule_in (get_or all i a))
with_next all i a app lt = ap (λ some. with_arguments some app) (take_more all i a lt) ∙ with_last (take i all) (get_or all i a) app
