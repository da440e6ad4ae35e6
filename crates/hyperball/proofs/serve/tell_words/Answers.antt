use Rattle.std.proofs.Common.{◌≡◌, ◌≢◌, ◌⊎◌, inl, inr, List, [], ◌∷◌, subst, sym}
use Rattle.std.specs.List.{AllByRecursion}
use Rattle.clap.specs.Words.{IsAmong, kind_of}
use Rattle.clap.specs.declared.error.kind.ErrorKind.{ErrorKind}
use Rattle.clap.specs.declared.error.kind.ErrorKind.TheVariants as kind
use Rattle.hyperball.specs.Words.{FailsFor, IsMistake}
use Rattle.hyperball.specs.declared.cli.WordsError.TheVariants as words_error
use Rattle.hyperball.proofs.serve.tell_words.Goals as goal

-- a kind that is one of some mistakes is a mistake
among : (k : ErrorKind) (kinds : List ErrorKind) → IsAmong k kinds → AllByRecursion IsMistake kinds → IsMistake k
among k [] h all = absurd h
among k (x ∷ xs) (inl e) all = subst IsMistake (sym e) all.0
among k (x ∷ xs) (inr h) all = among k xs h all.1

-- a kind that is one of one is that one
alone : (k x : ErrorKind) → IsAmong k (x ∷ []) → k ≡ x
alone k x (inl e) = e
alone k x (inr h) = absurd h

-- lack of memory, or one of some mistakes, is no subcommand for help
no_help : (kinds : List ErrorKind) (k : ErrorKind) → AllByRecursion IsMistake kinds → (k ≡ kind.OutOfMemory) ⊎ IsAmong k kinds → (k ≢ kind.DisplayHelp) × (k ≢ kind.DisplayVersion)
no_help kinds k all (inl e) = (λ is. absurd (cc), λ is. absurd (cc))
no_help kinds k all (inr h) = (among k kinds h all).1

pub returns-in-Clap-clause-refused : goal.returns-in-Clap-clause-refused
returns-in-Clap-clause-refused g c = λ kinds fails. record {
  mistaken = λ mistakes. elim (subst (FailsFor kinds) c.in-Clap.is fails) [
    | inl e ↦ inr (c.tell_clap.ensures.status.memory e)
    | inr h ↦ inl (c.tell_clap.ensures.status.mistake (among (kind_of c.in-Clap.error) kinds h mistakes.1))
  ];
  help = λ is. elim (subst (λ (k : List ErrorKind). FailsFor k (words_error.Clap c.in-Clap.error)) is (subst (FailsFor kinds) c.in-Clap.is fails)) [
    | inl e ↦ inr (c.tell_clap.ensures.status.memory e)
    | inr h ↦ c.tell_clap.ensures.status.help (alone _ _ h)
  ];
  version = λ is. elim (subst (λ (k : List ErrorKind). FailsFor k (words_error.Clap c.in-Clap.error)) is (subst (FailsFor kinds) c.in-Clap.is fails)) [
    | inl e ↦ inr (c.tell_clap.ensures.status.memory e)
    | inr h ↦ c.tell_clap.ensures.status.version (alone _ _ h)
  ];
  some = λ some zero. c.tell_clap.ensures.left.some zero;
  unwritten = λ mistakes.
      let other = no_help kinds (kind_of c.in-Clap.error) mistakes.1 (subst (FailsFor kinds) c.in-Clap.is fails) in
      c.tell_clap.ensures.unwritten other.0 other.1;
}

pub returns-in-Clap-clause-unwritten : goal.returns-in-Clap-clause-unwritten
returns-in-Clap-clause-unwritten g c = λ fails.
    let other = no_help [] (kind_of c.in-Clap.error) tt (subst (FailsFor []) c.in-Clap.is fails) in
    c.tell_clap.ensures.unwritten other.0 other.1
