-- Sections on a stream: what may be the front of a mark, and what a step through a section does.
use Rattle.std.specs.Prelude.{◌≡◌, ⊤, ℕ, Bool, true, false, not, ◌==◌, ◌&&◌, List, [], ◌∷◌, Option, None, Some, IfSome}
use Rattle.std.specs.Io.KnownBytes.{IsAtEnd, Keeps}
use Rattle.ball_model.specs.Sections.{after_mark, longer, sections_from, sections_of}
use Rattle.job.specs.declared.section.SectionStep.{SectionStep}
use Rattle.job.specs.declared.section.SectionStep.TheVariants as step

-- the bytes may be the front of a line of %%, and are not all of it
abbrev pub is_front : List ℕ → Bool
is_front [] = true
is_front (a ∷ []) = a == 37
is_front (a ∷ b ∷ []) = (a == 37) && (b == 37)
is_front (a ∷ b ∷ c ∷ []) = (a == 37) && (b == 37) && (c == 13)
is_front (a ∷ b ∷ c ∷ d ∷ more) = false

-- an LF is only at the end
unfoldable pub is_tail : List ℕ → Bool
is_tail [] = true
is_tail (a ∷ []) = true
is_tail (a ∷ b ∷ more) = not (a == 10) && is_tail (b ∷ more)

-- what was read ahead: if a line begins there, the front of a mark
pub record IsAhead (begins : Bool) (ahead : List ℕ) : Type 0 where
  pub front : begins ≡ true → is_front ahead ≡ true
  pub tail : is_tail ahead ≡ true

-- what was read ahead up to the first byte that shows whether a mark is there
pub record IsPast (ahead : List ℕ) : Type 0 where
  pub tail : is_tail ahead ≡ true
  pub nothing : IfSome (after_mark ahead) (λ rest. rest ≡ [])

-- the byte was given: it is the first of what was left, and what follows it is the rest of the section
pub record GivesOf (begins : Bool) (b : ℕ) (text : List ℕ) (new : Option (List ℕ)) : Type 0 where
  pub rest : List ℕ
  pub new_is : new ≡ Some rest
  pub text_is : text ≡ b ∷ rest
  pub sections : sections_from begins text ≡ longer b (sections_from (b == 10) rest)

abbrev pub Gives : Bool → ℕ → Option (List ℕ) → Option (List ℕ) → Type 0
Gives begins b old new = IfSome old (λ text. GivesOf begins b text new)

-- the section ended at a mark, after which that is left
pub record EndsOf (begins : Bool) (text : List ℕ) (new : Option (List ℕ)) : Type 0 where
  pub rest : List ℕ
  pub new_is : new ≡ Some rest
  pub sections : sections_from begins text ≡ Some ([], rest)

abbrev pub EndsAtMark : Bool → Option (List ℕ) → Option (List ℕ) → Type 0
EndsAtMark begins old new = IfSome old (λ text. EndsOf begins text new)

-- what a step through a section does, by what came of it. `old` and `new` are the bytes that were to come and those that
-- are, with what was read ahead; `left` is what the reader has
abbrev pub DoesStep : Bool → Option (List ℕ) → Option (List ℕ) → Option (List ℕ) → SectionStep → Type 0
DoesStep begins old new left (step.Byte b) = Gives begins b old new
DoesStep begins old new left step.Mark = EndsAtMark begins old left
DoesStep begins old new left step.End = IsAtEnd old
DoesStep begins old new left step.Failed = Keeps old new

-- what is read ahead after a step: nothing if the section has ended, and as before if a call failed
abbrev pub LeavesAhead : Bool → SectionStep → List ℕ → Type 0
LeavesAhead begins (step.Byte b) ahead = IsAhead (b == 10) ahead
LeavesAhead begins step.Mark ahead = ahead ≡ []
LeavesAhead begins step.End ahead = ahead ≡ []
LeavesAhead begins step.Failed ahead = IsAhead begins ahead

abbrev pub IsByteOrEnd : SectionStep → Type 0
IsByteOrEnd (step.Byte b) = ⊤
IsByteOrEnd step.Mark = ⊥
IsByteOrEnd step.End = ⊤
IsByteOrEnd step.Failed = ⊥

-- a section was read, and the mark after it: what follows it is left
pub record SectionOf (front text : List ℕ) (new : Option (List ℕ)) : Type 0 where
  pub rest : List ℕ
  pub new_is : new ≡ Some rest
  pub sections : sections_of text ≡ Some (front, rest)

abbrev pub ReadsSection : List ℕ → Option (List ℕ) → Option (List ℕ) → Type 0
ReadsSection front old new = IfSome old (λ text. SectionOf front text new)

-- ---- a section that does not end
-- no line of exactly %% is left
abbrev pub HasNoMark : Option (List ℕ) → Type 0
HasNoMark left = IfSome left (λ text. sections_of text ≡ None)

abbrev pub first_or : List ℕ → Option (List ℕ × List ℕ) → List ℕ
first_or text None = text
first_or text (Some sections) = sections.0

-- what is before the first line of exactly %%, or all if there is none
abbrev pub before_mark : List ℕ → List ℕ
before_mark text = first_or text (sections_of text)
