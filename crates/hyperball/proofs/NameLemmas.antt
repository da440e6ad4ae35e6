-- The names of the delimiters and of the ways to make estimates, wherever in memory they stand.
use Rattle.std.proofs.Common.{◌≡◌, ℕ, List, [], ◌∷◌, codes, map, subst, Bor}
use Rattle.clap.specs.Words.{Text}
use Rattle.clap.specs.declared.builder.value_parser.ValueParser.{ValueParser}
use Rattle.clap.specs.declared.builder.value_parser.ValueParser.TheVariants as vp
use Rattle.hyperball.specs.CommandLine.{delimiter_names, estimate_names, Parsers, TakeNames, TakesNames}

-- a name at a place
abbrev pub at : ℕ × ℕ → Text → Bor Text
at place name = record { ref_ptr = place; now = name }

-- a parser of names, which stand in a list
abbrev names_in : ℕ × ℕ → List (Bor Text) → ValueParser
names_in list names = vp.Names (record { ref_ptr = list; now = names })

-- where the names stand, and their lists
pub record ParserPlaces : Type 0 where
  pub estimates : ℕ × ℕ
  pub raw : ℕ × ℕ
  pub corrected : ℕ × ℕ
  pub delimiters : ℕ × ℕ
  pub tab : ℕ × ℕ
  pub comma : ℕ × ℕ
  pub space : ℕ × ℕ

-- the parsers of the names at these places
abbrev pub parsers_at : ParserPlaces → Parsers
parsers_at p = record {
  estimates = names_in p.estimates (at p.raw (codes "raw") ∷ at p.corrected (codes "corrected") ∷ []);
  delimiters = names_in p.delimiters (at p.tab (codes "tab") ∷ at p.comma (codes "comma") ∷ at p.space (codes "space") ∷ []);
}

-- some parsers
abbrev pub some_parsers : Parsers
some_parsers = parsers_at (record { estimates = (0, 0); raw = (0, 0); corrected = (0, 0); delimiters = (0, 0); tab = (0, 0); comma = (0, 0); space = (0, 0) })

-- two names
two : (P : ValueParser → Type 0) → ((list a b : ℕ × ℕ) → P (names_in list (at a (codes "raw") ∷ at b (codes "corrected") ∷ []))) → (list : ℕ × ℕ) (names : List (Bor Text)) → map (λ name. name.now) names ≡ estimate_names → P (names_in list names)
two P h list [] e = absurd (cc)
two P h list (a ∷ []) e = absurd (cc)
two P h list (a ∷ b ∷ []) e =
    let ea : codes "raw" ≡ a.now = cc in
    let eb : codes "corrected" ≡ b.now = cc in
    subst (λ (t : Text). P (names_in list (at a.ref_ptr t ∷ b ∷ []))) ea
    (subst (λ (t : Text). P (names_in list (at a.ref_ptr (codes "raw") ∷ at b.ref_ptr t ∷ []))) eb
    (h list a.ref_ptr b.ref_ptr))
two P h list (a ∷ b ∷ c ∷ rest) e = absurd (cc)

-- three names
three : (P : ValueParser → Type 0) → ((list a b c : ℕ × ℕ) → P (names_in list (at a (codes "tab") ∷ at b (codes "comma") ∷ at c (codes "space") ∷ []))) → (list : ℕ × ℕ) (names : List (Bor Text)) → map (λ name. name.now) names ≡ delimiter_names → P (names_in list names)
three P h list [] e = absurd (cc)
three P h list (a ∷ []) e = absurd (cc)
three P h list (a ∷ b ∷ []) e = absurd (cc)
three P h list (a ∷ b ∷ c ∷ []) e =
    let ea : codes "tab" ≡ a.now = cc in
    let eb : codes "comma" ≡ b.now = cc in
    let ec : codes "space" ≡ c.now = cc in
    subst (λ (t : Text). P (names_in list (at a.ref_ptr t ∷ b ∷ c ∷ []))) ea
    (subst (λ (t : Text). P (names_in list (at a.ref_ptr (codes "tab") ∷ at b.ref_ptr t ∷ c ∷ []))) eb
    (subst (λ (t : Text). P (names_in list (at a.ref_ptr (codes "tab") ∷ at b.ref_ptr (codes "comma") ∷ at c.ref_ptr t ∷ []))) ec
    (h list a.ref_ptr b.ref_ptr c.ref_ptr)))
three P h list (a ∷ b ∷ c ∷ d ∷ rest) e = absurd (cc)

-- a parser that takes some names is one of names
named : (P : ValueParser → Type 0) (names : List Text) → ((list : ℕ × ℕ) (given : List (Bor Text)) → map (λ name. name.now) given ≡ names → P (names_in list given)) → (p : ValueParser) → TakesNames names p → P p
named P names h (vp.Names given) takes = h given.ref_ptr given.now takes
named P names h vp.String takes = absurd takes
named P names h vp.NonEmptyString takes = absurd takes
named P names h vp.Bool takes = absurd takes
named P names h vp.Boolish takes = absurd takes
named P names h vp.Falsey takes = absurd takes
named P names h (vp.Signed low high) takes = absurd takes
named P names h (vp.Unsigned low high) takes = absurd takes
named P names h vp.Float takes = absurd takes
named P names h vp.Char takes = absurd takes
named P names h (vp.Values given) takes = absurd takes

-- what holds of the names at any places holds of all parsers that take them
pub of_names : (P : Parsers → Type 0) → ((p : ParserPlaces) → P (parsers_at p)) → (p : Parsers) → TakeNames p → P p
of_names P h p take =
    named (λ (e : ValueParser). P (record { estimates = e; delimiters = p.delimiters })) estimate_names
    (two (λ (e : ValueParser). P (record { estimates = e; delimiters = p.delimiters })) (λ list a b.
    named (λ (d : ValueParser). P (record { estimates = names_in list (at a (codes "raw") ∷ at b (codes "corrected") ∷ []); delimiters = d })) delimiter_names
    (three (λ (d : ValueParser). P (record { estimates = names_in list (at a (codes "raw") ∷ at b (codes "corrected") ∷ []); delimiters = d })) (λ other c d e.
    h (record { estimates = list; raw = a; corrected = b; delimiters = other; tab = c; comma = d; space = e })))
    p.delimiters take.1))
    p.estimates take.0
