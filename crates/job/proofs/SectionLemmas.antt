-- What is read ahead of a section, and what a step through it does.
use Rattle.std.proofs.Common.{◌≡◌, ◌∙◌, ℕ, ◌==◌, ◌+◌, Bool, true, false, not, ◌&&◌, if◌then◌else◌, List, [], ◌∷◌, ◌++◌, length, refl, ap, sym, subst, append-nil, append_assoc, arith, ◌-◌}
use Rattle.std.specs.Prelude.{Option, None, Some, IfSome, option_map, remove, slice_index_or}
use Rattle.std.specs.Io.KnownBytes.{Consumes, IsAtEnd, Keeps, prepend_known}
use Rattle.std.proofs.KnownBytes.{prepend_known-end}
use Rattle.std.proofs.lemmas.Bool.{and_parts, eqb-true}
use Rattle.std.proofs.lemmas.List.{nil_from_length}
use Rattle.ball_model.specs.Sections.{after_line, after_mark, longer, sections_from, sections_of, sections_or}
use Rattle.job.specs.Section.{DoesStep, EndsAtMark, EndsOf, Gives, GivesOf, HasNoMark, IsAhead, IsByteOrEnd, IsPast, LeavesAhead, ReadsSection, before_mark, first_or, is_front, is_tail}
use Rattle.job.specs.declared.section.SectionStep.{SectionStep}
use Rattle.job.specs.declared.section.SectionStep.TheVariants as step

pub no_bytes : (xs : List ℕ) → (length xs == 0) ≡ true → xs ≡ []
no_bytes xs is = nil_from_length xs (eqb-true (length xs) 0 is)

-- a text that is cut behind some bytes
abbrev pub behind : List ℕ → Option (List ℕ × List ℕ) → Option (List ℕ × List ℕ)
behind xs o = option_map (λ s. (xs ++ s.0, s.1)) o

pub behind-longer : (xs : List ℕ) (c : ℕ) (o : Option (List ℕ × List ℕ)) → behind xs (longer c o) ≡ behind (xs ++ c ∷ []) o
behind-longer xs c None = refl
behind-longer xs c (Some s) = ap (λ l. Some (l, s.1)) (sym (append_assoc xs (c ∷ []) s.0))

-- ---- one byte more than a front

mark_or_not : (t : Bool) → IfSome (if t then Some ([]) else None) (λ (rest : List ℕ). rest ≡ [])
mark_or_not true = refl
mark_or_not false = tt

pub past_front : (xs : List ℕ) (c : ℕ) → is_front xs ≡ true → IsPast (xs ++ c ∷ [])
unfolding is_tail
past_front [] c is = record { tail = refl; nothing = tt }
past_front (a ∷ []) c is =
    let first : a ≡ 37 = eqb-true a 37 is in
    subst (λ (x : ℕ). IsPast (x ∷ c ∷ [])) (sym first) (record { tail = refl; nothing = mark_or_not (c == 37) })
past_front (a ∷ b ∷ []) c is =
    let first : a ≡ 37 = eqb-true a 37 (and_parts (a == 37) (b == 37) is).0 in
    let second : b ≡ 37 = eqb-true b 37 (and_parts (a == 37) (b == 37) is).1 in
    subst (λ (x : ℕ). IsPast (x ∷ b ∷ c ∷ [])) (sym first)
    (subst (λ (x : ℕ). IsPast (37 ∷ x ∷ c ∷ [])) (sym second) (record { tail = refl; nothing = mark_or_not (c == 10) }))
past_front (a ∷ b ∷ d ∷ []) c is =
    let two = (and_parts ((a == 37) && (b == 37)) (d == 13) is).0 in
    let first : a ≡ 37 = eqb-true a 37 (and_parts (a == 37) (b == 37) two).0 in
    let second : b ≡ 37 = eqb-true b 37 (and_parts (a == 37) (b == 37) two).1 in
    let third : d ≡ 13 = eqb-true d 13 (and_parts ((a == 37) && (b == 37)) (d == 13) is).1 in
    subst (λ (x : ℕ). IsPast (x ∷ b ∷ d ∷ c ∷ [])) (sym first)
    (subst (λ (x : ℕ). IsPast (37 ∷ x ∷ d ∷ c ∷ [])) (sym second)
    (subst (λ (x : ℕ). IsPast (37 ∷ 37 ∷ x ∷ c ∷ [])) (sym third) (record { tail = refl; nothing = mark_or_not (c == 10) })))
past_front (a ∷ b ∷ d ∷ e ∷ more) c is = absurd (cc)

-- a front is itself such
pub front_past : (xs : List ℕ) → is_front xs ≡ true → IsPast xs
unfolding is_tail
front_past [] is = record { tail = refl; nothing = tt }
front_past (a ∷ []) is = record { tail = refl; nothing = tt }
front_past (a ∷ b ∷ []) is =
    let first : a ≡ 37 = eqb-true a 37 (and_parts (a == 37) (b == 37) is).0 in
    subst (λ (x : ℕ). IsPast (x ∷ b ∷ [])) (sym first) (record { tail = refl; nothing = mark_or_not (b == 37) })
front_past (a ∷ b ∷ d ∷ []) is =
    let two = (and_parts ((a == 37) && (b == 37)) (d == 13) is).0 in
    let first : a ≡ 37 = eqb-true a 37 (and_parts (a == 37) (b == 37) two).0 in
    let second : b ≡ 37 = eqb-true b 37 (and_parts (a == 37) (b == 37) two).1 in
    subst (λ (x : ℕ). IsPast (x ∷ b ∷ d ∷ [])) (sym first)
    (subst (λ (x : ℕ). IsPast (37 ∷ x ∷ d ∷ [])) (sym second) (record { tail = refl; nothing = mark_or_not (d == 10) }))
front_past (a ∷ b ∷ d ∷ e ∷ more) is = absurd (cc)

-- ---- what was read ahead decides whether a mark stands there

abbrev pub onto : List ℕ → Option (List ℕ) → Option (List ℕ)
onto rest o = option_map (λ (l : List ℕ). l ++ rest) o

-- a byte that is no CR decides whether a line ends
line_one : (c : ℕ) (t : Bool) → (c == 13) ≡ t → t ≡ false → (rest : List ℕ) → after_line (c ∷ rest) ≡ onto rest (after_line (c ∷ []))
line_one c t is none [] = nil (c == 10)
  where
    nil : (u : Bool) → (if u then Some ([]) else None) ≡ onto [] (if u then Some ([]) else None)
    nil true = refl
    nil false = refl
line_one c t is none (d ∷ rest) = two (c == 10) (c == 13) (d == 10) (is ∙ none)
  where
    two : (u v w : Bool) → v ≡ false → (if u then Some (d ∷ rest) else (if v && w then Some rest else None)) ≡ onto (d ∷ rest) (if u then Some ([]) else None)
    two true v w e = refl
    two false true w e = absurd (cc)
    two false false w e = refl

line_two : (c d : ℕ) (more rest : List ℕ) → after_line (c ∷ d ∷ (more ++ rest)) ≡ onto rest (after_line (c ∷ d ∷ more))
line_two c d more rest = tests (c == 10) ((c == 13) && (d == 10))
  where
    tests : (u v : Bool) → (if u then Some (d ∷ (more ++ rest)) else (if v then Some (more ++ rest) else None)) ≡ onto rest (if u then Some (d ∷ more) else (if v then Some more else None))
    tests true v = refl
    tests false true = refl
    tests false false = refl

mark_when : (t : Bool) (o p : Option (List ℕ)) (rest : List ℕ) → (t ≡ true → o ≡ onto rest p) → (if t then o else None) ≡ onto rest (if t then p else None)
mark_when true o p rest e = e refl
mark_when false o p rest e = refl

mark_then_rest : (xs rest : List ℕ) → is_front xs ≡ false → after_mark (xs ++ rest) ≡ onto rest (after_mark xs)
mark_then_rest [] rest is = absurd (cc)
mark_then_rest (a ∷ []) [] is = refl
mark_then_rest (a ∷ []) (b ∷ rest) is = other (a == 37) (b == 37) is
  where
    other : (t u : Bool) → t ≡ false → (if t && u then after_line rest else None) ≡ onto (b ∷ rest) None
    other true u e = absurd (cc)
    other false u e = refl
mark_then_rest (a ∷ b ∷ []) rest is = other ((a == 37) && (b == 37)) is
  where
    other : (t : Bool) → t ≡ false → (if t then after_line rest else None) ≡ onto rest (if t then after_line [] else None)
    other true e = absurd (cc)
    other false e = refl
mark_then_rest (a ∷ b ∷ c ∷ []) rest is = mark_when ((a == 37) && (b == 37)) (after_line (c ∷ rest)) (after_line (c ∷ [])) rest (λ marks. line_one c (c == 13) refl (last ((a == 37) && (b == 37)) (c == 13) is marks) rest)
  where
    last : (t u : Bool) → (t && u) ≡ false → t ≡ true → u ≡ false
    last true u e m = e
    last false u e m = absurd (cc)
mark_then_rest (a ∷ b ∷ c ∷ d ∷ more) rest is = mark_when ((a == 37) && (b == 37)) (after_line (c ∷ d ∷ (more ++ rest))) (after_line (c ∷ d ∷ more)) rest (λ marks. line_two c d more rest)

-- ---- the tail behind a byte
tail_rest : (b : ℕ) (xs : List ℕ) → is_tail (b ∷ xs) ≡ true → IsAhead (b == 10) xs
unfolding is_tail
tail_rest b [] is = record { front = λ e. refl; tail = refl }
tail_rest b (c ∷ xs) is = record {
  front = λ e. absurd (ends (b == 10) (is_tail (c ∷ xs)) e is);
  tail = (and_parts (not (b == 10)) (is_tail (c ∷ xs)) is).1;
}
  where
    ends : (t u : Bool) → t ≡ true → (not t && u) ≡ true → ⊥
    ends true u e f = absurd (cc)
    ends false u e f = absurd (cc)

-- ---- steps
-- a byte within a line
gives_in_line : (b : ℕ) (rest : List ℕ) → GivesOf false b (b ∷ rest) (Some rest)
unfolding sections_from
gives_in_line b rest = record { rest = rest; new_is = refl; text_is = refl; sections = refl }

-- a byte where a line begins that is no mark
gives_at_line : (b : ℕ) (rest : List ℕ) → after_mark (b ∷ rest) ≡ None → GivesOf true b (b ∷ rest) (Some rest)
unfolding sections_from
gives_at_line b rest none = record {
  rest = rest;
  new_is = refl;
  text_is = refl;
  sections = ap (λ (o : Option (List ℕ)). sections_or o (longer b (sections_from (b == 10) rest))) none;
}

-- a mark
pub ends_here : (text rest : List ℕ) → after_mark text ≡ Some rest → EndsOf true text (Some rest)
unfolding sections_from
ends_here [] rest is = absurd (cc)
ends_here (b ∷ text) rest is = record {
  rest = rest;
  new_is = refl;
  sections = ap (λ (o : Option (List ℕ)). sections_or o (longer b (sections_from (b == 10) text))) is;
}

-- ---- what is read ahead
pub ahead_none : (t : Bool) (xs : List ℕ) → xs ≡ [] → IsAhead t xs
unfolding is_tail
ahead_none t xs is = subst (IsAhead t) (sym is) (record { front = λ e. refl; tail = refl })

-- the first is taken
popped : (xs ys : List ℕ) (r n : ℕ) → n + 1 ≡ length xs → r ≡ slice_index_or xs 0 r → ys ≡ remove xs 0 → xs ≡ r ∷ ys
popped [] ys r n long is rest = absurd (omega arith)
popped (x ∷ xs) ys r n long is rest = ap (λ (h : ℕ). h ∷ xs) (sym is) ∙ ap (λ (l : List ℕ). r ∷ l) (sym rest)

pub popped_ahead : (xs ys : List ℕ) (r b n : ℕ) → is_tail xs ≡ true → n + 1 ≡ length xs → r ≡ slice_index_or xs 0 r → ys ≡ remove xs 0 → r ≡ b → IsAhead (b == 10) ys
popped_ahead xs ys r b n tail long is rest same =
    subst (λ (x : ℕ). IsAhead (x == 10) ys) same (tail_rest r ys (subst (λ (l : List ℕ). is_tail l ≡ true) (popped xs ys r n long is rest) tail))

pub gives_ahead : (b : ℕ) (xs ys : List ℕ) (left : Option (List ℕ)) → xs ≡ b ∷ ys → Gives false b (prepend_known xs left) (prepend_known ys left)
gives_ahead b xs ys None is = tt
gives_ahead b xs ys (Some rest) is =
    subst (λ (l : List ℕ). GivesOf false b (l ++ rest) (Some (ys ++ rest))) (sym is) (gives_in_line b (ys ++ rest))

pub gives_next : (b : ℕ) (xs : List ℕ) (old new : Option (List ℕ)) → xs ≡ [] → Consumes old new (b ∷ []) → Gives false b (prepend_known xs old) (prepend_known xs new)
gives_next b xs None new none c = tt
gives_next b xs (Some text) None none c = absurd c
gives_next b xs (Some text) (Some rest) none c =
    subst (λ (l : List ℕ). GivesOf false b (l ++ text) (Some (l ++ rest))) (sym none)
    (subst (λ (l : List ℕ). GivesOf false b l (Some rest)) (sym c) (gives_in_line b rest))

pub front_tail : (t : Bool) (xs : List ℕ) → is_front xs ≡ true → IsAhead t xs
front_tail t xs is = record { front = λ e. is; tail = (front_past xs is).tail }

pub pushed : (a b c : Option (List ℕ)) (xs ys : List ℕ) (x : ℕ) → Keeps a (prepend_known xs b) → Consumes b c (x ∷ []) → ys ≡ xs ++ x ∷ [] → Keeps a (prepend_known ys c)
pushed None b c xs ys x k s is = tt
pushed (Some t) None c xs ys x k s is = absurd k
pushed (Some t) (Some u) None xs ys x k s is = absurd s
pushed (Some t) (Some u) (Some v) xs ys x k s is =
    ap (λ (l : List ℕ). l ++ v) is ∙ append_assoc xs (x ∷ []) v ∙ ap (λ (l : List ℕ). xs ++ l) (sym s) ∙ k

pub pushed_past : (xs ys : List ℕ) (x : ℕ) → is_front xs ≡ true → ys ≡ xs ++ x ∷ [] → IsPast ys
pushed_past xs ys x is more = subst IsPast (sym more) (past_front xs x is)

-- ---- where a line begins
onto_nil : (o : Option (List ℕ)) → onto [] o ≡ o
onto_nil None = refl
onto_nil (Some l) = ap Some (append-nil l)

after_text : (xs u : List ℕ) (f : Bool) → is_front xs ≡ f → (f ≡ true → u ≡ []) → after_mark (xs ++ u) ≡ onto u (after_mark xs)
after_text xs u false is end = mark_then_rest xs u is
after_text xs u true is end =
    subst (λ (l : List ℕ). after_mark (xs ++ l) ≡ onto l (after_mark xs)) (sym (end refl)) (ap after_mark (append-nil xs) ∙ sym (onto_nil (after_mark xs)))

pub marked : (xs r : List ℕ) (a b : Option (List ℕ)) → Keeps a (prepend_known xs b) → IsPast xs → after_mark xs ≡ Some r → (is_front xs ≡ true → IsAtEnd b) → EndsAtMark true a b
marked xs r None b k past is end = tt
marked xs r (Some t) None k past is end = absurd k
marked xs r (Some t) (Some u) k past is end =
    let none : r ≡ [] = subst (λ (o : Option (List ℕ)). IfSome o (λ rest. rest ≡ [])) is past.nothing in
    let here : after_mark (xs ++ u) ≡ Some u = after_text xs u (is_front xs) refl end ∙ ap (onto u) is ∙ ap (λ (l : List ℕ). Some (l ++ u)) none in
    subst (λ (l : List ℕ). EndsOf true l (Some u)) k (ends_here (xs ++ u) u here)

pub unmarked : (xs ys : List ℕ) (c : ℕ) (a b : Option (List ℕ)) → Keeps a (prepend_known xs b) → xs ≡ c ∷ ys → after_mark xs ≡ None → (is_front xs ≡ true → IsAtEnd b) → Gives true c a (prepend_known ys b)
unmarked xs ys c None b k is none end = tt
unmarked xs ys c (Some t) None k is none end = absurd k
unmarked xs ys c (Some t) (Some u) k is none end =
    let here : after_mark (c ∷ (ys ++ u)) ≡ None =
    subst (λ (l : List ℕ). after_mark (l ++ u) ≡ None) is (after_text xs u (is_front xs) refl end ∙ ap (onto u) none) in
    subst (λ (l : List ℕ). GivesOf true c l (Some (ys ++ u))) k
    (subst (λ (l : List ℕ). GivesOf true c (l ++ u) (Some (ys ++ u))) (sym is) (gives_at_line c (ys ++ u) here))

pub ended : (xs : List ℕ) (a b : Option (List ℕ)) → Keeps a (prepend_known xs b) → xs ≡ [] → (is_front xs ≡ true → IsAtEnd b) → IsAtEnd a
ended xs a b k none end = prepend_known-end a b xs k none (end (subst (λ (l : List ℕ). is_front l ≡ true) (sym none) refl))

-- there is some byte ahead
pub some_ahead : (xs : List ℕ) (empty : Bool) → empty ≡ (length xs == 0) → empty ≡ false → xs ≡ [] → ⊥
some_ahead [] empty is none nil = absurd (cc)
some_ahead (x ∷ xs) empty is none nil = absurd (cc)

-- ---- a step, by what came of it
-- it gave a byte that was read ahead, or there is none more
pub stepped : (begins : Bool) (old new left : Option (List ℕ)) (r : SectionStep) → IsByteOrEnd r → ((b : ℕ) → r ≡ step.Byte b → Gives begins b old new) → (r ≡ step.End → IsAtEnd old) → DoesStep begins old new left r
stepped begins old new left (step.Byte b) kind byte end = byte b refl
stepped begins old new left step.Mark kind byte end = absurd kind
stepped begins old new left step.End kind byte end = end refl
stepped begins old new left step.Failed kind byte end = absurd kind

pub stepped_ahead : (begins : Bool) (r : SectionStep) (xs : List ℕ) → IsByteOrEnd r → ((b : ℕ) → r ≡ step.Byte b → IsAhead (b == 10) xs) → (r ≡ step.End → xs ≡ []) → LeavesAhead begins r xs
stepped_ahead begins (step.Byte b) xs kind byte end = byte b refl
stepped_ahead begins step.Mark xs kind byte end = absurd kind
stepped_ahead begins step.End xs kind byte end = end refl
stepped_ahead begins step.Failed xs kind byte end = absurd kind

-- ---- many steps
-- some bytes of a section were passed: its rest is what is left, where a line begins or not
pub record PassedOf (front : List ℕ) (begins : Bool) (text : List ℕ) (new : Option (List ℕ)) : Type 0 where
  pub rest : List ℕ
  pub new_is : new ≡ Some rest
  pub text_is : text ≡ front ++ rest
  pub sections : sections_from true text ≡ behind front (sections_from begins rest)

abbrev pub Passed : List ℕ → Bool → Option (List ℕ) → Option (List ℕ) → Type 0
Passed front begins old new = IfSome old (λ text. PassedOf front begins text new)

behind_nil : (o : Option (List ℕ × List ℕ)) → o ≡ behind [] o
behind_nil None = refl
behind_nil (Some s) = refl

pub passed_start : (begins : Bool) (xs : List ℕ) (left : Option (List ℕ)) → begins ≡ true → xs ≡ [] → Passed [] begins left (prepend_known xs left)
passed_start begins xs None line none = tt
passed_start begins xs (Some text) line none = record {
  rest = xs ++ text;
  new_is = refl;
  text_is = ap (λ (l : List ℕ). l ++ text) (sym none);
  sections =
      ap (λ (l : List ℕ). sections_from true (l ++ text)) (sym none)
      ∙ ap (λ (t : Bool). sections_from t (xs ++ text)) (sym line)
      ∙ behind_nil (sections_from begins (xs ++ text));
}

pub passed_more : (front more : List ℕ) (begins next : Bool) (c : ℕ) (x y z : Option (List ℕ)) → next ≡ (c == 10) → more ≡ front ++ c ∷ [] → Passed front begins x y → Gives begins c y z → Passed more next x z
passed_more front more begins next c None y z same is p g = tt
passed_more front more begins next c (Some text) y z same is p g =
    let one : GivesOf begins c p.rest z = subst (λ (o : Option (List ℕ)). Gives begins c o z) p.new_is g in
    record {
      rest = one.rest;
      new_is = one.new_is;
      text_is =
          p.text_is ∙ ap (λ (l : List ℕ). front ++ l) one.text_is
          ∙ sym (ap (λ (l : List ℕ). l ++ one.rest) is ∙ append_assoc front (c ∷ []) one.rest);
      sections =
          p.sections
          ∙ ap (behind front) (one.sections ∙ ap (λ (t : Bool). longer c (sections_from t one.rest)) (sym same))
          ∙ behind-longer front c (sections_from next one.rest)
          ∙ ap (λ (l : List ℕ). behind l (sections_from next one.rest)) (sym is);
    }

pub passed_end : (front : List ℕ) (begins : Bool) (x y z : Option (List ℕ)) → Passed front begins x y → EndsAtMark begins y z → ReadsSection front x z
passed_end front begins None y z p e = tt
passed_end front begins (Some text) y z p e =
    let last : EndsOf begins p.rest z = subst (λ (o : Option (List ℕ)). EndsAtMark begins o z) p.new_is e in
    record {
      rest = last.rest;
      new_is = last.new_is;
      sections = p.sections ∙ ap (behind front) last.sections ∙ ap (λ (l : List ℕ). Some (l, last.rest)) (append-nil front);
    }

-- ---- a section that does not end
-- the input is over
pub passed_over : (front : List ℕ) (begins : Bool) (x y : Option (List ℕ)) → Passed front begins x y → IsAtEnd y → HasNoMark x
unfolding sections_from
passed_over front begins None y p end = tt
passed_over front begins (Some text) y p end =
    let none : p.rest ≡ [] = subst IsAtEnd p.new_is end in
    p.sections ∙ ap (λ (l : List ℕ). behind front (sections_from begins l)) none

pub passed_whole : (front : List ℕ) (begins : Bool) (x y : Option (List ℕ)) → Passed front begins x y → IsAtEnd y → IfSome x (λ text. text ≡ front)
passed_whole front begins None y p end = tt
passed_whole front begins (Some text) y p end =
    let none : p.rest ≡ [] = subst IsAtEnd p.new_is end in
    p.text_is ∙ ap (λ (l : List ℕ). front ++ l) none ∙ append-nil front

-- what was passed is the front of what stands before the mark
before_passed : (front text rest : List ℕ) (o : Option (List ℕ × List ℕ)) → text ≡ front ++ rest → sections_of text ≡ behind front o → before_mark text ≡ front ++ first_or rest o
before_passed front text rest None is sections = ap (first_or text) sections ∙ is
before_passed front text rest (Some s) is sections = ap (first_or text) sections

first_longer : (c : ℕ) (rest : List ℕ) (o : Option (List ℕ × List ℕ)) → first_or (c ∷ rest) (longer c o) ≡ c ∷ first_or rest o
first_longer c rest None = refl
first_longer c rest (Some s) = refl

-- and the next byte
pub record FrontGoesOn (front : List ℕ) (c : ℕ) (text : List ℕ) : Type 0 where
  pub more : List ℕ
  pub before_is : before_mark text ≡ front ++ c ∷ more

pub passed_next : (front : List ℕ) (begins : Bool) (c : ℕ) (x y z : Option (List ℕ)) → Passed front begins x y → Gives begins c y z → IfSome x (FrontGoesOn front c)
passed_next front begins c None y z p g = tt
passed_next front begins c (Some text) y z p g =
    let one : GivesOf begins c p.rest z = subst (λ (o : Option (List ℕ)). Gives begins c o z) p.new_is g in
    let o = sections_from (c == 10) one.rest in
    record {
      more = first_or one.rest o;
      before_is =
          before_passed front text (c ∷ one.rest) (longer c o) (p.text_is ∙ ap (λ (l : List ℕ). front ++ l) one.text_is) (p.sections ∙ ap (behind front) one.sections)
          ∙ ap (λ (l : List ℕ). front ++ l) (first_longer c one.rest o);
    }

-- a section that was read is what stands before the mark
pub section_before : (front : List ℕ) (x z : Option (List ℕ)) → ReadsSection front x z → IfSome x (λ text. before_mark text ≡ front)
section_before front None z s = tt
section_before front (Some text) z s = ap (first_or text) s.sections
