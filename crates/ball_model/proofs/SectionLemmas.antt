-- The first line of exactly %% in an input.
use Rattle.std.proofs.Common.{◌≡◌, ℕ, suc, ◌≤◌, Bool, true, false, ◌==◌, ◌&&◌, if◌then◌else◌, List, [], ◌∷◌, ◌++◌, length, refl, arith, ap, subst, inl, inr, eq-eqb}
use Rattle.std.specs.Prelude.{◌⊎◌, Option, None, Some}
use Rattle.std.proofs.lemmas.Bool.{cases_Bool, cases_eq, eqb-true, ne_eqb, and_parts}
use Rattle.ball_model.specs.Sections.{after_line, after_mark, longer, sections_or, sections_from, sections_of}
use Rattle.ball_model.specs.InputLaws.{LineEnds, HasMark}

-- ---- a line's end
line_ends : (rest after : List ℕ) → after_line rest ≡ Some after → LineEnds rest after
line_ends [] after e = inr (inr (refl, (let h : Some [] ≡ Some after = e in cc)))
line_ends (a ∷ []) after e = elim (cases_eq a 10) [
  | inl lf ↦ let h : Some [] ≡ Some after = rw (eq-eqb a 10 lf) at e in inl cc
  | inr other ↦ absurd (let h : None ≡ Some after = rw (ne_eqb a 10 other) at e in cc)
]
line_ends (a ∷ b ∷ more) after e = elim (cases_eq a 10) [
  | inl lf ↦ let h : Some (b ∷ more) ≡ Some after = rw (eq-eqb a 10 lf) at e in inl cc
  | inr other ↦
      let f = rw (ne_eqb a 10 other) at e in
      elim (cases_Bool ((a == 13) && (b == 10))) [
        | inl both ↦
            let parts = and_parts (a == 13) (b == 10) both in
            let first : a ≡ 13 = eqb-true a 13 parts.0 in
            let second : b ≡ 10 = eqb-true b 10 parts.1 in
            let h : Some more ≡ Some after = rw both at f in
            inr (inl cc)
        | inr neither ↦ absurd (let h : None ≡ Some after = rw neither at f in cc)
      ]
]

lf_after : (after : List ℕ) → after_line (10 ∷ after) ≡ Some after
lf_after [] = refl
lf_after (b ∷ more) = refl

after_ends : (rest after : List ℕ) → LineEnds rest after → after_line rest ≡ Some after
after_ends rest after ends = elim ends [
  | inl lf ↦ rw lf (lf_after after)
  | inr others ↦ elim others [
    | inl crlf ↦ rw crlf refl
    | inr end ↦ rw (end.0, end.1) refl
  ]
]

-- ---- a mark at the front
mark_found : (input after : List ℕ) → after_mark input ≡ Some after → (rest : List ℕ) × (input ≡ 37 ∷ 37 ∷ rest) × LineEnds rest after
mark_found [] after e = absurd (let h : None ≡ Some after = e in cc)
mark_found (a ∷ []) after e = absurd (let h : None ≡ Some after = e in cc)
mark_found (a ∷ b ∷ rest) after e = elim (cases_Bool ((a == 37) && (b == 37))) [
  | inl both ↦
      let parts = and_parts (a == 37) (b == 37) both in
      let first : a ≡ 37 = eqb-true a 37 parts.0 in
      let second : b ≡ 37 = eqb-true b 37 parts.1 in
      let same : a ∷ b ∷ rest ≡ 37 ∷ 37 ∷ rest = rw (first, second) refl in
      let h : after_line rest ≡ Some after = rw both at e in
      (rest, same, line_ends rest after h)
  | inr neither ↦ absurd (let h : None ≡ Some after = rw neither at e in cc)
]

-- ---- a mark, where a line begins at the front or not
record MarkAt (begins : Bool) (input before after : List ℕ) : Type 0 where
  starts : ((before ≡ []) × (begins ≡ true)) ⊎ ((start : List ℕ) × (before ≡ start ++ 10 ∷ []))
  rest : List ℕ
  whole : input ≡ before ++ 37 ∷ 37 ∷ rest
  ends : LineEnds rest after

-- one byte more in front
one_more : (begins : Bool) (c : ℕ) (input before after : List ℕ) → MarkAt (c == 10) input before after → MarkAt begins (c ∷ input) (c ∷ before) after
one_more begins c input before after m = record {
  starts = inr (begun m.starts);
  rest = m.rest;
  whole = ap (λ (l : List ℕ). c ∷ l) m.whole;
  ends = m.ends;
}
  where
    begun : ((before ≡ []) × ((c == 10) ≡ true)) ⊎ ((start : List ℕ) × (before ≡ start ++ 10 ∷ [])) → (start : List ℕ) × (c ∷ before ≡ start ++ 10 ∷ [])
    begun (inl first) = let lf : c ≡ 10 = eqb-true c 10 first.1 in ([], rw (lf, first.0) refl)
    begun (inr later) = (c ∷ later.0, ap (λ (l : List ℕ). c ∷ l) later.1)

-- and one less
one_less : (b : ℕ) (before start : List ℕ) → b ∷ before ≡ start ++ 10 ∷ [] → ((before ≡ []) × ((b == 10) ≡ true)) ⊎ ((line : List ℕ) × (before ≡ line ++ 10 ∷ []))
one_less b before [] e =
    let h : b ∷ before ≡ 10 ∷ [] = e in
    let lf : b ≡ 10 = cc in
    inl ((cc), eq-eqb b 10 lf)
one_less b before (l ∷ line) e =
    let h : b ∷ before ≡ l ∷ (line ++ 10 ∷ []) = e in
    inr (line, (cc))

starts_less : (begins : Bool) (b : ℕ) (before : List ℕ) → ((b ∷ before ≡ []) × (begins ≡ true)) ⊎ ((start : List ℕ) × (b ∷ before ≡ start ++ 10 ∷ []))
    → ((before ≡ []) × ((b == 10) ≡ true)) ⊎ ((line : List ℕ) × (before ≡ line ++ 10 ∷ []))
starts_less begins b before (inl first) = absurd (let h : b ∷ before ≡ [] = first.0 in cc)
starts_less begins b before (inr later) = one_less b before later.0 later.1

-- ---- what is found is such a mark
later_mark : (begins : Bool) (c : ℕ) (rest : List ℕ) (o : Option (List ℕ × List ℕ)) (s : List ℕ × List ℕ) → ((t : List ℕ × List ℕ) → o ≡ Some t → MarkAt (c == 10) rest t.0 t.1)
    → longer c o ≡ Some s → MarkAt begins (c ∷ rest) s.0 s.1
later_mark begins c rest None s marks e = absurd (let h : None ≡ Some s = e in cc)
later_mark begins c rest (Some t) s marks e =
    let p : List ℕ × List ℕ = (c ∷ t.0, t.1) in
    let same : p ≡ s = (let h : Some p ≡ Some s = e in cc) in
    subst (λ (u : List ℕ × List ℕ). MarkAt begins (c ∷ rest) u.0 u.1) same (one_more begins c rest t.0 t.1 (marks t refl))

any_mark : (begins : Bool) (c : ℕ) (rest : List ℕ) (s : List ℕ × List ℕ) (o : Option (List ℕ)) (later : Option (List ℕ × List ℕ))
    → ((r : List ℕ) → o ≡ Some r → (begins ≡ true) × (after_mark (c ∷ rest) ≡ Some r))
    → ((t : List ℕ × List ℕ) → later ≡ Some t → MarkAt (c == 10) rest t.0 t.1) → sections_or o (longer c later) ≡ Some s → MarkAt begins (c ∷ rest) s.0 s.1
any_mark begins c rest s None later here marks e = later_mark begins c rest later s marks e
any_mark begins c rest s (Some r) later here marks e =
    let p : List ℕ × List ℕ = ([], r) in
    let same : p ≡ s = (let h : Some p ≡ Some s = e in cc) in
    let front = here r refl in
    let found = mark_found (c ∷ rest) r front.1 in
    subst (λ (u : List ℕ × List ℕ). MarkAt begins (c ∷ rest) u.0 u.1) same (record { starts = inl (refl, front.0); rest = found.0; whole = found.1; ends = found.2 })

begins_here : (b : Bool) (o : Option (List ℕ)) (r : List ℕ) → (if b then o else None) ≡ Some r → (b ≡ true) × (o ≡ Some r)
begins_here true o r e = (refl, e)
begins_here false o r e = absurd (let h : None ≡ Some r = e in cc)

mark_at : (begins : Bool) (input : List ℕ) (s : List ℕ × List ℕ) → sections_from begins input ≡ Some s → MarkAt begins input s.0 s.1
unfolding sections_from
mark_at begins [] s e = absurd (let h : None ≡ Some s = e in cc)
mark_at begins (c ∷ rest) s e =
    any_mark begins c rest s (if begins then after_mark (c ∷ rest) else None) (sections_from (c == 10) rest)
    (λ r h. begins_here begins (after_mark (c ∷ rest)) r h) (λ t h. mark_at (c == 10) rest t h) e

-- ---- where a mark is, one is found no later
front_first : (rest after : List ℕ) (begins : Bool) (later : Option (List ℕ × List ℕ)) → begins ≡ true → LineEnds rest after
    → (s : List ℕ × List ℕ) × (sections_or (if begins then after_mark (37 ∷ 37 ∷ rest) else None) later ≡ Some s) × (length s.0 ≤ 0)
front_first rest after begins later e ends = rw (e, after_ends rest after ends) (([], after), refl, omega arith)

no_later : (o : Option (List ℕ)) (c n : ℕ) (p : Option (List ℕ × List ℕ)) → (s : List ℕ × List ℕ) × (p ≡ Some s) × (length s.0 ≤ n)
    → (s : List ℕ × List ℕ) × (sections_or o (longer c p) ≡ Some s) × (length s.0 ≤ suc n)
no_later None c n p found = ((c ∷ found.0.0, found.0.1), rw found.1 refl, omega (arith, found.2))
no_later (Some r) c n p found = (([], r), refl, omega arith)

found_by : (begins : Bool) (input before after : List ℕ) → MarkAt begins input before after → (s : List ℕ × List ℕ) × (sections_from begins input ≡ Some s) × (length s.0 ≤ length before)
unfolding sections_from
found_by begins input [] after m = rw m.whole (elim m.starts [
  | inl first ↦ front_first m.rest after begins (longer 37 (sections_from (37 == 10) (37 ∷ m.rest))) first.1 m.ends
  | inr later ↦ absurd (empty later.0 later.1)
])
  where
    empty : (start : List ℕ) → [] ≡ start ++ 10 ∷ [] → ⊥
    empty [] e = let h : [] ≡ 10 ∷ [] = e in cc
    empty (l ∷ line) e = let h : [] ≡ l ∷ (line ++ 10 ∷ []) = e in cc
found_by begins input (b ∷ before) after m =
    let tail : List ℕ = before ++ 37 ∷ 37 ∷ m.rest in
    let mark : MarkAt (b == 10) tail before after = record { starts = starts_less begins b before m.starts; rest = m.rest; whole = refl; ends = m.ends } in
    rw m.whole (no_later (if begins then after_mark (b ∷ tail) else None) b (length before) (sections_from (b == 10) tail) (found_by (b == 10) tail before after mark))

-- ---- the laws
pub mark_divides : (input : List ℕ) (s : List ℕ × List ℕ) → sections_of input ≡ Some s → HasMark input s.0 s.1
mark_divides input s e =
    let m = mark_at true input s e in
    record {
      begins = elim m.starts [
        | inl first ↦ inl first.0
        | inr later ↦ inr later
      ];
      rest = m.rest;
      whole = m.whole;
      ends = m.ends;
    }

pub first_divides : (input before after : List ℕ) → HasMark input before after → (s : List ℕ × List ℕ) × (sections_of input ≡ Some s) × (length s.0 ≤ length before)
first_divides input before after m = found_by true input before after (record {
  starts = elim m.begins [
    | inl first ↦ inl (first, refl)
    | inr later ↦ inr later
  ];
  rest = m.rest;
  whole = m.whole;
  ends = m.ends;
})
