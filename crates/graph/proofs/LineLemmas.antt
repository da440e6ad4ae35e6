-- What `csv` reads of an edge list's bytes is its records.
use Rattle.std.proofs.Common.{◌≡◌, ◌∙◌, ◌+◌, ◌≤◌, ℕ, List, [], ◌∷◌, ◌++◌, Bool, true, false, length, arith, refl, sym, ap, append_assoc, inl, inr, map, Some, None, Option}
use Rattle.std.specs.Prelude.{◌==◌, if◌then◌else◌}
use Rattle.std.proofs.lemmas.List.{append-nil, length-drop, length-map}
use Rattle.std.proofs.lemmas.List.Sums.{length-filter, count_by-le-length}
use Rattle.std.proofs.lemmas.Bool.{cases_Bool, eqb-true, false≢true}
use Rattle.std.specs.List.{filter}
use Rattle.csv.specs.Machine.{Read, ends_at_end, field_after, fields_after, is_end, next_record, step}
use Rattle.csv.specs.Reading.{Reached, records_next}
use Rattle.csv.specs.declared.parser.Config.{Config}
use Rattle.csv.specs.declared.parser.State.{State}
use Rattle.csv.specs.declared.parser.State.TheVariants as st
use Rattle.graph.specs.Records.{config, rows, is_blank, is_row, EndsAtBlank}
use Rattle.ball_model.specs.Input.{HasLfs, StartsWithLf, fields, has_mark, is_record, lines, records, without_mark}

rows-end : (b : Bool) (x : List (List ℕ)) (more : State → List ℕ → List (List (List ℕ))) → more st.StartRecord [] ≡ []
    → (if b then x ∷ [] else []) ≡ records_next more (if b then Some (x, st.StartRecord, []) else None)
rows-end true x more e = rw e refl
rows-end false x more e = refl

rows-byte : (b : Bool) (x : List (List ℕ)) (s : State) (rest : List ℕ) (more : State → List ℕ → List (List (List ℕ))) (a : List (List (List ℕ))) (n : Option Read)
    → a ≡ records_next more n
    → (if b then x ∷ more s rest else a) ≡ records_next more (if b then Some (x, s, rest) else n)
rows-byte true x s rest more a n e = refl
rows-byte false x s rest more a n e = e

-- the first of them is the next record
pub rows-next : (cfg : Config) (s : State) (fs : List (List ℕ)) (f xs : List ℕ)
    → rows cfg s fs f xs ≡ records_next (λ t ys. rows cfg t [] [] ys) (next_record cfg s fs f xs)
unfolding rows next_record
rows-next cfg s fs f [] = rows-end (ends_at_end s) (fs ++ (f ∷ [])) (λ t ys. rows cfg t [] [] ys) refl
rows-next cfg s fs f (c ∷ rest) =
    rows-byte (is_end (step cfg s c).1) (fields_after (step cfg s c).1 fs f) (step cfg s c).0 rest (λ t ys. rows cfg t [] [] ys) _ _
    (rows-next cfg (step cfg s c).0 (fields_after (step cfg s c).1 fs f) (field_after (step cfg s c).1 c f) rest)

-- the records that were read, and then the others
pub rows-reached : (cfg : Config) (s : State) (xs : List ℕ) (done : List (List (List ℕ))) (t : State) (ys : List ℕ)
    → Reached cfg s xs done t ys → rows cfg s [] [] xs ≡ done ++ rows cfg t [] [] ys
unfolding Reached
rows-reached cfg s xs [] t ys h = rw (h.0, h.1) refl
rows-reached cfg s xs (r ∷ rs) t ys h =
    rows-next cfg s [] [] xs ∙ rw (h.1, h.2) (ap (λ (l : List (List (List ℕ))). h.0.0 ∷ l) (rows-reached cfg h.0.1 h.0.2 rs t ys h.3))

-- a text has a first line, and a line a first field
pub lines-some : (xs : List ℕ) → (h : List ℕ) × (t : List (List ℕ)) × (lines xs ≡ h ∷ t)
unfolding lines
lines-some [] = ([], [], refl)
lines-some (c ∷ rest) = elim (cases_Bool (c == 10)) [
  | inl e ↦ ([], lines rest, rw e refl)
  | inr e ↦
      let (h, t, at) = lines-some rest in
      elim (cases_Bool (c == 13)) [
        | inl r ↦ (h, t, rw (e, r) at)
        | inr r ↦ (c ∷ h, t, rw (e, r, at) refl)
      ]
]

fields-some : (d : ℕ) (xs : List ℕ) → (p : List ℕ) × (ps : List (List ℕ)) × (fields d xs ≡ p ∷ ps)
unfolding fields
fields-some d [] = ([], [], refl)
fields-some d (c ∷ rest) = elim (cases_Bool (c == d)) [
  | inl e ↦ ([], fields d rest, rw e refl)
  | inr e ↦
      let (p, ps, at) = fields-some d rest in
      (c ∷ p, ps, rw (e, at) refl)
]

-- the bytes of a field at hand, before the first of some fields
abbrev glued : List ℕ → List (List ℕ) → List (List ℕ)
glued f [] = f ∷ []
glued f (p ∷ ps) = (f ++ p) ∷ ps

abbrev head : List (List ℕ) → List ℕ
head [] = []
head (l ∷ ls) = l

abbrev tail : List (List ℕ) → List (List ℕ)
tail [] = []
tail (l ∷ ls) = ls

-- a comment at the end of a text, with no end of its own, is read as a record of one empty field
abbrev open_comment : List (List ℕ) → List (List (List ℕ))
open_comment [] = ([] ∷ []) ∷ []
open_comment (l ∷ ls) = []

-- what is read of a line, with these after it
abbrev line_rows : ℕ → List ℕ → List (List ℕ) → List (List (List ℕ))
line_rows d [] ls = []
line_rows d (c ∷ l) ls = if 35 == c then open_comment ls else fields d (c ∷ l) ∷ []

-- what is read of lines
abbrev all_rows : ℕ → List (List ℕ) → List (List (List ℕ))
all_rows d [] = []
all_rows d (l ∷ ls) = line_rows d l ls ++ all_rows d ls

-- what the machine gives of a text, from each state that it can be in
abbrev IsRead : ℕ → List ℕ → Type 0
IsRead d xs =
    (rows (config d) st.StartRecord [] [] xs ≡ all_rows d (lines xs))
    × ((fs : List (List ℕ)) (f : List ℕ) → rows (config d) st.InField fs f xs ≡ (fs ++ glued f (fields d (head (lines xs)))) ∷ all_rows d (tail (lines xs)))
    × ((fs : List (List ℕ)) (f : List ℕ) → rows (config d) st.StartField fs f xs ≡ (fs ++ glued f (fields d (head (lines xs)))) ∷ all_rows d (tail (lines xs)))
    × (rows (config d) st.InComment [] [] xs ≡ open_comment (tail (lines xs)) ++ all_rows d (tail (lines xs)))

-- a delimiter is no mark of a line
abbrev pub IsDelimiter : ℕ → Type 0
IsDelimiter d = ((10 == d) ≡ false) × ((13 == d) ≡ false) × ((35 == d) ≡ false)

read-end : (d : ℕ) → IsRead d []
unfolding rows lines fields
read-end d = (refl, (λ fs f. rw (append-nil f) refl), (λ fs f. rw (append-nil f) refl), refl)

read-lf : (d : ℕ) → IsDelimiter d → (rest : List ℕ) → IsRead d rest → IsRead d (10 ∷ rest)
unfolding rows lines fields
read-lf d del rest ih =
    let n = del.0 in
    let (h, t, at) = lines-some rest in
    (ih.0, (λ fs f. rw (n, append-nil f, ih.0) refl), (λ fs f. rw (n, append-nil f, ih.0) refl), ih.0 ∙ rw at refl)

after-cr : (d : ℕ) (rest : List ℕ) → StartsWithLf rest → rows (config d) st.AfterCr [] [] rest ≡ rows (config d) st.StartRecord [] [] rest
unfolding rows
after-cr d [] h = absurd h
after-cr d (c ∷ rest) h = rw h refl

lines-lf : (rest : List ℕ) → StartsWithLf rest → (t : List (List ℕ)) × (lines rest ≡ [] ∷ t)
unfolding lines
lines-lf [] h = absurd h
lines-lf (c ∷ rest) h = (lines rest, rw h refl)

read-cr : (d : ℕ) → IsDelimiter d → (rest : List ℕ) → StartsWithLf rest → IsRead d rest → IsRead d (13 ∷ rest)
unfolding rows lines fields
read-cr d del rest lf ih =
    let n = del.1 in
    let (t, at) = lines-lf rest lf in
    let s : rows (config d) st.StartRecord [] [] rest ≡ all_rows d t = ih.0 ∙ rw at refl in
    let more : rows (config d) st.AfterCr [] [] rest ≡ all_rows d t = after-cr d rest lf ∙ s in
    (ih.0, (λ fs f. rw (n, at, append-nil f, more) refl), (λ fs f. rw (n, at, append-nil f, more) refl), ih.3)

-- two ends of a field
glued-joined : (f : List ℕ) (c : ℕ) (p : List ℕ) (ps : List (List ℕ)) → glued (f ++ (c ∷ [])) (p ∷ ps) ≡ glued f ((c ∷ p) ∷ ps)
glued-joined f c p ps = rw (append_assoc f (c ∷ []) p) refl

read-other : (d c : ℕ) → (rest : List ℕ) → (c == 10) ≡ false → (c == 13) ≡ false → IsRead d rest → IsRead d (c ∷ rest)
unfolding rows lines fields
read-other d c rest lf cr ih =
    let (h, t, at) = lines-some rest in
    let (p, ps, first) = fields-some d h in
    let more = rw at at ih in
    let in_field : (fs : List (List ℕ)) (f : List ℕ) → rows (config d) st.InField fs f rest ≡ (fs ++ glued f (p ∷ ps)) ∷ all_rows d t = λ fs f. more.1 fs f ∙ rw first refl in
    let start_field : (fs : List (List ℕ)) (f : List ℕ) → rows (config d) st.StartField fs f rest ≡ (fs ++ glued f (p ∷ ps)) ∷ all_rows d t = λ fs f. more.2 fs f ∙ rw first refl in
    elim (cases_Bool (c == d)) [
      | inl e ↦ (
        elim (cases_Bool (35 == c)) [
          | inl k ↦ rw (lf, cr, k, at, k) more.3
          | inr k ↦ rw (lf, cr, k, e, at, k, e, first) (start_field ([] ∷ []) [])
        ],
        (λ fs f. rw (e, at, lf, cr, e, first) (start_field (fs ++ (f ∷ [])) [] ∙ rw (append_assoc fs (f ∷ []) (p ∷ ps), append-nil f) refl)),
        (λ fs f. rw (e, at, lf, cr, e, first) (start_field (fs ++ (f ∷ [])) [] ∙ rw (append_assoc fs (f ∷ []) (p ∷ ps), append-nil f) refl)),
        rw (lf, cr, at) more.3,
      )
      | inr e ↦ (
        elim (cases_Bool (35 == c)) [
          | inl k ↦ rw (lf, cr, k, at, k) more.3
          | inr k ↦ rw (lf, cr, k, e, at, k, e, first) (in_field [] (c ∷ []))
        ],
        (λ fs f. rw (lf, cr, e, at, e, first) (in_field fs (f ++ (c ∷ [])) ∙ rw (glued-joined f c p ps) refl)),
        (λ fs f. rw (lf, cr, e, at, e, first) (in_field fs (f ++ (c ∷ [])) ∙ rw (glued-joined f c p ps) refl)),
        rw (lf, cr, at) more.3,
      )
    ]

read-text : (d : ℕ) → IsDelimiter d → (xs : List ℕ) → HasLfs xs → IsRead d xs
read-text d del [] plain = read-end d
read-text d del (c ∷ rest) plain =
    let ih = read-text d del rest plain.1 in
    elim (cases_Bool (c == 10)) [
      | inl e ↦ rw (eqb-true c 10 e) (read-lf d del rest ih)
      | inr lf ↦ elim (cases_Bool (c == 13)) [
        | inl e ↦
            let thirteen = eqb-true c 13 e in
            rw thirteen (read-cr d del rest (plain.0 thirteen) ih)
        | inr cr ↦ read-other d c rest lf cr ih
      ]
    ]

fields-blank : (d c : ℕ) (l : List ℕ) → is_blank (fields d (c ∷ l)) ≡ false
unfolding fields
fields-blank d c l =
    let (p, ps, at) = fields-some d l in
    elim (cases_Bool (c == d)) [ inl e ↦ rw (e, at) refl | inr e ↦ rw (e, at) refl ]

all-ends : (d : ℕ) (ls : List (List ℕ)) → EndsAtBlank (all_rows d ls)
all-ends d [] = tt
all-ends d ([] ∷ ls) = all-ends d ls
all-ends d ((c ∷ l) ∷ []) = elim (cases_Bool (35 == c)) [
  | inl e ↦ rw e ((λ b. refl), tt)
  | inr e ↦ rw e ((λ b. refl), tt)
]
all-ends d ((c ∷ l) ∷ (m ∷ ls)) = elim (cases_Bool (35 == c)) [
  | inl e ↦ rw e (all-ends d (m ∷ ls))
  | inr e ↦ rw e ((λ b. absurd (false≢true (sym (fields-blank d c l) ∙ b))), all-ends d (m ∷ ls))
]

all-records : (d : ℕ) (ls : List (List ℕ)) → filter is_row (all_rows d ls) ≡ map (fields d) (filter is_record ls)
all-records d [] = refl
all-records d ([] ∷ ls) = all-records d ls
all-records d ((c ∷ l) ∷ []) = elim (cases_Bool (35 == c)) [
  | inl e ↦ rw e refl
  | inr e ↦ rw (e, fields-blank d c l) refl
]
all-records d ((c ∷ l) ∷ (m ∷ ls)) = elim (cases_Bool (35 == c)) [
  | inl e ↦ rw e (all-records d (m ∷ ls))
  | inr e ↦ rw (e, fields-blank d c l) (ap (λ (rs : List (List (List ℕ))). fields d (c ∷ l) ∷ rs) (all-records d (m ∷ ls)))
]

-- the records of some lines, with no mark before them
abbrev pub line_records : ℕ → List ℕ → List (List (List ℕ))
line_records d xs = map (fields d) (filter is_record (lines xs))

-- what the machine gives of plain lines: their records, and then at most a blank row
pub rows-records : (d : ℕ) → IsDelimiter d → (xs : List ℕ) → HasLfs xs → filter is_row (rows (config d) st.StartRecord [] [] xs) ≡ line_records d xs
rows-records d del xs plain = rw (read-text d del xs plain).0 (all-records d (lines xs))

pub rows-ends : (d : ℕ) → IsDelimiter d → (xs : List ℕ) → HasLfs xs → EndsAtBlank (rows (config d) st.StartRecord [] [] xs)
rows-ends d del xs plain = rw (read-text d del xs plain).0 (all-ends d (lines xs))

-- there is a line more than bytes at most
lines-few : (xs : List ℕ) → length (lines xs) ≤ length xs + 1
unfolding lines
lines-few [] = omega arith
lines-few (c ∷ rest) =
    let few = lines-few rest in
    elim (cases_Bool (c == 10)) [
      | inl e ↦ rw e (omega (arith, few))
      | inr e ↦ elim (cases_Bool (c == 13)) [
        | inl r ↦ rw (e, r) (omega (arith, few))
        | inr r ↦
            let (h, t, at) = lines-some rest in
            rw (e, r, at) (omega (arith, few, ap (length {A = List ℕ}) at))
      ]
    ]

unmarked-few : (text : List ℕ) → length (without_mark text) ≤ length text
unmarked-few text = elim (cases_Bool (has_mark text)) [
  | inl e ↦ rw e (omega (arith, length-drop 3 text))
  | inr e ↦ rw e (omega arith)
]

-- and not more records than lines
pub records-few : (d : ℕ) (text : List ℕ) → length (records d text) ≤ length text + 1
records-few d text =
    let xs = without_mark text in
    let all = filter is_record (lines xs) in
    let same : length (map (fields d) all) ≡ length all = simp length-map in
    omega (arith, same, length-filter is_record (lines xs), count_by-le-length is_record (lines xs), lines-few xs, unmarked-few text)
