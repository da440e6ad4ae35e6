-- `csv` writes the lines of a report.
use Rattle.std.proofs.Common.{◌≡◌, ◌≤◌, ◌∙◌, ℕ, List, [], ◌∷◌, ◌++◌, length, Bool, true, false, refl, arith, ap, append_assoc, inl, inr}
use Rattle.std.specs.Prelude.{◌==◌, ◌||◌}
use Rattle.std.proofs.lemmas.Bool.{cases_Bool, eqb-true}
use Rattle.csv.specs.declared.writer.WriterBuilder.{WriterBuilder}
use Rattle.csv.specs.Writing as csv
use Rattle.csv.specs.Writing.{default_writer, escaped, fields_text}
use Rattle.ball_model.specs.Report as row

abbrev pub report_writer : WriterBuilder
report_writer = csv.with_flexible default_writer true

escapes : (f : List ℕ) → escaped report_writer f ≡ row.inner_text f
unfolding csv.escaped row.inner_text
escapes [] = refl
escapes (b ∷ f) = elim (cases_Bool (b == 34)) [
  | inl e ↦ rw (e, escapes f, eqb-true b 34 e) refl
  | inr e ↦ rw (e, escapes f) refl
]

-- the same bytes call for quotes
or-false : (a b c d r : Bool) → ((a || b || (c || d) || false || false) || r) ≡ ((a || b || c || d) || r)
or-false true b c d r = refl
or-false false true c d r = refl
or-false false false true d r = refl
or-false false false false true r = refl
or-false false false false false r = refl

needs : (f : List ℕ) → csv.needs_quotes report_writer f ≡ row.is_quoted f
needs [] = refl
needs (b ∷ f) = rw (needs f) (or-false (b == 44) (b == 34) (b == 13) (b == 10) (row.is_quoted f))

field-text : (f : List ℕ) → csv.field_text report_writer f ≡ row.field_text f
field-text f = rw (needs f, escapes f) refl

more-text : (fs : List (List ℕ)) → fields_text report_writer fs ++ (10 ∷ []) ≡ row.more_text fs
unfolding fields_text
more-text [] = refl
more-text (f ∷ fs) = ap (λ (t : List ℕ). 44 ∷ t)
    (append_assoc (csv.field_text report_writer f) (fields_text report_writer fs) (10 ∷ []) ∙ rw (field-text f, more-text fs) refl)

-- a line of at least two fields
row-line : (f g : List ℕ) (fs : List (List ℕ)) → csv.row_text report_writer (f ∷ g ∷ fs) ≡ row.line_text (f ∷ g ∷ fs)
unfolding csv.is_blank
row-line f g fs =
    append_assoc (csv.field_text report_writer f) (fields_text report_writer (g ∷ fs)) (10 ∷ [])
    ∙ rw (field-text f, more-text (g ∷ fs)) refl

-- a line of two fields or more, in all
pub row-of : (fields : List (List ℕ)) → 2 ≤ length fields → csv.row_text report_writer fields ≡ row.line_text fields
row-of [] two = absurd (omega arith)
row-of (f ∷ []) two = absurd (omega arith)
row-of (f ∷ g ∷ fields) two = row-line f g fields
