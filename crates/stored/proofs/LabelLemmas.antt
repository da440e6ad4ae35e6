-- Labels, and the lines that they are.
use Rattle.std.proofs.Common.{◌≡◌, ℕ, ◌<◌, Bool, true, false, List, [], ◌∷◌, ◌++◌, length, Result, Ok, Err, refl, ap, sym, ◌∙◌, subst, arith, cond, append_assoc, append-nil, eq-eqb}
use Rattle.std.specs.Prelude.{◌≢◌, ◌==◌, Option, None, Some, option_map}
use Rattle.std.specs.List.{AllByRecursion}
use Rattle.std.proofs.lemmas.Bool.{eqb-true, ne_eqb}
use Rattle.sha2.specs.declared.Sha256.{Sha256}
use Rattle.ball_model.specs.Input.{is_filled}
use Rattle.graph.specs.Lines.{if_count_is, labels_in, lines_after, GivesLines}
use Rattle.graph.specs.declared.labels.LinesError.{LinesError}
use Rattle.graph.specs.declared.labels.LinesError.TheVariants as lines_fault
use Rattle.stored.specs.declared.error.StoredError.{StoredError}
use Rattle.stored.specs.declared.error.StoredError.TheVariants as errors
use Rattle.stored.specs.declared.header.StoredHeader.{StoredHeader}
use Rattle.stored.specs.Reading.{labels_reading, labels_told, lines_refusal, needs, Fails, Tells}
use Rattle.stored.specs.Stored.{IsLabel, label_lines}
use Rattle.stored.proofs.ReadBlockLemmas.{memory_fails}
use Rattle.stored.proofs.ReadLemmas.{checked_fails}

-- ---- what is read as lines
-- a line that has begun and the rest of the text are these labels
record AreLabels (line text : List ℕ) (labels : List (List ℕ)) : Type 0 where
  spelled : line ++ text ≡ label_lines labels
  each : AllByRecursion (λ b. b ≢ 10) line → AllByRecursion IsLabel labels

all_more : (line : List ℕ) (c : ℕ) → c ≢ 10 → AllByRecursion (λ b. b ≢ 10) line → AllByRecursion (λ b. b ≢ 10) (line ++ c ∷ [])
all_more [] c other all = (other, tt)
all_more (b ∷ line) c other all = (all.0, all_more line c other all.1)

is_long : (line : List ℕ) → is_filled line ≡ true → 0 < length line
is_long [] filled = absurd (cc)
is_long (b ∷ line) filled = omega arith

-- an LF ends a line that is not empty
one_line : (line text : List ℕ) (c : ℕ) (labels : List (List ℕ)) (filled : Bool) (rest : Option (List (List ℕ))) → c ≡ 10 → is_filled line ≡ filled → ((others : List (List ℕ)) → rest ≡ Some others → AreLabels [] text others)
    → cond filled (option_map (λ lines. line ∷ lines) rest) None ≡ Some labels → AreLabels line (c ∷ text) labels
one_line line text c labels true None lf some next is = absurd (cc)
one_line line text c labels true (Some others) lf some next is =
    let q = next others refl in
    let first : line ∷ others ≡ labels = cc in
    record {
      spelled = rw lf (sym (append_assoc line (10 ∷ []) text) ∙ ap (λ (l : List ℕ). (line ++ 10 ∷ []) ++ l) q.spelled ∙ ap label_lines first);
      each = λ all. subst (λ (l : List (List ℕ)). AllByRecursion IsLabel l) first (record { filled = is_long line some; line = all }, q.each tt);
    }
one_line line text c labels false rest lf some next is = absurd (cc)

one_byte : (line text : List ℕ) (c : ℕ) (labels : List (List ℕ)) (ends : Bool) → (c == 10) ≡ ends → ((others : List (List ℕ)) → lines_after [] text ≡ Some others → AreLabels [] text others)
    → (lines_after (line ++ c ∷ []) text ≡ Some labels → AreLabels (line ++ c ∷ []) text labels)
    → cond ends (cond (is_filled line) (option_map (λ lines. line ∷ lines) (lines_after [] text)) None) (lines_after (line ++ c ∷ []) text) ≡ Some labels → AreLabels line (c ∷ text) labels
one_byte line text c labels true e next more is = one_line line text c labels (is_filled line) (lines_after [] text) (eqb-true c 10 e) refl next is
one_byte line text c labels false e next more is =
    let q = more is in
    let other : c ≢ 10 = λ lf. let yes_ = eq-eqb c 10 lf in absurd (cc) in
    record { spelled = sym (append_assoc line (c ∷ []) text) ∙ q.spelled; each = λ all. q.each (all_more line c other all) }

no_line : (line : List ℕ) (labels : List (List ℕ)) → cond (is_filled line) None (Some []) ≡ Some labels → AreLabels line [] labels
no_line [] labels is = let none : [] ≡ labels = cc in record { spelled = ap label_lines none; each = λ all. subst (λ (l : List (List ℕ)). AllByRecursion IsLabel l) none tt }
no_line (b ∷ line) labels is = absurd (cc)

are_labels : (line text : List ℕ) (labels : List (List ℕ)) → lines_after line text ≡ Some labels → AreLabels line text labels
unfolding lines_after
are_labels line [] labels is = no_line line labels is
are_labels line (c ∷ text) labels is = one_byte line text c labels (c == 10) refl (are_labels [] text) (are_labels (line ++ c ∷ []) text labels) is

-- ---- what is written as lines
is_some : (line : List ℕ) → 0 < length line → is_filled line ≡ true
is_some [] some = absurd (omega (arith, some))
is_some (b ∷ line) some = refl

line_read : (line label text : List ℕ) → AllByRecursion (λ b. b ≢ 10) label → 0 < length (line ++ label) → lines_after line (label ++ 10 ∷ text) ≡ option_map (λ lines. (line ++ label) ∷ lines) (lines_after [] text)
unfolding lines_after
line_read line [] text all some =
    let whole : line ++ [] ≡ line = append-nil line in
    rw (whole, is_some line (subst (λ (l : List ℕ). 0 < length l) whole some)) refl
line_read line (b ∷ label) text all some =
    let whole : (line ++ b ∷ []) ++ label ≡ line ++ b ∷ label = append_assoc line (b ∷ []) label in
    rw (ne_eqb b 10 all.0) (line_read (line ++ b ∷ []) label text all.1 (subst (λ (l : List ℕ). 0 < length l) (sym whole) some) ∙ ap (λ (l : List ℕ). option_map (λ lines. l ∷ lines) (lines_after [] text)) whole)

lines_read : (labels : List (List ℕ)) → AllByRecursion IsLabel labels → lines_after [] (label_lines labels) ≡ Some labels
unfolding lines_after
lines_read [] all = refl
lines_read (label ∷ labels) all = rw (append_assoc label (10 ∷ []) (label_lines labels)) (line_read [] label (label_lines labels) all.0.line all.0.filled ∙ ap (option_map (λ lines. label ∷ lines)) (lines_read labels all.1))

-- ---- n lines
pub labels_again : (n : ℕ) (labels : List (List ℕ)) → AllByRecursion IsLabel labels → length labels ≡ n → labels_in n (label_lines labels) ≡ Some labels
labels_again n labels each many = rw (lines_read labels each, eq-eqb (length labels) n many) refl

so_many : (n : ℕ) (lines labels : List (List ℕ)) (is : Bool) → (length lines == n) ≡ is → cond is (Some lines) None ≡ Some labels → (lines ≡ labels) × (length lines ≡ n)
so_many n lines labels true e is = let same : lines ≡ labels = cc in (same, eqb-true (length lines) n e)
so_many n lines labels false e is = absurd (cc)

if_many : (n : ℕ) (lines : Option (List (List ℕ))) (labels : List (List ℕ)) → if_count_is n lines ≡ Some labels → (lines ≡ Some labels) × (length labels ≡ n)
if_many n None labels is = absurd (cc)
if_many n (Some lines) labels is =
    let p = so_many n lines labels (length lines == n) refl is in
    (ap Some p.0, ap length (sym p.0) ∙ p.1)

-- what the labels of a text are
pub record HasLabels (n : ℕ) (text : List ℕ) (labels : List (List ℕ)) : Type 0 where
  pub spelled : text ≡ label_lines labels
  pub each : AllByRecursion IsLabel labels
  pub many : length labels ≡ n

pub has_labels : (n : ℕ) (text : List ℕ) (labels : List (List ℕ)) → labels_in n text ≡ Some labels → HasLabels n text labels
has_labels n text labels is =
    let p = if_many n (lines_after [] text) labels is in
    let q = are_labels [] text labels p.0 in
    record { spelled = q.spelled; each = q.each tt; many = p.1 }

-- ---- what a reader makes of them
pub labels_pass : (lines : Option (List (List ℕ))) (labels : List (List ℕ)) → lines ≡ Some labels → labels_told lines ≡ Ok labels
labels_pass lines labels is = rw is refl

pub labels_passed : (lines : Option (List (List ℕ))) (labels : List (List ℕ)) → labels_told lines ≡ Ok labels → lines ≡ Some labels
labels_passed None labels is = absurd (cc)
labels_passed (Some others) labels is = let same : others ≡ labels = cc in ap Some same

abbrev check_lines : ℕ → List ℕ → Result (List (List ℕ)) StoredError
check_lines n text = labels_told (labels_in n text)

pub lines_fail : {R : Type 0} {remaining : R → Option (List ℕ)} {failed : R → ℕ} {sure : R → Option ℕ} {a b : R} {t u : Sha256} (h : StoredHeader) (text : List ℕ) (fault : LinesError) → GivesLines (labels_in h.vertices text) (Err fault)
    → Tells remaining failed sure (needs h.labels) a b t u text → Fails remaining failed sure (labels_reading h) a b (lines_refusal fault)
lines_fail h text lines_fault.Lines due p = checked_fails (check_lines h.vertices) text (Err errors.Labels) (sym (ap labels_told due)) (λ read. read) p
lines_fail h text lines_fault.Memory due p = memory_fails (labels_reading h) p.takes
