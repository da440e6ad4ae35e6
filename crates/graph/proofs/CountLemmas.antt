-- What a list of counted vertices says.
use Rattle.std.proofs.Common.{◌≡◌, ◌≢◌, ◌∙◌, ℕ, ◌+◌, ◌<◌, ◌≤◌, ◌==◌, Bool, true, false, ◌||◌, List, [], ◌∷◌, ◌++◌, length, map, get_or, replicate, refl, ap, sym, arith}
use Rattle.std.specs.Prelude.{Option, None, Some, Err, if◌then◌else◌}
use Rattle.std.specs.List.{list_any, filter, range_with_len}
use Rattle.std.specs.Str.{bytes_eq}
use Rattle.std.proofs.lemmas.List.{append_assoc, length-append, length-replicate, get_or_append_left, get_or-replicate}
use Rattle.std.proofs.lemmas.List.Folds.{list_any-append}
use Rattle.std.proofs.lemmas.List.Elements.{filter-append}
use Rattle.std.proofs.lemmas.List.FromFn.{length-range_with_len}
use Rattle.std.proofs.lemmas.List.Sums.{length-filter, count_by-le-length}
use Rattle.csv.specs.declared.reader.Reader.{Reader}
use Rattle.ball_model.specs.Input.{Network, records, first_of}
use Rattle.ball_model.specs.Counting.{CountedRefusal, NotOne, Unknown, names, list_fault_at, named_vertices, counted_network_from}
use Rattle.std.proofs.lemmas.Bool.{eqb-true, eq-eqb}
use Rattle.ball_model.proofs.PartLemmas.{range_more}
use Rattle.graph.specs.Links.{marked_vertices}
use Rattle.graph.specs.Records.{config, rows, is_row, IsLeft}
use Rattle.graph.specs.Counting.{AreAlike, ListFaultIs, record_fault, MarksAre, MarksLabel, SaysMarks, SaysRefusal}
use Rattle.graph.specs.declared.counting.CountedError.{CountedError}
use Rattle.graph.specs.declared.counting.CountedError.TheVariants as refused
use Rattle.std.proofs.Math.Bool.{or-false}
use Rattle.std.proofs.Math.Seq.{get_or-append_seam}
use Rattle.ball_model.proofs.BoolLemmas.{by_cases}
use Rattle.graph.proofs.RangeLemmas.{filter_range-same, first-none, first-some}

-- no mark yet
pub marks-none : (labels : List (List ℕ)) → MarksAre labels [] (replicate (length labels) false)
marks-none labels = record { count = length-replicate (length labels) false; each = λ v lt. get_or-replicate (length labels) v false true lt }

-- marks that say which labels are named are the same for equal labels
pub alike-marks : (labels : List (List ℕ)) (past : List (List (List ℕ))) (marks : List Bool) → MarksAre labels past marks → AreAlike labels marks
alike-marks labels past marks are = record {
  count = are.count;
  each = λ v w lt low same. are.each v lt ∙ ap (λ (label : List ℕ). list_any (names label) past) same ∙ sym (are.each w low);
}

or-flip : (a b : Bool) → (a || b) ≡ (b || a)
or-flip true true = refl
or-flip true false = refl
or-flip false true = refl
or-flip false false = refl

-- one record more, which names a label
pub marks-more : (labels : List (List ℕ)) (past : List (List (List ℕ))) (old new : List Bool) (label : List ℕ) (r : List (List ℕ)) → r ≡ label ∷ [] → MarksLabel labels label old new →
    MarksAre labels past old → MarksAre labels (past ++ r ∷ []) new
marks-more labels past old new label r one marks are = record {
  count = marks.count;
  each = λ v lt.
      let l = get_or labels v [] in
      let now : list_any (names l) (past ++ r ∷ []) ≡ (list_any (names l) past || bytes_eq label l) =
      list_any-append (names l) past (r ∷ []) ∙ rw one (ap (λ b. list_any (names l) past || b) (or-false (bytes_eq label l))) in
      marks.each v lt ∙ or-flip (bytes_eq label l) (get_or old v true) ∙ ap (λ b. b || bytes_eq label l) (are.each v lt) ∙ sym now;
}

-- no check fails at any of these records
pub record IsCleanList (labels : List (List ℕ)) (past : List (List (List ℕ))) : Type 0 where
  pub none : (i : ℕ) → i < length past → list_fault_at labels past i ≡ None

list-fault-before : (labels : List (List ℕ)) (past more : List (List (List ℕ))) (i : ℕ) → i < length past → list_fault_at labels (past ++ more) i ≡ list_fault_at labels past i
list-fault-before labels past more i lt = ap (λ r. record_fault labels r i) (get_or_append_left past more [] i lt)

list-fault-next : (labels : List (List ℕ)) (past : List (List (List ℕ))) (r : List (List ℕ)) (more : List (List (List ℕ))) → list_fault_at labels (past ++ r ∷ more) (length past) ≡ record_fault labels r (length past)
list-fault-next labels past r more = ap (λ s. record_fault labels s (length past)) (get_or-append_seam past r more [])

-- n records were read, and the marks are theirs
pub record Counts {R : Type 0} (rem : R → Option (List ℕ)) (d : ℕ) (labels : List (List ℕ)) (n : ℕ) (text : List ℕ) (rdr : Reader R) (marks : List Bool) : Type 0 where
  pub past : List (List (List ℕ))
  pub at : IsLeft rem d text past rdr
  pub count : length past ≡ n
  pub are : MarksAre labels past marks
  pub clean : IsCleanList labels past

pub counts-start : {R : Type 0} (rem : R → Option (List ℕ)) (d : ℕ) (labels : List (List ℕ)) (text : List ℕ) (rdr : Reader R) (marks : List Bool) → MarksAre labels [] marks → IsLeft rem d text [] rdr → Counts rem d labels 0 text rdr marks
counts-start rem d labels text rdr marks are at = record { past = []; at = at; count = refl; are = are; clean = record { none = λ i lt. absurd (omega arith) } }

pub counts-more : {R : Type 0} (rem : R → Option (List ℕ)) (d : ℕ) (labels : List (List ℕ)) (n : ℕ) (text : List ℕ) (a b : Reader R) (marks marks' : List Bool) (r : List (List ℕ)) (counts : Counts rem d labels n text a marks) →
    IsLeft rem d text (counts.past ++ r ∷ []) b → ((past : List (List (List ℕ))) → MarksAre labels past marks → MarksAre labels (past ++ r ∷ []) marks') → record_fault labels r n ≡ None → Counts rem d labels (n + 1) text b marks'
counts-more rem d labels n text a b marks marks' r counts at more passes = record {
  past = counts.past ++ r ∷ [];
  at = at;
  count = omega (arith, length-append counts.past (r ∷ []), counts.count);
  are = more counts.past counts.are;
  clean = record {
    none = λ i lt. by_cases (i == length counts.past) _
        (λ t.
        let here : i ≡ length counts.past = eqb-true i (length counts.past) t in
        rw here (list-fault-next labels counts.past r [] ∙ rw counts.count passes))
        (λ f.
        let apart : i ≢ length counts.past = λ same. absurd (let bad : true ≡ false = sym (eq-eqb i i refl) ∙ ap (λ (j : ℕ). i == j) same ∙ f in cc) in
        let low : i < length counts.past = omega (arith, lt, length-append counts.past (r ∷ []), apart) in
        list-fault-before labels counts.past (r ∷ []) i low ∙ counts.clean.none i low);
  };
}

-- the marks of all records are what the list says
says-marks : (labels : List (List ℕ)) (past : List (List (List ℕ))) (marks : List Bool) → IsCleanList labels past → MarksAre labels past marks → SaysMarks labels past marks
unfolding counted_network_from named_vertices
says-marks labels past marks clean are network same =
    let none : first_of (map (list_fault_at labels past) (range_with_len 0 (length past))) ≡ None = first-none (list_fault_at labels past) 0 (length past) (λ k lt. clean.none k (omega arith)) in
    let sets : filter (λ v. list_any (names (get_or labels v [])) past) (range_with_len 0 (length labels)) ≡ marked_vertices (length labels) marks =
    filter_range-same _ _ 0 (length labels) (length labels) (omega arith) (λ k lt. sym (are.each k lt)) in
    rw (same, none, sets) refl

pub counts-end : {R : Type 0} (rem : R → Option (List ℕ)) (d : ℕ) (labels : List (List ℕ)) (n : ℕ) (text : List ℕ) (a : Reader R) (marks : List Bool) (counts : Counts rem d labels n text a marks) →
    records d text ≡ counts.past → SaysMarks labels (records d text) marks
counts-end rem d labels n text a marks counts whole = rw whole (says-marks labels counts.past marks counts.clean counts.are)

says-fault : (labels : List (List ℕ)) (past : List (List (List ℕ))) (r : List (List ℕ)) (more : List (List (List ℕ))) (x : CountedRefusal) → IsCleanList labels past → record_fault labels r (length past) ≡ Some x →
    (network : Network) → network.labels ≡ labels → counted_network_from network (past ++ r ∷ more) ≡ Err x
unfolding counted_network_from
says-fault labels past r more x clean fault network same =
    let all = past ++ r ∷ more in
    let long : length past < length all = omega (arith, length-append past (r ∷ more)) in
    let at : 0 + length past ≡ length past = omega arith in
    let first : first_of (map (list_fault_at labels all) (range_with_len 0 (length all))) ≡ Some x =
    first-some (list_fault_at labels all) x 0 (length all) (length past) long
    (λ j lt. let less : j < length past = omega arith in list-fault-before labels past (r ∷ more) j less ∙ clean.none j less) (rw at (list-fault-next labels past r more ∙ fault)) in
    rw (same, first) refl

says-refused : (labels : List (List ℕ)) (past : List (List (List ℕ))) (r : List (List ℕ)) (more : List (List (List ℕ))) (e : CountedError) → IsCleanList labels past → ListFaultIs (record_fault labels r (length past)) e →
    SaysRefusal labels (past ++ r ∷ more) e
says-refused labels past r more (refused.Fields n) clean fault = says-fault labels past r more (NotOne n) clean fault
says-refused labels past r more (refused.Unknown n) clean fault = says-fault labels past r more (Unknown n) clean fault
says-refused labels past r more refused.Memory clean fault = absurd fault

pub counts-stop : {R : Type 0} (rem : R → Option (List ℕ)) (d : ℕ) (labels : List (List ℕ)) (n : ℕ) (text : List ℕ) (a b : Reader R) (marks : List Bool) (r : List (List ℕ)) (e : CountedError) (counts : Counts rem d labels n text a marks) →
    IsLeft rem d text (counts.past ++ r ∷ []) b → ListFaultIs (record_fault labels r n) e → SaysRefusal labels (records d text) e
counts-stop rem d labels n text a b marks r e counts at fault =
    let more = filter is_row (rows (config d) b.state [] [] at.left) in
    let whole : records d text ≡ counts.past ++ r ∷ more = at.all ∙ append_assoc counts.past (r ∷ []) more in
    rw whole (says-refused labels counts.past r more e counts.clean (rw counts.count fault))

-- the marked vertices below n
abbrev pub marked_below : List Bool → ℕ → List ℕ
marked_below marks n = filter (λ v. get_or marks v true) (range_with_len 0 n)

-- a filter of a range is not longer
pub marked-few : (marks : List Bool) (n : ℕ) → length (marked_below marks n) ≤ n
marked-few marks n =
    let q : ℕ → Bool = λ v. get_or marks v true in
    omega (arith, length-filter q (range_with_len 0 n), count_by-le-length q (range_with_len 0 n), length-range_with_len 0 n)

length-if : (b : Bool) (n : ℕ) → length (if b then (n ∷ []) else []) ≡ (if b then 1 else 0)
length-if true n = refl
length-if false n = refl

-- one vertex more
pub marked-next : (marks : List Bool) (n : ℕ) → length (marked_below marks (n + 1)) ≡ length (marked_below marks n) + (if get_or marks n true then 1 else 0)
marked-next marks n =
    ap (λ (r : List ℕ). length (filter (λ v. get_or marks v true) r)) (range_more n)
    ∙ ap (length {A = ℕ}) (filter-append (λ v. get_or marks v true) (range_with_len 0 n) (n ∷ []))
    ∙ length-append (marked_below marks n) (if get_or marks n true then (n ∷ []) else [])
    ∙ ap (λ k. length (marked_below marks n) + k) (length-if (get_or marks n true) n)
