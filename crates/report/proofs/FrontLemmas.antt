-- Beginnings of text.
use Rattle.std.proofs.Common.{◌≡◌, ℕ, suc, ◌+◌, ◌-◌, ◌<◌, ◌≤◌, Bool, Option, List, [], ◌∷◌, ◌++◌, length, take, drop, drop-cons, get_or, refl, ap, sym, ◌∙◌, arith, append_assoc, slice_index_or}
use Rattle.std.specs.Prelude.{codes, decimal, if◌then◌else◌}
use Rattle.std.specs.List.{flat_map, range_with_len}
use Rattle.std.specs.Io.KnownBytes.{Appends}
use Rattle.std.proofs.KnownBytes.{Appends-nil, Appends-trans}
use Rattle.std.proofs.lemmas.Grind.{flat_map-append}
use Rattle.std.proofs.lemmas.List.{length-append, take-append-drop}
use Rattle.figures.specs.declared.ends.Figures.{Figures}
use Rattle.ball_model.specs.Figures.{fixed6_of}
use Rattle.ball_model.specs.Streams.{PutsFront}
use Rattle.ball_model.specs.Report.{end_line, field_text, line_text, more_text}
use Rattle.report.specs.Parts.{figures_at, figures_line, head_text, vertices_text}
use Rattle.replica.proofs.IndexLemmas.Counting.{range_split}

-- nothing of a text that is not empty
pub front_none : (xs : List ℕ) (a : Option (List ℕ)) → 0 < length xs → PutsFront a a xs
front_none xs a some = record { front = []; rest = xs; split = refl; fewer = some; appended = Appends-nil a }

-- a beginning of the first of two texts
pub front_first : (xs ys : List ℕ) (a b : Option (List ℕ)) → PutsFront a b xs → PutsFront a b (xs ++ ys)
front_first xs ys a b p = record {
  front = p.front;
  rest = p.rest ++ ys;
  split = ap (λ (l : List ℕ). l ++ ys) p.split ∙ append_assoc p.front p.rest ys;
  fewer = omega (arith, p.fewer, length-append p.rest ys);
  appended = p.appended;
}

-- the first of two texts, and a beginning of the other
pub front_then : (xs ys : List ℕ) (a b c : Option (List ℕ)) → Appends a b xs → PutsFront b c ys → PutsFront a c (xs ++ ys)
front_then xs ys a b c before p = record {
  front = xs ++ p.front;
  rest = p.rest;
  split = ap (λ (l : List ℕ). xs ++ l) p.split ∙ sym (append_assoc xs p.front p.rest);
  fewer = p.fewer;
  appended = Appends-trans a b c xs p.front before p.appended;
}

-- the texts of the pages before one, and a beginning of its own
pub front_page : {X : Type 0} (f : X → List ℕ) (xs : List X) (i : ℕ) (d : X) (a b c : Option (List ℕ)) → i < length xs →
    Appends a b (flat_map f (take i xs)) → PutsFront b c (f (get_or xs i d)) → PutsFront a c (flat_map f xs)
front_page f xs i d a b c lt before here =
    let more : List ℕ = flat_map f (drop (suc i) xs) in
    let whole : flat_map f xs ≡ flat_map f (take i xs) ++ (f (get_or xs i d) ++ more) =
    ap (flat_map f) (sym (take-append-drop i xs)) ∙ flat_map-append f (take i xs) (drop i xs)
    ∙ ap (λ l. flat_map f (take i xs) ++ flat_map f l) (drop-cons xs i d lt) in
    rw whole (front_then (flat_map f (take i xs)) (f (get_or xs i d) ++ more) a b c before (front_first (f (get_or xs i d)) more b c here))

-- ---- no line is empty

more_some : (fields : List (List ℕ)) → 0 < length (more_text fields)
more_some [] = omega arith
more_some (field ∷ fields) = omega arith

line_some : (field : List ℕ) (fields : List (List ℕ)) → 0 < length (line_text (field ∷ fields))
line_some field fields = let more = more_some fields in omega (arith, more, length-append (field_text field) (more_text fields))

figures_some : (label : List ℕ) (f : Figures) → 0 < length (figures_line label f)
unfolding figures_line
figures_some label f =
    line_some (codes "vertex") (label ∷ fixed6_of f.estimate ∷ fixed6_of f.harmonic ∷ fixed6_of f.closeness ∷ fixed6_of f.lin ∷ decimal f.empty ∷ [])

end_some : (t : ℕ) (stable : Bool) → 0 < length (end_line t stable)
unfolding end_line
end_some t stable = line_some (codes "end") (decimal t ∷ (if stable then codes "stable" else codes "limit") ∷ [])

pub head_some : (totals : List ℕ) (t : ℕ) (stable : Bool) → 0 < length (head_text totals t stable)
unfolding head_text
head_some totals t stable = let some = end_some t stable in omega (arith, some, length-append {A = ℕ})

pub vertices_some : (labels : List (List ℕ)) (first : ℕ) (parts : List (List Figures)) (from to : ℕ) → from < to → 0 < length (vertices_text labels first parts from (to - from))
unfolding vertices_text
vertices_some labels first parts from to lt =
    let f : ℕ → List ℕ = λ x. figures_line (slice_index_or labels x []) (figures_at first parts x) in
    let count : to - from ≡ suc (to - from - 1) = omega (arith, lt) in
    let some : 0 < length (f from) = figures_some (slice_index_or labels from []) (figures_at first parts from) in
    rw count (omega (arith, some, length-append (f from) (flat_map f (range_with_len (from + 1) (to - from - 1)))))

-- ---- lines of vertices

pub split_at : (labels : List (List ℕ)) (first : ℕ) (parts : List (List Figures)) (from at to : ℕ) → from ≤ at → at ≤ to →
    vertices_text labels first parts from (to - from) ≡ vertices_text labels first parts from (at - from) ++ vertices_text labels first parts at (to - at)
unfolding vertices_text
split_at labels first parts from at to low high =
    let f : ℕ → List ℕ = λ x. figures_line (slice_index_or labels x []) (figures_at first parts x) in
    let all : to - from ≡ at - from + (to - at) = omega (arith, low, high) in
    let place : from + (at - from) ≡ at = omega (arith, low) in
    ap (λ n. flat_map f (range_with_len from n)) all
    ∙ ap (flat_map f) (range_split from (at - from) (to - at))
    ∙ flat_map-append f (range_with_len from (at - from)) (range_with_len (from + (at - from)) (to - at))
    ∙ ap (λ x. flat_map f (range_with_len from (at - from)) ++ flat_map f (range_with_len x (to - at))) place
