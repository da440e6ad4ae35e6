use Rattle.std.proofs.Common.{◌≡◌, ◌∙◌, ◌<◌, ℕ, List, [], Some, length, map, ap, arith, sym, Vec, Global}
use Rattle.std.specs.List.{slice_get}
use Rattle.std.proofs.lemmas.List.{get_or-map, length-map}
use Rattle.std.proofs.lemmas.Option.{get_or_from_slice_get, slice_get_within}
use Rattle.graph.specs.Finding.{StandsAt}
use Rattle.std.specs.Cmp.Lexicographic.{same_text}
use Rattle.edgelist.proofs.numbering.is_numbered.Goals as goal

abbrev text : Vec ℕ Global → List ℕ
text v = v.items

numbered : (keys : List (Vec ℕ Global)) (i : ℕ) (k : Vec ℕ Global) (label : List ℕ) → slice_get keys i ≡ Some k → k.items ≡ label → StandsAt (map text keys) label i
numbered keys i k label at is =
    let lt : i < length keys = slice_get_within keys i k at in
    let long : length (map text keys) ≡ length keys = simp length-map in
    record {
      within = omega (arith, lt, long);
      is = get_or-map text keys i k [] lt ∙ ap text (get_or_from_slice_get keys i k k at) ∙ is;
    }

pub returns-in-Some : goal.returns-in-Some
returns-in-Some c = λ t.
    numbered c.args.labels.now.keys c.args.number c.in-Some.known.now c.args.label.now (sym (rw c.in-Some.is at c.get_index.ensures.key))
    (same_text _ _ (sym (rw c.as_slice.ensures.value at (sym c.eq.ensures ∙ t))))
