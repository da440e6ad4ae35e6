use Rattle.std.proofs.Common.{◌∙◌, ◌<◌, length, ap, arith, List, ℕ}
use Rattle.std.specs.Prelude.{slice_index}
use Rattle.std.proofs.lemmas.List.{get_or_default}
use Rattle.gapcode.specs.Places.{marks_up_to}
use Rattle.gapcode.proofs.PlacesLemmas.{at_is, length-places}
use Rattle.gapcode.proofs.places.Places.at.Goals as goal

pub index-requires : goal.index-requires
index-requires c =
    let p = c.self.inside in
    omega (arith, c.requires, length-places 0 p.marks.items p.lows.items, ap (length {A = ℕ}) c.self.view_is, p.lows.ok.0)

pub returns : goal.returns
returns c =
    let p = c.self.inside in
    let low : c.args.i < length p.lows.items = omega (arith, c.requires, length-places 0 p.marks.items p.lows.items, ap (length {A = ℕ}) c.self.view_is) in
    at_is p.lows.items p.marks.items c.args.i c.index.result.now c.passed_by.result low (c.index.ensures ∙ get_or_default p.lows.items c.args.i _ 0 low)
    (c.passed_by.ensures ∙ ap (marks_up_to c.args.i) c.deref.ensures.value) (omega arith)
    ∙ ap (λ (places : List ℕ). slice_index places c.args.i) c.self.view_is
