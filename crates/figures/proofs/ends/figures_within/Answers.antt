use Rattle.std.proofs.Common.{◌≡◌, ◌<◌, ◌-◌, ◌∙◌, [], List, ℕ, length, get_or, map, min, take, drop, ap, subst, arith}
use Rattle.std.specs.List.{AllZip, zip}
use Rattle.std.proofs.lemmas.List.{get_or-map, length-map}
use Rattle.rayon.specs.Numbers.{nat_range}
use Rattle.rayon.proofs.ListFacts.{IfOk-then}
use Rattle.rayon.proofs.ToStd.{nat_range-All}
use Rattle.ball_model.specs.Figures.{TallyValue}
use Rattle.figures.specs.declared.tally.Tally.{Tally}
use Rattle.figures.specs.declared.ends.Figures.{Figures}
use Rattle.figures.specs.Values.{AreFiguresBy, figures_of, figures_from, value_of, weight_of}
use Rattle.figures.proofs.PlaceLemmas.{an_item, part_of, take_within, zipped_at, zipped_length}
use Rattle.figures.proofs.ends.figures_within.Goals as goal

-- the closure may be called at each number of the range
pub collect-requires-clause-ready : goal.collect-requires-clause-ready
collect-requires-clause-ready g c κs within =
    let ends = c.into_par_iter.ensures in
    let n = length c.args.tallies.now in
    let weights = c.args.weights.now in
    let last = c.min-end.result in
    let inside = nat_range-All (λ i. (i < n) × (i < length weights)) c.args.places.start last
    (λ i low high.
    let below : i < length weights = omega (arith, c.requires.count) in
    (omega arith, below)) in
    rw (c.map.ensures.base, c.with_min_len.ensures.base, c.map.ensures.f, ends.0, ends.1)
    (λ k d lt.
    let at = inside k d lt in
    ((at.0, at.1), λ y made. tt))

pub returns : goal.returns
unfolding figures_from
returns g c =
    let ends = c.into_par_iter.ensures in
    let weights = c.args.weights.now in
    let tallies = c.args.tallies.now in
    let from : ℕ = c.args.places.start in
    let last : ℕ = c.min-end.result in
    let of = λ (row : List ℕ) (tally : TallyValue). figures_of tally.last row tally in
    let is = λ (i : ℕ) (y : Figures). (d : Tally) → AreFiguresBy (get_or weights i 0) (get_or tallies i d) y in
    IfOk-then c.collect.result _ _ c.collect.ensures (λ v h rows weighed.
    let chain = rw (c.map.ensures.base, c.with_min_len.ensures.base, c.map.ensures.f) at h.1 in
    let places = chain.1 ∙ (λ i. nat_range (ends.0 i) (ends.1 i)) in
    let whole : List Figures = map (λ p. of p.0 p.1) (zip rows (map value_of tallies)) in
    let weighty : length (map weight_of rows) ≡ length rows = length-map rows weight_of in
    let same : length weights ≡ length rows = ap length weighed.each ∙ weighty in
    let long : length whole ≡ length rows = zipped_length of value_of rows tallies (c.requires.count ∙ same) in
    let at_end : last ≡ min c.args.places.end (length whole) = omega arith in
    h.2
    ∙ part_of is whole from (last - from) h.0 (omega arith) (subst (λ l. AllZip is l h.0) places chain.2)
    (λ k figures lt made.
    let some : Tally = an_item tallies k (omega arith) in
    let at : k < length rows = omega arith in
    let row : List ℕ = get_or rows k [] in
    let weight : get_or weights k 0 ≡ weight_of row = ap (λ l. get_or l k 0) weighed.each ∙ get_or-map weight_of rows k [] 0 at in
    made some row (weighed.short k [] at) weight ∙ zipped_at of value_of rows tallies k [] some figures (c.requires.count ∙ same) at)
    ∙ ap (λ n. take (n - from) (drop from whole)) at_end
    ∙ take_within whole from c.args.places.end)
