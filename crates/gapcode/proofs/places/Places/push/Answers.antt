use Rattle.std.proofs.Common.{◌≡◌, ◌∙◌, ◌≤◌, ◌-◌, ◌/◌, ◌%◌, ◌++◌, ◌∷◌, [], ℕ, List, length, get_or, ap, sym, subst, arith}
use Rattle.gapcode.specs.Places.{places_from}
use Rattle.gapcode.proofs.PlacesLemmas.{push_is, push_marks, marks_few}
use Rattle.gapcode.proofs.places.Places.push.Goals as goal

pub put_marks-requires : goal.put_marks-requires
put_marks-requires c =
    let p = c.self.inside in
    let order : get_or (places_from 0 p.marks.items p.lows.items) (length (places_from 0 p.marks.items p.lows.items) - 1) 0 ≤ c.args.place =
    subst (λ (places : List ℕ). get_or places (length places - 1) 0 ≤ c.args.place) (sym c.self.view_is) c.requires.order in
    marks_few c.args.place p.lows.items p.marks.items c.self.invariant order

pub invariant_of-result : goal.invariant_of-result
invariant_of-result c =
    let p = c.self.inside in
    let entry : c.len.result ≡ length p.lows.items = omega (arith, c.len.ensures, p.lows.ok.0) in
    rw (c.in_ok-push.ensures.items, c.in_ok-put_marks.ensures, entry)
    (push_marks p.lows.items p.marks.items (c.args.place % 4294967296) (c.args.place / 4294967296 - length p.marks.items) c.self.invariant)

pub returns : goal.returns
returns c =
    let p = c.self.inside in
    let entry : c.len.result ≡ length p.lows.items = omega (arith, c.len.ensures, p.lows.ok.0) in
    let order : get_or (places_from 0 p.marks.items p.lows.items) (length (places_from 0 p.marks.items p.lows.items) - 1) 0 ≤ c.args.place =
    subst (λ (places : List ℕ). get_or places (length places - 1) 0 ≤ c.args.place) (sym c.self.view_is) c.requires.order in
    rw (c.in_ok-push.ensures.items, c.in_ok-put_marks.ensures, entry) (push_is p.lows.items p.marks.items c.args.place c.self.invariant order)
    ∙ ap (λ (places : List ℕ). places ++ c.args.place ∷ []) c.self.view_is
