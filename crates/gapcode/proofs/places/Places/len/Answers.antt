use Rattle.std.proofs.Common.{length, ap, arith, ℕ}
use Rattle.gapcode.proofs.PlacesLemmas.{length-places}
use Rattle.gapcode.proofs.places.Places.len.Goals as goal

pub returns : goal.returns
returns c =
    let p = c.self.inside in
    omega (arith, c.len.ensures, p.lows.ok.0, length-places 0 p.marks.items p.lows.items, ap (length {A = ℕ}) c.self.view_is)
