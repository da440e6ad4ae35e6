use Rattle.std.proofs.Common.{◌∙◌, ap, sym, length, ℕ}
use Rattle.gapcode.proofs.SteppingLemmas.{length-placed}
use Rattle.gapcode.proofs.elements.Elements.len.Goals as goal

pub returns : goal.returns
returns c =
    let e = c.self.inside in
    sym (length-placed e.bytes.now e.position e.left e.least c.self.invariant.1) ∙ ap (length {A = ℕ}) c.self.view_is
