use Rattle.std.proofs.Common.{◌∙◌, List, ℕ, length, ap, sym}
use Rattle.gapcode.specs.Bits.{bits_of}
use Rattle.gapcode.proofs.IndexLemmas.{length-lists_of}
use Rattle.gapcode.proofs.lists.Lists.len.Goals as goal

pub returns : goal.returns
returns c =
    let l = c.self.inside in
    c.len.ensures ∙ sym (length-lists_of (bits_of l.bytes.items) l.places) ∙ ap (length {A = List ℕ}) c.self.view_is
