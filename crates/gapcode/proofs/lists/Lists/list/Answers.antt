use Rattle.std.proofs.Common.{◌∙◌, ◌<◌, length, List, ℕ, ap, sym, arith, []}
use Rattle.std.specs.Prelude.{slice_index_or}
use Rattle.gapcode.specs.Bits.{bits_of}
use Rattle.gapcode.proofs.IndexLemmas.{length-lists_of, list_of-at, placed_at}
use Rattle.gapcode.proofs.lists.Lists.list.Goals as goal

pub at-requires : goal.at-requires
at-requires c =
    let l = c.self.inside in
    omega (arith, c.requires, length-lists_of (bits_of l.bytes.items) l.places, ap (length {A = List ℕ}) c.self.view_is)

pub at-requires-2 : goal.at-requires-2
at-requires-2 c =
    let l = c.self.inside in
    let low : c.args.i < length l.places = omega (arith, c.requires, length-lists_of (bits_of l.bytes.items) l.places, ap (length {A = List ℕ}) c.self.view_is) in
    rw (c.deref.ensures.value, c.at.ensures) (placed_at l.bytes.items l.places c.args.i c.self.invariant low)

pub returns : goal.returns
returns c =
    let l = c.self.inside in
    let low : c.args.i < length l.places = omega (arith, c.requires, length-lists_of (bits_of l.bytes.items) l.places, ap (length {A = List ℕ}) c.self.view_is) in
    c.at-2.ensures ∙ rw (c.deref.ensures.value, c.at.ensures) (sym (list_of-at (bits_of l.bytes.items) l.places c.args.i low))
    ∙ ap (λ (lists : List (List ℕ)). slice_index_or lists c.args.i []) c.self.view_is
