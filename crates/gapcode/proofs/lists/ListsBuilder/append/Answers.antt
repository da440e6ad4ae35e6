use Rattle.std.proofs.Common.{◌∙◌, ◌++◌, [], ℕ, List, length, ap, sym, arith}
use Rattle.std.specs.Prelude.{replicate, false}
use Rattle.std.specs.List.{flat_map}
use Rattle.gapcode.specs.Bits.{bits_of}
use Rattle.gapcode.specs.Index.{lists_of}
use Rattle.gapcode.specs.Lists.{list_bits}
use Rattle.gapcode.proofs.IndexLemmas.{last_place}
use Rattle.gapcode.proofs.JoinLemmas.{stored_ascend, stored_inside, appended}
use Rattle.gapcode.proofs.lists.ListsBuilder.append.Goals as goal

pub moved_behind-requires-clause-last : goal.moved_behind-requires-clause-last
moved_behind-requires-clause-last c =
    let b = c.self.inside in
    omega (arith, last_place b.writer [] b.places c.self.invariant, c.len.ensures.count)

pub moved_behind-requires-clause-others : goal.moved_behind-requires-clause-others
moved_behind-requires-clause-others c =
    let l = c.lists.inside in
    stored_ascend l.bytes.items l.places c.lists.invariant (omega (arith, l.bytes.ok.0, l.bytes.ok.1))

pub put_bits-requires : goal.put_bits-requires
put_bits-requires c =
    let l = c.lists.inside in
    let count = c.bits_in.ensures ∙ ap (λ (lists : List (List ℕ)). length (flat_map list_bits lists)) (sym c.lists.view_is) in
    omega (arith, count, stored_inside l.bytes.items l.places c.lists.invariant, ap (length {A = ℕ}) c.deref.ensures.value)

pub invariant_of-result : goal.invariant_of-result
invariant_of-result c =
    let b = c.self.inside in
    let l = c.lists.inside in
    let is = c.lists.invariant in
    let count = c.bits_in.ensures ∙ ap (λ (lists : List (List ℕ)). length (flat_map list_bits lists)) (sym c.lists.view_is) in
    rw (c.in_ok-put_bits.ensures.ok, c.in_ok-places.ensures, c.len.ensures.count, count, c.deref.ensures.value)
    (appended b.writer (bits_of l.bytes.items) (replicate is.pad false) b.places l.places c.self.invariant is.index).index

pub returns : goal.returns
returns c =
    let b = c.self.inside in
    let l = c.lists.inside in
    let is = c.lists.invariant in
    let count = c.bits_in.ensures ∙ ap (λ (lists : List (List ℕ)). length (flat_map list_bits lists)) (sym c.lists.view_is) in
    rw (c.in_ok-put_bits.ensures.ok, c.in_ok-places.ensures, c.len.ensures.count, count, c.deref.ensures.value)
    (appended b.writer (bits_of l.bytes.items) (replicate is.pad false) b.places l.places c.self.invariant is.index).shows
    ∙ ap (λ (lists : List (List ℕ)). lists ++ lists_of (bits_of l.bytes.items) l.places) c.self.view_is ∙ ap (λ (lists : List (List ℕ)). c.args.self ++ lists) c.lists.view_is
