use Rattle.std.proofs.Common.{◌≡◌, ◌∙◌, ◌<◌, ◌+◌, ◌-◌, ℕ, Bool, List, length, get_or, ap, subst, arith}
use Rattle.std.specs.List.{flat_map}
use Rattle.gapcode.specs.Bits.{bits_of}
use Rattle.gapcode.specs.Lists.{list_bits, BeginsAt}
use Rattle.gapcode.proofs.IndexLemmas.{length-lists_of, placed_at}
use Rattle.gapcode.proofs.JoinLemmas.{stored_end}
use Rattle.gapcode.proofs.lists.bits_in.Goals as goal

pub at-requires : goal.at-requires
at-requires c =
    let l = c.lists.inside in
    omega (arith, c.if-count-eq0.false, c.len-count.ensures, length-lists_of (bits_of l.bytes.items) l.places, ap (length {A = List ℕ}) c.lists.view_is)

pub list_end-requires : goal.list_end-requires
list_end-requires c =
    let l = c.lists.inside in
    let last : c.len-count.result - 1 < length l.places = omega (arith, c.if-count-eq0.false, c.len-count.ensures, length-lists_of (bits_of l.bytes.items) l.places, ap (length {A = List ℕ}) c.lists.view_is) in
    record { inside = rw (c.deref.ensures.value, c.at.ensures) (placed_at l.bytes.items l.places (c.len-count.result - 1) c.lists.invariant last).inside }

pub returns : goal.returns
returns c =
    let l = c.lists.inside in
    let count : c.len-count.result ≡ length l.places = omega (arith, c.len-count.ensures, length-lists_of (bits_of l.bytes.items) l.places, ap (length {A = List ℕ}) c.lists.view_is) in
    let ends = subst (λ (bytes : List ℕ). (x : List ℕ × List Bool) → BeginsAt bytes c.at.result x → c.list_end.result ≡ c.at.result + length (list_bits x.0)) c.deref.ensures.value c.list_end.ensures.end in
    stored_end l.bytes.items l.places c.at.result c.list_end.result c.lists.invariant (omega (arith, count, c.if-count-eq0.false)) (c.at.ensures ∙ ap (λ (n : ℕ). get_or l.places (n - 1) 0) count) ends
    ∙ ap (λ (lists : List (List ℕ)). length (flat_map list_bits lists)) c.lists.view_is
