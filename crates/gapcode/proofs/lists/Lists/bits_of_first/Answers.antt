use Rattle.std.proofs.Common.{◌≡◌, ◌∙◌, ◌<◌, ◌≤◌, length, take, List, ℕ, ap, sym, arith}
use Rattle.std.specs.List.{flat_map}
use Rattle.std.proofs.lemmas.List.{take_all}
use Rattle.gapcode.specs.Bits.{bits_of}
use Rattle.gapcode.specs.Lists.{list_bits}
use Rattle.gapcode.proofs.IndexLemmas.{first_bits, length-lists_of}
use Rattle.gapcode.proofs.lists.Lists.bits_of_first.Goals as goal

pub returns-then-count-len : goal.returns-then-count-len
returns-then-count-len c =
    let l = c.self.inside in
    let low : c.args.count < length l.places = omega arith in
    c.at.ensures ∙ first_bits l.bytes.items l.places c.args.count c.self.invariant low ∙ ap (λ (lists : List (List ℕ)). length (flat_map list_bits (take c.args.count lists))) c.self.view_is

pub returns : goal.returns
returns c =
    let l = c.self.inside in
    let all : length c.args.self.now ≤ c.args.count = omega (arith, c.if-count-len.false, c.len.ensures, length-lists_of (bits_of l.bytes.items) l.places, ap (length {A = List ℕ}) c.self.view_is) in
    c.bits_in.ensures ∙ ap (λ (lists : List (List ℕ)). length (flat_map list_bits lists)) (sym (take_all c.args.count c.args.self.now all))
