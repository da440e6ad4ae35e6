use Rattle.std.proofs.Common.{Bool, List, ℕ, false}
use Rattle.std.specs.Prelude.{replicate}
use Rattle.gapcode.proofs.IndexLemmas.{readable, stored}
use Rattle.gapcode.proofs.lists.indexed.Goals as goal

pub places-requires : goal.places-requires
places-requires c =
    let r = c.requires in
    ((r.0, replicate r.1.spelled.0 false), readable c.args.bytes.now c.args.count r.0 r.1)

pub invariant_of-result : goal.invariant_of-result
invariant_of-result c =
    let r = c.requires in
    let x : List (List ℕ) × List Bool = (r.0, replicate r.1.spelled.0 false) in
    rw c.in_ok-bytes.ensures.items (stored c.args.bytes.now c.in_ok-places.places r.0 r.1.spelled (c.in_ok-places.ensures x (readable c.args.bytes.now c.args.count r.0 r.1)) r.1.ascend).0

pub returns : goal.returns
returns c = λ lists is.
    let x : List (List ℕ) × List Bool = (lists, replicate is.spelled.0 false) in
    rw c.in_ok-bytes.ensures.items (stored c.args.bytes.now c.in_ok-places.places lists is.spelled (c.in_ok-places.ensures x (readable c.args.bytes.now c.args.count lists is)) is.ascend).1
