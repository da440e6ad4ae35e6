use Rattle.std.proofs.Common.{◌≡◌, ◌∙◌, ◌+◌, ◌*◌, ◌/◌, ◌%◌, ◌<◌, ℕ, true, false, sym, arith}
use Rattle.std.proofs.lemmas.Nat.{div-add-mod'}
use Rattle.std.proofs.lemmas.Bool.{eqb-true, eq-eqb}
use Rattle.graph.specs.Feeding.{masks_of}
use Rattle.graph.proofs.FeedLemmas.{masks-own, masks-other, width-few}
use Rattle.graph.proofs.feeds.mark_edge.Goals as goal

pub set_bit-requires-clause-index : goal.set_bit-requires-clause-index
set_bit-requires-clause-index c =
    rw c.place.ensures (c.requires.place (eqb-true _ _ (sym c.has.ensures ∙ c.if-has.true)))

-- a vertex by its place
place-is : (y step first : ℕ) → y % step ≡ first → y ≡ y / step * step + first
place-is y step first own =
    let whole : y / step * step + y % step ≡ y = div-add-mod' y step in
    omega (arith, own)

pub returns-then-has-clause-masks : goal.returns-then-has-clause-masks
returns-then-has-clause-masks c = λ es parts target at held.
    let own : c.args.source % c.args.stride.step ≡ c.args.stride.first = eqb-true _ _ (sym c.has.ensures ∙ c.if-has.true) in
    let small : target % parts < 64 = omega (arith, at, c.requires.room, width-few c.args.feeds.now) in
    rw (c.set_bit.ensures.masks, c.place.ensures, at)
    (masks-own c.args.stride.step c.args.stride.first parts c.args.source target (c.args.source / c.args.stride.step) es (masks_of c.args.feeds.now) c.requires.stride small
    (place-is c.args.source c.args.stride.step c.args.stride.first own) (c.requires.place own) held)

pub returns-else-has-clause-masks : goal.returns-else-has-clause-masks
returns-else-has-clause-masks c = λ es parts target at held.
    masks-other c.args.stride.step c.args.stride.first parts c.args.source target es (masks_of c.args.feeds.now) c.requires.stride (λ own. absurd (let no_ : true ≡ false = sym (eq-eqb _ _ own) ∙ sym c.has.ensures ∙ c.if-has.false in cc)) held
