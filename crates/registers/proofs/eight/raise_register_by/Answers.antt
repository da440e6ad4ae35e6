use Rattle.std.proofs.Common.{◌≡◌, ◌∙◌, ◌<◌, ◌∷◌, [], ℕ, length, sym, ap, arith, get_or}
use Rattle.std.specs.Simd.Lanes.{chunk}
use Rattle.registers.proofs.RaisedLemmas.{chunk-one, raised-here, raised_by_all, raised_by_more, register_more, register_raised}
use Rattle.registers.proofs.eight.raise_register_by.Goals as goal

pub loop-other-init : goal.loop-other-init
loop-other-init c = sym (chunk-one c.args.i c.args.row.now (omega (arith, c.requires.within))) ∙ sym (raised-here _)

pub loop-other-preserved : goal.loop-other-preserved
loop-other-preserved c =
    let i = c.args.i in
    let others = c.args.others.now in
    let k = c.loop-other.other-index in
    let other = (get_or others k (record { ref_ptr = (0, 0); now = [] })).now in
    let lt : k < length others = omega (arith, c.loop-other-test.true, c.told-others) in
    let long : length other ≡ length c.args.row.now = c.requires.same_length k _ lt in
    ap (λ (n : ℕ). n ∷ []) c.max-most.ensures
    ∙ register_more i c.loop-other.most _ other (omega (arith, long, c.requires.within)) c.loop-other.invariant
    ∙ raised_by_more (λ o. chunk i 1 o.now) (chunk i 1 c.args.row.now) others k _ lt

pub returns : goal.returns
returns c =
    let i = c.args.i in
    let row = c.args.row.now in
    let all = raised_by_all (λ o. o.now) i 1 (chunk i 1 row) c.args.others.now c.loop-other.other-index (omega (arith, c.loop-other-test.false, c.told-others)) in
    register_raised i c.loop-other.most row _ (omega (arith, c.requires.within)) (c.loop-other.invariant ∙ all)
