use Rattle.std.proofs.Common.{◌≡◌, ◌∙◌, ◌<◌, [], length, sym, ap, arith, get_or}
use Rattle.std.specs.Simd.Lanes.{chunk, put_chunk}
use Rattle.ball_model.specs.Counter.{max_each}
use Rattle.registers.proofs.LaneLemmas.{changed-lanes}
use Rattle.registers.proofs.RaisedLemmas.{lanes_more, raised-here, raised_by_all, raised_by_more}
use Rattle.registers.proofs.eight.raise_lanes_by.Goals as goal

pub loop-other-init : goal.loop-other-init
loop-other-init c = sym (raised-here _)

pub loop-other-preserved : goal.loop-other-preserved
loop-other-preserved c =
    let i = c.args.i in
    let others = c.args.others.now in
    let k = c.loop-other.other-index in
    let other = (get_or others k (record { ref_ptr = (0, 0); now = [] })).now in
    let lt : k < length others = omega (arith, c.loop-other-test.true, c.told-others) in
    let long : length other ≡ length c.args.row.now = c.requires.same_length k _ lt in
    lanes_more i 32 c.loop-other.new other c.loop-other.auto.new.0 (omega (arith, long, c.requires.within))
    ∙ ap (λ lanes. max_each lanes (chunk i 32 other)) c.loop-other.invariant
    ∙ raised_by_more (λ o. chunk i 32 o.now) (chunk i 32 c.args.row.now) others k _ lt

pub returns : goal.returns
returns c =
    let i = c.args.i in
    let old = chunk i 32 c.args.row.now in
    let all = raised_by_all (λ o. o.now) i 32 old c.args.others.now c.loop-other.other-index (omega (arith, c.loop-other-test.false, c.told-others)) in
    let new = c.loop-other.invariant ∙ all in
    record {
      row = ap (put_chunk i c.args.row.now) new;
      unchanged = rw (sym new) (changed-lanes c.loop-other.new old (omega (arith, c.loop-other.auto.new.0, c.loop-other.auto.old.0)) (omega (arith, c.loop-other.auto.new.0)));
    }
