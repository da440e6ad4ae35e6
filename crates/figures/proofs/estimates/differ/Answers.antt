use Rattle.std.proofs.Common.{arith}
use Rattle.std.specs.Simd.Lanes.{chunk}
use Rattle.std.proofs.lemmas.Simd.{length-chunk}
use Rattle.registers.proofs.LaneLemmas.{changed-lanes}
use Rattle.figures.proofs.estimates.differ.Goals as goal

pub returns : goal.returns
returns c =
    let a = length-chunk c.args.i 32 c.args.old.now (omega arith) in
    let b = length-chunk c.args.i 32 c.args.new.now (omega (arith, c.requires.same)) in
    (changed-lanes (chunk c.args.i 32 c.args.old.now) (chunk c.args.i 32 c.args.new.now) (omega arith) (omega arith)).0
