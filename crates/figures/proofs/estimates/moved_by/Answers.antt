use Rattle.std.proofs.Common.{arith}
use Rattle.std.specs.Simd.Lanes.{chunk}
use Rattle.std.proofs.lemmas.Simd.{length-chunk}
use Rattle.figures.proofs.SumLemmas.{at_chunk, weight_few}
use Rattle.figures.proofs.estimates.moved_by.Goals as goal

pub overflow_sub-result : goal.overflow_sub-result
overflow_sub-result c = omega (arith, c.sum.ensures, at_chunk c.args.old.now c.args.i, c.requires.within)

pub overflow_add-result : goal.overflow_add-result
overflow_add-result c =
    omega (arith, c.requires.few, c.sum-2.ensures, at_chunk c.args.new.now c.args.i, weight_few (chunk c.args.i 32 c.args.new.now) (omega (arith, length-chunk c.args.i 32 c.args.new.now (omega (arith, c.requires.piece, c.requires.same)))))

pub returns : goal.returns
returns c =
    omega (arith, c.sum.ensures, c.sum-2.ensures, at_chunk c.args.old.now c.args.i, at_chunk c.args.new.now c.args.i, c.requires.within)
