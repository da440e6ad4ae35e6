use Rattle.std.proofs.Common.{◌+◌, arith}
use Rattle.figures.proofs.PieceLemmas.{bit_few, bit_none, differ_more}
use Rattle.figures.proofs.estimates.few_differing.Goals as goal

pub loop-k-preserved : goal.loop-k-preserved
loop-k-preserved c =
    let next = c.loop-k.count + c.from-count.result in
    let one = bit_few c.differ.result in
    record {
      few = omega arith;
      places = differ_more c.loop-k.places c.loop-k.count next c.loop-k.k c.args.old.now c.args.new.now c.loop-k.invariant.places
          (omega arith) (omega arith) (omega (arith, one)) (λ is. c.differ.ensures (bit_none c.differ.result (omega (arith, is))));
    }
