use Rattle.std.proofs.Common.{not, false, slice_index_or, length, [], arith}
use Rattle.replica.proofs.Names.{bytes_eq}
use Rattle.replica.specs.Level.{differences}
use Rattle.replica.proofs.LevelLemmas.Step.{list_is}
use Rattle.replica.proofs.marks.mark_differences.Goals as goal

pub returns : goal.returns
unfolding differences
returns c = list_is (λ i. not (bytes_eq (slice_index_or c.args.new.now.rows i []) (slice_index_or c.args.old.now.rows i []))) c.loop-i.marks false (length c.args.marks.now) c.loop-i.invariant.long (λ k lt. c.loop-i.invariant.done k (omega (arith, c.loop-i-test.false)))
