use Rattle.std.proofs.Common.{◌-◌, length, ap, arith}
use Rattle.std.proofs.lemmas.Result.{err_from_is_err_and}
use Rattle.stored.specs.Reading.{blocks_reading}
use Rattle.stored.proofs.ReadBlockLemmas.{first_all, first_fails, first_more, first_none, memory_fails}
use Rattle.stored.proofs.ReadLemmas.{takes_then}
use Rattle.stored.proofs.SpellingLemmas.{told_ascend}
use Rattle.stored.proofs.read.read_blocks.Goals as goal

pub loop-left-init : goal.loop-left-init
loop-left-init g c = first_none g.R.Read.remaining g.R.CountedRead.failed_calls g.R.CountedRead.sure_calls c.args.vertices c.args.reader.now c.args.hasher.now c.in_ok-builder.builder c.in_ok-builder.ensures

pub returns-in_err-lists-clause-fails : goal.returns-in_err-lists-clause-fails
returns-in_err-lists-clause-fails g c =
    let p = err_from_is_err_and c.from_residual-in_err-lists.result c.from_residual-in_err-lists.ensures.1 in
    rw (p.1, p.2) (first_fails c.args.vertices c.loop-left.left (omega arith) c.loop-left.invariant c.in_err-lists.ensures.fails)

pub returns-in_err-builder-2-clause-fails : goal.returns-in_err-builder-2-clause-fails
returns-in_err-builder-2-clause-fails g c =
    let p = err_from_is_err_and c.from_residual-in_err-builder-2.result c.from_residual-in_err-builder-2.ensures.1 in
    let n = c.args.vertices in
    rw (p.1, p.2) (memory_fails (blocks_reading n n n) (takes_then c.args.reader.now c.loop-left.reader c.read_block.new.reader c.loop-left.invariant.piece c.in_ok-lists.ensures.done.piece c.loop-left.invariant.takes c.in_ok-lists.ensures.done.takes))

pub loop-left-preserved : goal.loop-left-preserved
loop-left-preserved g c =
    let left = c.loop-left.left in
    first_more c.args.vertices left (left - c.len.result) c.loop-left.builder c.in_ok-lists.lists c.in_ok-builder-2.builder (omega arith) c.in_ok-lists.ensures.some c.in_ok-lists.ensures.within (ap (λ k. left - k) c.len.ensures) c.in_ok-builder-2.ensures c.loop-left.invariant c.in_ok-lists.ensures.done

pub returns-clause-done : goal.returns-clause-done
returns-clause-done g c = rw c.finish.ensures (first_all c.args.vertices c.loop-left.left (omega arith) c.loop-left.invariant)

pub returns-clause-many : goal.returns-clause-many
returns-clause-many g c = omega (arith, ap length c.finish.ensures, c.loop-left.invariant.many)

pub returns-clause-ascend : goal.returns-clause-ascend
returns-clause-ascend g c = rw c.finish.ensures (told_ascend c.args.vertices c.loop-left.builder (first_all c.args.vertices c.loop-left.left (omega arith) c.loop-left.invariant))
