use Rattle.std.proofs.Common.{◌≡◌, ◌-◌, arith}
use Rattle.std.proofs.lemmas.Result.{err_from_is_err_and}
use Rattle.stored.proofs.ReadLemmas.{bytes_fail, bytes_more, bytes_none, tells_full}
use Rattle.stored.proofs.read.read_bytes.Goals as goal

pub loop-left-init : goal.loop-left-init
loop-left-init g c =
    let z : c.args.count - c.args.count ≡ 0 = omega arith in
    record {
      within = omega arith;
      so_far = rw (z, c.new-kept.ensures.items) (bytes_none g.R.Read.remaining g.R.CountedRead.failed_calls g.R.CountedRead.sure_calls _ _);
    }

pub returns-in_err-read_piece-clause-fails : goal.returns-in_err-read_piece-clause-fails
returns-in_err-read_piece-clause-fails g c =
    let p = err_from_is_err_and c.from_residual.result c.from_residual.ensures.1 in
    rw (p.1, p.2) (bytes_fail {c = c.read_piece.new.reader} (c.args.count - c.loop-left.left) _ c.args.count (omega arith) c.loop-left.invariant.so_far c.in_err-read_piece.ensures.fails)

pub loop-left-preserved : goal.loop-left-preserved
loop-left-preserved g c = record {
  within = omega arith;
  so_far = bytes_more (c.args.count - c.loop-left.left) _ (c.args.count - (c.loop-left.left - c.min-piece.result)) (omega arith) c.loop-left.invariant.so_far c.in_ok-read_piece.ensures.done;
}

pub returns-clause-done : goal.returns-clause-done
returns-clause-done g c = tells_full c.args.count (c.args.count - c.loop-left.left) (omega arith) c.loop-left.invariant.so_far
