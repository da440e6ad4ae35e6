use Rattle.std.proofs.Common.{◌≡◌, ◌-◌, arith}
use Rattle.std.proofs.lemmas.Result.{err_from_is_err_and}
use Rattle.checkpoint.specs.Reading.{needs}
use Rattle.checkpoint.proofs.ReaderLemmas.{grows_none, needs_then, needs_fails, needs-ok}
use Rattle.checkpoint.proofs.stream.read_more.Goals as goal

pub loop-left-init : goal.loop-left-init
loop-left-init g c =
    let z : c.args.count - c.args.count ≡ 0 = omega arith in
    record {
      within = omega arith;
      so_far = rw z (grows_none g.R.Read.remaining g.R.CountedRead.failed_calls g.R.CountedRead.sure_calls _ _ (needs 0) 0 (λ rest. needs-ok 0 rest (omega arith)));
    }

pub returns-in_err-read_piece-clause-fails : goal.returns-in_err-read_piece-clause-fails
returns-in_err-read_piece-clause-fails g c =
    let p = err_from_is_err_and c.from_residual.result c.from_residual.ensures.1 in
    rw (p.1, p.2) (needs_fails c.args.count (omega arith) c.loop-left.invariant.so_far c.in_err-read_piece.ensures.fails)

pub loop-left-preserved : goal.loop-left-preserved
loop-left-preserved g c = record {
  within = omega arith;
  so_far = needs_then (c.args.count - (c.loop-left.left - c.min-piece.result)) (omega arith) c.loop-left.invariant.so_far c.in_ok-read_piece.ensures.done;
}
