use Rattle.std.proofs.Common.{arith}
use Rattle.std.proofs.lemmas.Result.{err_from_is_err_and}
use Rattle.stored.proofs.ReadLemmas.{fails_full, seal_differs, seal_is, seal_unread}
use Rattle.stored.proofs.read.read_seal.Goals as goal

pub returns-in_err-read_full-clause-fails : goal.returns-in_err-read_full-clause-fails
returns-in_err-read_full-clause-fails g c = λ content is.
    let p = err_from_is_err_and c.from_residual.result c.from_residual.ensures.1 in
    rw (p.1, p.2) (seal_unread content (fails_full 32 _ (omega arith) c.in_err-read_full.ensures.fails))

pub returns-then-ne-clause-fails : goal.returns-then-ne-clause-fails
returns-then-ne-clause-fails g c = λ content is. seal_differs content c.read_full.new.buffer c.args.right.now is c.if-ne.ensures (omega arith) c.in_ok-read_full.ensures.done

pub returns-clause-done : goal.returns-clause-done
returns-clause-done g c = seal_is c.read_full.new.buffer c.args.right.now c.if-ne.ensures c.in_ok-read_full.ensures.done
