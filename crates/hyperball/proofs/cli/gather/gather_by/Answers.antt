use Rattle.std.proofs.Common.{◌≡◌, ap}
use Rattle.std.specs.Prelude.{Err, Result}
use Rattle.std.proofs.lemmas.Result.{err_from_is_err_and}
use Rattle.node.specs.declared.error.GatherError.{GatherError}
use Rattle.hyperball.proofs.cli.gather.gather_by.Goals as goal

same_fault : (x y : GatherError) → ◌≡◌ {A = Result (Unit {0}) GatherError} (Err x) (Err y) → x ≡ y
same_fault x y is = cc

pub returns-in_err-gather-clause-fault : goal.returns-in_err-gather-clause-fault
returns-in_err-gather-clause-fault g c =
    let p = err_from_is_err_and c.from_residual.result c.from_residual.ensures.1 in
    rw (p.1, p.2) (record {
      refused = c.in_err-gather.ensures.refused;
      kept = c.in_err-gather.ensures.kept;
      front = c.in_err-gather.ensures.front;
      read = λ is. c.in_err-gather.ensures.failed (ap Err is);
      read_job = λ is. c.in_err-gather.ensures.unread (ap Err is);
      counted = λ some job. c.in_err-gather.ensures.counted (λ is. some (same_fault _ _ is)) (λ is. job (same_fault _ _ is));
      write = λ is. c.in_err-gather.ensures.write (ap Err is);
      written = λ other. c.in_err-gather.ensures.written (λ is. other (same_fault _ _ is));
    })
