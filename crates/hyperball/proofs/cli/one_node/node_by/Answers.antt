use Rattle.std.proofs.Common.{◌≡◌, ap}
use Rattle.std.specs.Prelude.{Err, Result}
use Rattle.std.proofs.lemmas.Result.{err_from_is_err_and}
use Rattle.node.specs.declared.error.ServeNodeError.{ServeNodeError}
use Rattle.hyperball.proofs.cli.one_node.node_by.Goals as goal

same_fault : (x y : ServeNodeError) → ◌≡◌ {A = Result (Unit {0}) ServeNodeError} (Err x) (Err y) → x ≡ y
same_fault x y is = cc

pub returns-in_err-serve_node-clause-fault : goal.returns-in_err-serve_node-clause-fault
returns-in_err-serve_node-clause-fault g c =
    let p = err_from_is_err_and c.from_residual.result c.from_residual.ensures.1 in
    rw (p.1, p.2) (record {
      jobless = λ none. (c.in_err-serve_node.ensures.refused none, c.in_err-serve_node.ensures.jobless none);
      stopped = λ e is other. c.in_err-serve_node.ensures.stopped e (ap Err is) other;
      wanting = λ is. c.in_err-serve_node.ensures.wanting (ap Err is);
      read = λ is. c.in_err-serve_node.ensures.read (ap Err is);
      read_job = λ is. c.in_err-serve_node.ensures.unread (ap Err is);
      counted = λ some job. c.in_err-serve_node.ensures.counted (λ is. some (same_fault _ _ is)) (λ is. job (same_fault _ _ is));
      write = λ is. c.in_err-serve_node.ensures.write (ap Err is);
      written = λ other. c.in_err-serve_node.ensures.written (λ is. other (same_fault _ _ is));
    })
