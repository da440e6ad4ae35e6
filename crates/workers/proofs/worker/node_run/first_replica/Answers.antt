use Rattle.std.proofs.Common.{◌∙◌}
use Rattle.workers.proofs.PathLemmas.{start_held}
use Rattle.workers.proofs.worker.node_run.first_replica.Goals as goal

pub returns-clause-first : goal.returns-clause-first
returns-clause-first c = λ j p job below part.
    let stands = c.in_ok-new.ensures.stands j p job below (c.in_ok-try_clone.ensures ∙ part) in
    record { stands = stands; held = start_held j p _ stands c.in_ok-new.ensures.names }
