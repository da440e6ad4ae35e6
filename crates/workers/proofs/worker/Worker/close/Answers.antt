use Rattle.workers.proofs.PathLemmas.{held_closed}
use Rattle.workers.proofs.worker.Worker.close.Goals as goal

pub returns-in-Ok-clause-held : goal.returns-in-Ok-clause-held
returns-in-Ok-clause-held g c = λ j p t stands. held_closed j p t c.close_by.result c.args.replica.now c.close_by.new.self stands c.limits.ensures.state (c.close_by.ensures.step j p)

pub returns-in-Err-clause-held : goal.returns-in-Err-clause-held
returns-in-Err-clause-held g c = λ j p t stands. held_closed j p t c.close_by.result c.args.replica.now c.close_by.new.self stands c.limits.ensures.state (c.close_by.ensures.step j p)
