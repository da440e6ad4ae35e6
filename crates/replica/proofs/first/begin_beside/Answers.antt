use Rattle.std.proofs.Common.{ap}
use Rattle.replica.proofs.Names.{Table}
use Rattle.replica.proofs.StartLemmas.Start.{first_counters}
use Rattle.replica.proofs.first.begin_beside.Goals as goal

pub weigh-requires-clause-rows : goal.weigh-requires-clause-rows
weigh-requires-clause-rows c = rw (c.plan.ensures, ap (λ (t : Table). t.rows) c.in_ok-rows.ensures) (first_counters c.args.part.now c.limits.ensures.part.plan)
