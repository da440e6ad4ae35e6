use Rattle.workers.specs.Options.{orders_for}
use Rattle.workers.proofs.NodeLemmas.{never_ran}
use Rattle.workers.proofs.JobLemmas.{assigned_end}
use Rattle.workers.proofs.nodes.end_of.Goals as goal

pub returns-in-Some : goal.returns-in-Some
returns-in-Some g c = λ j o p k below is. let one = rw c.in-Some.is at is in assigned_end j o p k c.in-Some.child.promise c.join.result one c.join.ensures

pub returns-in-None : goal.returns-in-None
returns-in-None g c = λ j o p k below _. record { orders = record { done = tt; lost = tt; alone = λ _. tt; alone_fits = λ _ _ _. λ is. absurd (cc) }; ran = never_ran j o.entries p (orders_for o p k) below }
