use Rattle.edgelist.proofs.GuessLemmas.{has-source, has-target, has-no-target}
use Rattle.edgelist.proofs.row.keys_in.Goals as goal

pub returns-in-None-clause-source : goal.returns-in-None-clause-source
returns-in-None-clause-source c = has-source _ _ _ _ c.in-Some.ensures.fields c.of.ensures

pub returns-in-None-clause-target : goal.returns-in-None-clause-target
returns-in-None-clause-target c = has-no-target _ _ _ (rw c.in-None.is at c.in-Some.ensures.fields)

pub returns-in-Some-target-clause-source : goal.returns-in-Some-target-clause-source
returns-in-Some-target-clause-source c = has-source _ _ _ _ c.in-Some.ensures.fields c.of-in-Some-target.ensures

pub returns-in-Some-target-clause-target : goal.returns-in-Some-target-clause-target
returns-in-Some-target-clause-target c = has-target _ _ _ _ (rw c.in-Some-target.is at c.in-Some.ensures.fields) c.of-in-Some-target-2.ensures
