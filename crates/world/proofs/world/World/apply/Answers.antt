use Rattle.world.proofs.ApplyLemmas.{some_job}
use Rattle.world.proofs.world.World.apply.Goals as goal

pub returns-clause-answer : goal.returns-clause-answer
returns-clause-answer c = λ j w. (c.happen.ensures j).answer w

pub returns-clause-shows : goal.returns-clause-shows
returns-clause-shows c = λ j w. (c.happen.ensures j).shows w

pub returns-clause-memory : goal.returns-clause-memory
returns-clause-memory c = λ j w. (c.happen.ensures j).memory w

pub returns-clause-takes : goal.returns-clause-takes
returns-clause-takes c = (c.happen.ensures some_job).takes

pub returns-clause-refused : goal.returns-clause-refused
returns-clause-refused c = (c.happen.ensures some_job).refused
