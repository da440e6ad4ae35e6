use Rattle.world.proofs.node.Node.restart.Goals as goal

pub returns-in-Ok-clause-turned : goal.returns-in-Ok-clause-turned
returns-in-Ok-clause-turned c = λ j. rw (c.put.ensures.answer, c.put.ensures.value) (c.in-Ok.ensures.turned j)
