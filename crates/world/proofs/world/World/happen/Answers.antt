use Rattle.world.proofs.world.World.happen.Goals as goal

pub returns-in-Send : goal.returns-in-Send
returns-in-Send c = λ j. rw c.in-Send.is (c.send.ensures j)

pub returns-in-Deliver : goal.returns-in-Deliver
returns-in-Deliver c = λ j. rw c.in-Deliver.is (c.deliver.ensures j)

pub returns-in-Close : goal.returns-in-Close
returns-in-Close c = λ j. rw c.in-Close.is (c.close.ensures j)

pub returns-in-Keep : goal.returns-in-Keep
returns-in-Keep c = λ j. rw c.in-Keep.is (c.keep.ensures j)

pub returns-in-Restart : goal.returns-in-Restart
returns-in-Restart c = λ j. rw c.in-Restart.is (c.restart.ensures j)

pub returns-in-Copy : goal.returns-in-Copy
returns-in-Copy c = λ j. rw c.in-Copy.is (c.copy.ensures j)

pub returns-in-Recover : goal.returns-in-Recover
returns-in-Recover c = λ j. rw c.in-Recover.is (c.recover.ensures j)

pub returns-in-Show : goal.returns-in-Show
returns-in-Show c = λ j. rw c.in-Show.is (c.show.ensures j)
