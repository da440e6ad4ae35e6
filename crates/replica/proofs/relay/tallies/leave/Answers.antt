use Rattle.replica.proofs.relay.tallies.leave.Goals as goal

pub returns-in-None : goal.returns-in-None
returns-in-None c = λ shown ahead d is kept. c.mark_all.ensures shown ahead (kept c.in-None.is) d

pub returns-in-Some : goal.returns-in-Some
returns-in-Some c = λ shown ahead d is kept. rw (c.filled-stale.ensures, (rw c.in-Some.is at is)) d
