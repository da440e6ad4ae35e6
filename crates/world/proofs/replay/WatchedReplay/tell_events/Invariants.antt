use Rattle.std.proofs.Common.{take}
use Rattle.ball_model.specs.Job.{Job}
use Rattle.ball_model.specs.World.{World, run_of}
use Rattle.ball_model.specs.WorldText.{events_text}
use Rattle.world.specs.Shows.{Shows}
use Rattle.ball_model.specs.Streams.{TextWritten}
use Rattle.world.proofs.replay.WatchedReplay.tell_events.Given as goal

-- the first events happened, and their text was written
abbrev pub invariant-loop-event : goal.invariant-loop-event
invariant-loop-event g l =
    (j : Job) (w : World) → Shows j w l.initial.world →
    TextWritten g.W.Write.contents g.W.CountedWrite.failed_calls l.initial.writer l.writer (events_text j w (take l.event-index l.events))
    × Shows j (run_of j w (take l.event-index l.events)) l.world
