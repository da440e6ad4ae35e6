use Rattle.std.proofs.Common.{subst, take}
use Rattle.std.proofs.lemmas.Result.{err_from_is_err_and}
use Rattle.ball_model.specs.World.{run_of}
use Rattle.ball_model.specs.WorldText.{events_text}
use Rattle.world.specs.Shows.{Shows}
use Rattle.world.proofs.TellLemmas.{event-shown, event-stopped, event-told}
use Rattle.ball_model.proofs.StreamLemmas.{written_none}
use Rattle.world.proofs.replay.WatchedReplay.tell_events.Goals as goal

pub loop-event-init : goal.loop-event-init
unfolding events_text run_of
loop-event-init g c = λ j w shows. (written_none g.W.Write.contents g.W.CountedWrite.failed_calls c.args.writer.now, shows)

pub returns-in_err-tell_event : goal.returns-in_err-tell_event
returns-in_err-tell_event g c = λ j w shows.
    let p = err_from_is_err_and c.from_residual.result c.from_residual.ensures.1 in
    let i = c.loop-event.event-index in
    let so_far = c.loop-event.invariant j w shows in
    rw (p.1, p.2) (event-stopped g.W.Write.contents g.W.CountedWrite.failed_calls c.args.writer.now c.loop-event.writer c.tell_event.new.writer j w c.args.events.now i _ c.in_err-tell_event.field-0.0 c.loop-event-test.true so_far.0
    (c.in_err-tell_event.ensures.told j (run_of j w (take i c.args.events.now)) so_far.1))

pub loop-event-preserved : goal.loop-event-preserved
loop-event-preserved g c = λ j w shows.
    let i = c.loop-event.event-index in
    let so_far = c.loop-event.invariant j w shows in
    let here = run_of j w (take i c.args.events.now) in (
      event-told g.W.Write.contents g.W.CountedWrite.failed_calls c.args.writer.now c.loop-event.writer c.tell_event.new.writer j w c.args.events.now i _ c.loop-event-test.true so_far.0 (c.in_ok-tell_event.ensures.told j here so_far.1),
      subst (λ v. Shows j v c.tell_event.new.world) (event-shown j w c.args.events.now i _ c.loop-event-test.true) (c.in_ok-tell_event.ensures.shows j here so_far.1),
    )
