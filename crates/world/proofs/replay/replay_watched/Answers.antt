use Rattle.std.proofs.Common.{List, sym, subst}
use Rattle.std.proofs.lemmas.Result.{err_from_is_err_and}
use Rattle.ball_model.specs.declared.world.Event.{Event}
use Rattle.ball_model.specs.RunText.{list_in}
use Rattle.world.specs.Replay.{IsReady, replay_of}
use Rattle.world.proofs.ReplayLemmas.{ready-commands, told-appends, told-counted, told-fails, told-some}
use Rattle.world.proofs.replay.replay_watched.Goals as goal

pub returns-in_err-tell_events-clause-failed : goal.returns-in_err-tell_events-clause-failed
returns-in_err-tell_events-clause-failed g c =
    let p = err_from_is_err_and c.from_residual-in_err-tell_events.result c.from_residual-in_err-tell_events.ensures.1 in
    let ready = subst (λ (es : List Event). IsReady (replay_of c.args.options.now) c.args.edges.now (list_in c.args.counted) c.args.script.now es c.in_ok-events.world) (sym c.deref.ensures.value) c.in_ok-events.ensures.ok in
    rw (p.1, p.2) (told-fails g.W.Write.contents g.W.CountedWrite.failed_calls c.args.writer.now c.tell_events.new.writer (replay_of c.args.options.now) c.args.edges.now (list_in c.args.counted) c.args.script.now c.deref.result.now c.in_ok-events.world c.in_err-tell_events.field-0.0 ready c.in_err-tell_events.ensures)

pub returns-clause-ok : goal.returns-clause-ok
returns-clause-ok g c =
    let ready = subst (λ (es : List Event). IsReady (replay_of c.args.options.now) c.args.edges.now (list_in c.args.counted) c.args.script.now es c.in_ok-events.world) (sym c.deref.ensures.value) c.in_ok-events.ensures.ok in
    told-appends g.W.Write.contents g.W.CountedWrite.failed_calls c.args.writer.now c.tell_events.new.writer (replay_of c.args.options.now) c.args.edges.now (list_in c.args.counted) c.args.script.now c.deref.result.now c.in_ok-events.world ready c.in_ok-tell_events.ensures

pub returns-clause-some : goal.returns-clause-some
returns-clause-some g c =
    let ready = subst (λ (es : List Event). IsReady (replay_of c.args.options.now) c.args.edges.now (list_in c.args.counted) c.args.script.now es c.in_ok-events.world) (sym c.deref.ensures.value) c.in_ok-events.ensures.ok in
    told-some g.W.Write.contents g.W.CountedWrite.failed_calls c.args.writer.now c.tell_events.new.writer (replay_of c.args.options.now) c.args.edges.now (list_in c.args.counted) c.args.script.now c.deref.result.now c.in_ok-events.world ready c.in_ok-tell_events.ensures

pub returns-clause-counted : goal.returns-clause-counted
returns-clause-counted g c =
    let ready = subst (λ (es : List Event). IsReady (replay_of c.args.options.now) c.args.edges.now (list_in c.args.counted) c.args.script.now es c.in_ok-events.world) (sym c.deref.ensures.value) c.in_ok-events.ensures.ok in
    told-counted g.W.Write.contents g.W.CountedWrite.failed_calls c.args.writer.now c.tell_events.new.writer (replay_of c.args.options.now) c.args.edges.now (list_in c.args.counted) c.args.script.now c.deref.result.now c.in_ok-events.world ready c.in_ok-tell_events.ensures

pub returns-clause-edges : goal.returns-clause-edges
returns-clause-edges g c = c.in_ok-events.ensures.ok.listed

pub returns-clause-commands : goal.returns-clause-commands
returns-clause-commands g c = ready-commands _ _ _ _ _ _ c.in_ok-events.ensures.ok
