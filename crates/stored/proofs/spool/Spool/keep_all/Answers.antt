use Rattle.std.proofs.Common.{ap, arith}
use Rattle.std.specs.List.{flat_map}
use Rattle.std.proofs.lemmas.List.{take_all}
use Rattle.ball_model.proofs.CheckLemmas.{on_err}
use Rattle.stored.proofs.SpoolLemmas.{passes_as, passes_none, passes_piece, stops_piece}
use Rattle.stored.proofs.spool.Spool.keep_all.Goals as goal

pub returns-in_err-keep-clause-stops : goal.returns-in_err-keep-clause-stops
returns-in_err-keep-clause-stops g c =
    on_err c.from_residual.result
    (stops_piece g.W.Write.contents g.W.CountedWrite.failed_calls g.W.CountedWrite.sure_calls g.W.CountedWrite.room (λ field. field.now) c.args.fields.now c.loop-field.field-index _ _ _ _ _ _ (omega arith) c.loop-field.invariant c.in_err-keep.ensures.stops)

pub loop-field-preserved : goal.loop-field-preserved
loop-field-preserved g c =
    passes_piece g.W.Write.contents g.W.CountedWrite.failed_calls g.W.CountedWrite.sure_calls g.W.CountedWrite.room (λ field. field.now) c.args.fields.now c.loop-field.field-index _ _ _ _ _ _ _ (omega arith) c.loop-field.invariant c.in_ok-keep.ensures.done

pub loop-field-init : goal.loop-field-init
loop-field-init g c = passes_none g.W.Write.contents g.W.CountedWrite.failed_calls g.W.CountedWrite.sure_calls g.W.CountedWrite.room _ _

pub returns-clause-done : goal.returns-clause-done
returns-clause-done g c = passes_as g.W.Write.contents g.W.CountedWrite.failed_calls g.W.CountedWrite.sure_calls g.W.CountedWrite.room _ _ _ _ _ _ (ap (flat_map (λ field. field.now)) (take_all c.loop-field.field-index c.args.fields.now (omega arith))) c.loop-field.invariant
