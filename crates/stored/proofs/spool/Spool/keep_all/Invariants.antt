use Rattle.std.proofs.Common.{take}
use Rattle.std.specs.List.{flat_map}
use Rattle.stored.specs.Spooled.{PassesOn}
use Rattle.stored.proofs.spool.Spool.keep_all.Given as goal

abbrev pub invariant-loop-field : goal.invariant-loop-field
invariant-loop-field g l = PassesOn g.W.Write.contents g.W.CountedWrite.failed_calls g.W.CountedWrite.sure_calls g.W.CountedWrite.room l.initial.writer l.writer l.initial.self l.self (flat_map (λ field. field.now) (take l.field-index l.fields))
