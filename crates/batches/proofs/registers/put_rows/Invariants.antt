use Rattle.std.proofs.Common.{◌≡◌, ◌*◌, ◌++◌, drop}
use Rattle.std.specs.List.{flat_map}
use Rattle.ball_model.specs.Batches.{row_bytes}
use Rattle.batches.specs.Kept.{paired_rows}
use Rattle.batches.specs.Held.{flat_of}
use Rattle.batches.proofs.registers.put_rows.Given as goal

abbrev pub invariant-loop-i : goal.invariant-loop-i
invariant-loop-i l =
    l.out.items ++ flat_map row_bytes (paired_rows l.width (drop l.i l.ids) (drop (l.i * l.width) (flat_of l.width l.registers)))
    ≡ l.initial.out.items ++ flat_map row_bytes (paired_rows l.width l.ids (flat_of l.width l.registers))
