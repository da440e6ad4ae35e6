use Rattle.std.proofs.Common.{◌≡◌, true, false, sym, ap, ◌∙◌, ◌+◌, rules}
use Rattle.registers.specs.Shape.{piece_at, with_piece}
use Rattle.replica.specs.Walk.{fresh_row}
use Rattle.replica.proofs.WalkLemmas.{fresh_same, piece_stays}
use Rattle.replica.proofs.walk.renew_piece.Goals as goal
use Rattle.replica.proofs.walk.renew_piece.Goals.{else-walk-via-then-walk+else-marks-from, else-walk-via-else-walk}

pub returns-else-walk-clause-cells : goal.returns-else-walk-clause-cells
returns-else-walk-clause-cells c =
    let walk = c.args.walk.now in
    let own = walk.pull.rows.now in
    let w = own.width in
    let i = c.args.from + c.args.k in
    let piece = piece_at w c.args.k c.args.cells.now in
    let same : fresh_row walk.stale own i piece ≡ piece = elim c.else-walk.branch [
      | else-walk-via-then-walk+else-marks-from e ↦ fresh_same walk.stale own walk.pull.marks.now i piece c.requires.piece (λ on. search rules)
      | else-walk-via-else-walk e ↦ fresh_same walk.stale own walk.pull.marks.now i piece c.requires.piece (λ on. absurd (let bad : true ≡ false = sym on ∙ e.if-walk.false in cc))
    ] in
    sym (piece_stays w c.args.k c.args.cells.now) ∙ ap (λ row. with_piece w c.args.k row c.args.cells.now) (sym same)
