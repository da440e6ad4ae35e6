use Rattle.std.proofs.Common.{◌≡◌, ◌+◌, ap, ap₂, ◌∙◌}
use Rattle.registers.specs.Shape.{piece_at, with_piece}
use Rattle.replica.specs.Pull.{pulled_row}
use Rattle.replica.specs.Walk.{fresh_row}
use Rattle.replica.proofs.WalkLemmas.{piece_put, piece_twice}
use Rattle.replica.proofs.walk.pull_fresh.Goals as goal

pub returns-clause-cells : goal.returns-clause-cells
returns-clause-cells c =
    let pull = c.args.walk.now.pull in
    let own = pull.rows.now in
    let w = own.width in
    let k = c.args.k in
    let i = c.args.from + k in
    let cells = c.args.cells.now in
    let fresh = fresh_row c.args.walk.now.stale own i (piece_at w k cells) in
    let put = c.renew_piece.ensures in
    let stands : piece_at w k c.renew_piece.new.cells ≡ fresh = ap (piece_at w k) put.cells ∙ piece_put w k cells fresh put.wide c.requires.within in
    c.pull_piece.ensures.cells
    ∙ ap₂ (λ r l. with_piece w k (pulled_row pull.part.now own.rows pull.marks.now i r) l) stands put.cells
    ∙ piece_twice w k cells fresh (pulled_row pull.part.now own.rows pull.marks.now i fresh) put.wide c.requires.within
