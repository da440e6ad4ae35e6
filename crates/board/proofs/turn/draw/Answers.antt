use Rattle.std.proofs.Common.{arith}
use Rattle.board.proofs.MoveLemmas.{draws_at}
use Rattle.board.proofs.turn.draw.Goals as goal

pub fetch_add-requires : goal.fetch_add-requires
fetch_add-requires c = (c.requires.table.1, omega (arith, c.requires.table.0.0), draws_at _ _ _ c.requires.idle.0 c.requires.idle.1 c.requires.idle.2)
