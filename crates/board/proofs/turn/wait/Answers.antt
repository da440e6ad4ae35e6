use Rattle.std.proofs.Common.{ap, ◌∙◌, arith, Option}
use Rattle.atomic_table.specs.Table.{Me}
use Rattle.ball_model.specs.History.{History}
use Rattle.board.specs.View.{View}
use Rattle.board.proofs.MoveLemmas.{looks_at}
use Rattle.board.proofs.turn.wait.Goals as goal

pub load-serving-requires : goal.load-serving-requires
load-serving-requires g c =
    let i = c.loop.invariant in
    (i.0 ∙ c.requires.table.1, omega (arith, c.requires.table.0.0), looks_at _ _ _ (ap (λ (m : Me (Option History) View). m.0.stage) i.2 ∙ c.requires.waits.0) (ap (λ (m : Me (Option History) View). m.1) i.2 ∙ c.requires.waits.1))
