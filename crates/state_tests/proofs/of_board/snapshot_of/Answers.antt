use Rattle.std.proofs.Common.{sym, ◌∙◌, subst}
use Rattle.std.proofs.lemmas.Option.{IfSome_then}
use Rattle.ball_model.specs.Job.{Job}
use Rattle.ball_model.specs.State.{Stands}
use Rattle.state_tests.proofs.of_board.snapshot_of.Goals as goal

pub returns-clause-snapshot : goal.returns-clause-snapshot
returns-clause-snapshot c =
    let j : Job = c.args.setting.now in
    IfSome_then c.shared.result c.shared.ensures (λ a same. subst (Stands j) (sym (same ∙ c.in-Ok.ensures.same)) c.requires)
