use Rattle.ball_model.specs.Job.{Job}
use Rattle.state_tests.proofs.TestLemmas.{stands_on}
use Rattle.state_tests.proofs.of_board.go_on.Goals as goal

pub returns : goal.returns
returns c =
    let j : Job = c.args.setting.now in
    stands_on j _ _ c.args.replica.now _ c.close.result c.requires (c.close.ensures.stands j _ _ c.requires) c.close.ensures.refused
