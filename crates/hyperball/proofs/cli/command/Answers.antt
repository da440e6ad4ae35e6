use Rattle.std.proofs.lemmas.Result.{IfOk-weaker}
use Rattle.hyperball.specs.CommandLine.{Parsers, gather_app, hyperball_app, new_hyperball, node_app, replay_app, run_app}
use Rattle.hyperball.proofs.cli.command.Goals as goal

pub returns : goal.returns
unfolding hyperball_app
returns c =
    let p : Parsers = record { estimates = c.estimates-ways.result; delimiters = c.delimiters-between.result } in
    let run = c.in_ok-top.ensures new_hyperball (run_app p) c.bare_command.ensures c.run_command.ensures in
    let replay = c.in_ok-top-2.ensures _ (replay_app p) run c.replay_command.ensures in
    let node = c.in_ok-top-3.ensures _ (node_app p) replay c.node_command.ensures in
    IfOk-weaker c.add_command-4.result _ _ (λ m h. (p, (c.estimates-ways.ensures, c.delimiters-between.ensures), h))
    (c.add_command-4.ensures _ (gather_app p) node c.gather_command.ensures)
