use Rattle.std.proofs.Common.{◌≡◌, Ok, rules}
use Rattle.std.specs.Prelude.{Result}
use Rattle.clap.specs.Words.{subcommand_rows_of}
use Rattle.hyperball.specs.Nodes.{IsGatherOf, IsNodeOf}
use Rattle.hyperball.specs.Replaying.{IsReplayOf}
use Rattle.hyperball.specs.declared.cli.Subcommand.{Subcommand}
use Rattle.hyperball.specs.declared.cli.Subcommand.TheVariants as subcommand
use Rattle.hyperball.specs.declared.cli.WordsError.{WordsError}
use Rattle.hyperball.specs.declared.cli.gather.GatherArgs.{GatherArgs}
use Rattle.hyperball.specs.declared.cli.one_node.NodeArgs.{NodeArgs}
use Rattle.hyperball.specs.declared.cli.replay.ReplayArgs.{ReplayArgs}
use Rattle.hyperball.proofs.SubcommandLemmas.{each_answer}
use Rattle.hyperball.proofs.cli.read_subcommand.Goals as goal

pub returns-in-Ok-clause-asked : goal.returns-in-Ok-clause-asked
returns-in-Ok-clause-asked c =
    let r : Result Subcommand WordsError = Ok (subcommand.Run c.in-Ok.args) in
    let replay : (w : ReplayArgs) → IsReplayOf (subcommand_rows_of c.args.matches.now) w → r ≡ Ok (subcommand.Replay w) = λ w is. search rules in
    let node : (w : NodeArgs) → IsNodeOf (subcommand_rows_of c.args.matches.now) w → r ≡ Ok (subcommand.Node w) = λ w is. search rules in
    let gather : (w : GatherArgs) → IsGatherOf (subcommand_rows_of c.args.matches.now) w → r ≡ Ok (subcommand.Gather w) = λ w is. search rules in
    each_answer (subcommand_rows_of c.args.matches.now) r (λ w is. c.in-Ok.ensures.run w is) replay node gather
