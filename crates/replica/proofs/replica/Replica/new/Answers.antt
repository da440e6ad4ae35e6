use Rattle.std.proofs.lemmas.Result.{IfOk-weaker}
use Rattle.replica.proofs.Names.{arc_value}
use Rattle.replica.proofs.StartLemmas.Start.{starts_empty, starts_stands}
use Rattle.replica.proofs.replica.Replica.new.Goals as goal

pub returns-clause-names : goal.returns-clause-names
returns-clause-names c =
    IfOk-weaker c.with_targets.result _ _ (λ v s r q. starts_empty (arc_value c.args.part) v r q s) c.with_targets.ensures

pub returns-clause-stands : goal.returns-clause-stands
returns-clause-stands c =
    IfOk-weaker c.with_targets.result _ _ (λ v s j p ok below is. starts_stands j p (arc_value c.args.part) v ok below is s) c.with_targets.ensures
