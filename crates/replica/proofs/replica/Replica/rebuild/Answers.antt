use Rattle.std.proofs.Common.{◌∙◌}
use Rattle.std.proofs.lemmas.Result.{IfOk-weaker}
use Rattle.replica.proofs.Names.{arc_value}
use Rattle.replica.proofs.SavedLemmas.Rebuilt.{rebuilt_same}
use Rattle.replica.proofs.replica.Replica.rebuild.Goals as goal

pub returns-clause-same : goal.returns-clause-same
returns-clause-same c =
    IfOk-weaker c.of-2.result _ _ (λ r made v ok is. made ∙ rebuilt_same (arc_value c.args.part) c.args.saved c.in_ok-stage.stage.state v c.in_ok-stage.ensures.keepable.state ok c.in_ok-stage.ensures.fields is) c.of-2.ensures
