use Rattle.std.proofs.Common.{◌≡◌, sym, subst}
use Rattle.std.proofs.lemmas.Option.{IfSome_then}
use Rattle.ball_model.specs.Job.{Job}
use Rattle.ball_model.specs.Batches.{BatchValue, true_batch}
use Rattle.replica.proofs.KeptLemmas.Kept.{true_named}
use Rattle.state_tests.proofs.of_board.told.Goals as goal

pub returns : goal.returns
returns c =
    let j : Job = c.args.setting.now in
    IfSome_then c.shared.result c.shared.ensures (λ a same. subst (λ (b : BatchValue). b ≡ true_batch j b.name) (sym same) (true_named j _ _ (c.in-Ok.ensures.stands j _ _ c.requires)))
