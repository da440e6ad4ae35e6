use Rattle.std.proofs.Common.{◌∙◌}
use Rattle.std.proofs.lemmas.Result.{IfOk-weaker}
use Rattle.edgelist.proofs.numbering.Numbering.into_labels.Goals as goal

pub returns : goal.returns
returns c = IfOk-weaker c.of.result _ _ (λ labels are. rw c.as_slice.ensures.keys at are ∙ c.self.view_is) c.of.ensures
