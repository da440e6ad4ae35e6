use Rattle.std.proofs.Common.{◌∙◌}
use Rattle.gapcode.proofs.IndexLemmas.{finished}
use Rattle.gapcode.proofs.lists.ListsBuilder.finish.Goals as goal

pub invariant_of-result : goal.invariant_of-result
invariant_of-result c = let b = c.self.inside in let p = c.finish.ensures in (finished b.writer c.finish.result.items b.places p.0 c.self.invariant p.1 p.2).0

pub returns : goal.returns
returns c = let b = c.self.inside in let p = c.finish.ensures in (finished b.writer c.finish.result.items b.places p.0 c.self.invariant p.1 p.2).1 ∙ c.self.view_is
