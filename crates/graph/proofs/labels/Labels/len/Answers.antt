use Rattle.std.proofs.Common.{List, ℕ, length, arith, ap}
use Rattle.graph.specs.Lists.{lists_between}
use Rattle.graph.proofs.CutLemmas.{some-start, length-cut}
use Rattle.graph.proofs.TextLemmas.{length-shortened}
use Rattle.graph.proofs.labels.Labels.len.Goals as goal

pub overflow_sub-result : goal.overflow_sub-result
overflow_sub-result c = omega (arith, c.len.ensures, some-start _ _ c.self.invariant)

pub returns : goal.returns
returns c =
    omega (arith, c.len.ensures, length-cut c.self.inside.bytes.items c.self.inside.starts _ c.self.invariant, length-shortened c.self.inside.gap (lists_between c.self.inside.bytes.items c.self.inside.starts), ap (length {A = List ℕ}) c.self.view_is)
