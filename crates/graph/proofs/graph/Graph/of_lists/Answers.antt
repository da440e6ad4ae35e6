use Rattle.std.proofs.Common.{arith}
use Rattle.graph.proofs.EdgeLemmas.{all-ascend, graph-lists, links-lists}
use Rattle.graph.proofs.OwnLemmas.{preds-lists}
use Rattle.graph.proofs.graph.Graph.of_lists.Goals as goal

pub invariant_of-result : goal.invariant_of-result
invariant_of-result c =
    rw (c.new-2.ensures.items, c.in_ok-new.ensures.ok, c.of-lists.ensures) (links-lists c.args.labels c.args.lists c.len-vertices.result c.requires.ascend c.requires.as_many c.requires.few_labels (omega (arith, c.len-vertices.ensures)))

pub returns-clause-graph : goal.returns-clause-graph
returns-clause-graph c = rw (c.new-2.ensures.items, c.in_ok-new.ensures.ok, c.of-lists.ensures) (graph-lists c.args.lists)

pub returns-clause-preds : goal.returns-clause-preds
returns-clause-preds c = rw (c.new-2.ensures.items, c.in_ok-new.ensures.ok, c.of-lists.ensures) (preds-lists c.args.lists (all-ascend _ c.args.lists c.requires.ascend))
