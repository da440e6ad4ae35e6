use Rattle.std.proofs.Common.{sym}
use Rattle.edgelist.proofs.GivenLemmas.{network-same}
use Rattle.edgelist.proofs.reading.Reading.into_list.Goals as goal

pub returns-clause-graph : goal.returns-clause-graph
returns-clause-graph c = sym (network-same _ _ _ c.in_ok-graph.ensures.graph c.in_ok-graph.ensures.labels)
