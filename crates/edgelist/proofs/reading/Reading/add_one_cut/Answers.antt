use Rattle.std.proofs.Common.{arith}
use Rattle.edgelist.proofs.FaultLemmas.{answer-one, answer-two}
use Rattle.edgelist.proofs.GuessLemmas.{source-key, target-key}
use Rattle.edgelist.proofs.reading.Reading.add_one_cut.Goals as goal

pub returns-in-None-clause-adds : goal.returns-in-None-clause-adds
returns-in-None-clause-adds c =
    answer-one _ _ _ _ _ _ _ _ _ (omega (arith, c.requires.number)) c.labels.ensures.form (rw c.in-None.is at c.labels.ensures.fields)
    c.add_vertex.ensures.labels c.add_vertex.ensures.edges c.add_vertex.ensures.few

pub returns-in-Some-clause-adds : goal.returns-in-Some-clause-adds
returns-in-Some-clause-adds c =
    answer-two _ _ _ _ _ _ _ _ _ _ (omega (arith, c.requires.number)) c.labels.ensures.form (rw c.in-Some.is at c.labels.ensures.fields)
    c.add_edge.ensures.adds c.add_edge.ensures.few

pub add_vertex-requires : goal.add_vertex-requires
add_vertex-requires c = source-key _ _ _ _ c.labels.ensures.fields c.keys.ensures.source

pub add_edge-requires-clause-source : goal.add_edge-requires-clause-source
add_edge-requires-clause-source c = source-key _ _ _ _ c.labels.ensures.fields c.keys.ensures.source

pub add_edge-requires-clause-target : goal.add_edge-requires-clause-target
add_edge-requires-clause-target c = target-key _ _ _ _ (rw c.in-Some.is at c.labels.ensures.fields) c.keys.ensures.target
