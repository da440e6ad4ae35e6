use Rattle.std.proofs.Common.{arith}
use Rattle.edgelist.proofs.FaultLemmas.{answer-one, answer-two, stop-one, stop-two}
use Rattle.edgelist.proofs.GuessLemmas.{source-key, target-key}
use Rattle.edgelist.proofs.reading.Reading.add.Goals as goal

pub returns-in-None-clause-adds : goal.returns-in-None-clause-adds
returns-in-None-clause-adds c =
    answer-one _ _ _ _ _ _ _ _ _ (omega arith) c.in-Some.ensures.form (rw c.in-None.is at c.in-Some.ensures.fields)
    c.add_vertex.ensures.labels c.add_vertex.ensures.edges c.add_vertex.ensures.few

pub returns-in-None-clause-stops : goal.returns-in-None-clause-stops
returns-in-None-clause-stops c =
    stop-one _ _ _ _ _ _ _ (omega arith) c.in-Some.ensures.form (rw c.in-None.is at c.in-Some.ensures.fields) c.add_vertex.ensures.exceeds

pub returns-in-Some-target-clause-adds : goal.returns-in-Some-target-clause-adds
returns-in-Some-target-clause-adds c =
    answer-two _ _ _ _ _ _ _ _ _ _ (omega arith) c.in-Some.ensures.form (rw c.in-Some-target.is at c.in-Some.ensures.fields)
    c.add_edge.ensures.adds c.add_edge.ensures.few

pub returns-in-Some-target-clause-stops : goal.returns-in-Some-target-clause-stops
returns-in-Some-target-clause-stops c =
    stop-two _ _ _ _ _ _ _ _ (omega arith) c.in-Some.ensures.form (rw c.in-Some-target.is at c.in-Some.ensures.fields) c.add_edge.ensures.exceeds

pub returns-in-None-clause-many : goal.returns-in-None-clause-many
returns-in-None-clause-many c = λ many. absurd (omega arith)

pub returns-in-None-clause-form : goal.returns-in-None-clause-form
returns-in-None-clause-form c = λ few bad. let good = c.in-Some.ensures.form in cc (good, bad)

pub returns-in-None-clause-memory : goal.returns-in-None-clause-memory
returns-in-None-clause-memory c = c.add_vertex.ensures.memory

pub returns-in-Some-target-clause-many : goal.returns-in-Some-target-clause-many
returns-in-Some-target-clause-many c = λ many. absurd (omega arith)

pub returns-in-Some-target-clause-form : goal.returns-in-Some-target-clause-form
returns-in-Some-target-clause-form c = λ few bad. let good = c.in-Some.ensures.form in cc (good, bad)

pub returns-in-Some-target-clause-memory : goal.returns-in-Some-target-clause-memory
returns-in-Some-target-clause-memory c = c.add_edge.ensures.memory

pub add_vertex-requires : goal.add_vertex-requires
add_vertex-requires c = source-key _ _ _ _ c.in-Some.ensures.fields c.source_key.ensures

pub add_edge-requires-clause-source : goal.add_edge-requires-clause-source
add_edge-requires-clause-source c = source-key _ _ _ _ c.in-Some.ensures.fields c.source_key.ensures

pub add_edge-requires-clause-target : goal.add_edge-requires-clause-target
add_edge-requires-clause-target c = target-key _ _ _ _ (rw c.in-Some-target.is at c.in-Some.ensures.fields) c.target_key.ensures
