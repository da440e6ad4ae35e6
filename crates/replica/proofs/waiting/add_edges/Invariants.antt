use Rattle.std.proofs.Common.{take}
use Rattle.replica.specs.Waiting.{AddsEdges}
use Rattle.replica.proofs.waiting.add_edges.Given as goal

abbrev pub invariant-loop-place : goal.invariant-loop-place
invariant-loop-place l = AddsEdges l.rows l.edges.i (take l.place-index l.edges.places.now) l.initial.waiting.items l.waiting.items l.initial.accumulated l.accumulated l.initial.touched l.touched
