use Rattle.std.proofs.Common.{◌≡◌, ◌∙◌, arith}
use Rattle.std.specs.List.{flat_map, range_with_len}
use Rattle.graph.proofs.DigestLemmas.{edges_to, edges-next, edges-all}
use Rattle.graph.proofs.feeds.mark_edges.Goals as goal

pub loop-target-preserved : goal.loop-target-preserved
loop-target-preserved c = record {
  size = c.mark_row.ensures.size ∙ c.loop-target.invariant.size;
  room = c.mark_row.ensures.room ∙ c.loop-target.invariant.room;
  masks = λ start.
      let more = c.mark_row.ensures.masks (flat_map (edges_to c.args.graph.now.graph) (range_with_len 0 c.loop-target.target)) (c.loop-target.invariant.masks start) in
      rw edges-next (rw c.preds.ensures.value at more);
}

pub returns-clause-masks : goal.returns-clause-masks
returns-clause-masks c = λ start.
    let at : c.loop-target.target ≡ c.args.graph.now.graph.vertices = omega (arith, c.vertices-target-end.ensures.count, c.loop-target-test.false, c.loop-target.auto.target-end) in
    rw (edges-all c.args.graph.now.graph c.loop-target.target c.vertices-target-end.ensures.graph at) at (c.loop-target.invariant.masks start)
