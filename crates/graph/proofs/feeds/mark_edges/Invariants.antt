use Rattle.std.proofs.Common.{◌≡◌, [], length}
use Rattle.std.specs.List.{flat_map, range_with_len}
use Rattle.graph.specs.Feeding.{AreMasks, masks_of, width_of}
use Rattle.graph.proofs.DigestLemmas.{edges_to}
use Rattle.graph.proofs.feeds.mark_edges.Given as goal

abbrev pub invariant-loop-target : goal.invariant-loop-target
invariant-loop-target l = record {
  size : length (masks_of l.feeds) ≡ length (masks_of l.initial.feeds);
  room : width_of l.feeds ≡ width_of l.initial.feeds;
  masks : AreMasks l.stride.step l.stride.first l.plan.parts [] (masks_of l.initial.feeds) → AreMasks l.stride.step l.stride.first l.plan.parts (flat_map (edges_to l.graph.graph) (range_with_len 0 l.target)) (masks_of l.feeds);
}
