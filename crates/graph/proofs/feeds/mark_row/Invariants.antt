use Rattle.std.proofs.Common.{◌≡◌, ◌++◌, ℕ, List, length}
use Rattle.graph.specs.Feeding.{AreMasks, masks_of, width_of, edges_into}
use Rattle.graph.proofs.feeds.mark_row.Given as goal

abbrev pub invariant-loop-source : goal.invariant-loop-source
invariant-loop-source l = record {
  left : l.fn.sources ≡ l.yielded ++ l.source-iterator;
  size : length (masks_of l.feeds) ≡ length (masks_of l.initial.feeds);
  room : width_of l.feeds ≡ width_of l.initial.feeds;
  masks : (es : List (ℕ × ℕ)) → AreMasks l.stride.step l.stride.first l.plan.parts es (masks_of l.initial.feeds) → AreMasks l.stride.step l.stride.first l.plan.parts (es ++ edges_into l.target l.yielded) (masks_of l.feeds);
}
