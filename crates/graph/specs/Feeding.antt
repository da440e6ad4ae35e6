-- Feed masks of some vertices of a graph, over some of its edges.
use Rattle.std.specs.Prelude.{◌≡◌, ℕ, ◌+◌, ◌*◌, ◌%◌, ◌^◌, ◌<◌, List, ◌==◌, ◌&&◌, map, length, slice_index, if◌then◌else◌}
use Rattle.std.specs.Int.{bit_at}
use Rattle.std.specs.List.{list_any, range_with_len}
use Rattle.ball_model.specs.Graph.{Graph}
use Rattle.ball_model.specs.Job.{feed_mask}
use Rattle.graph.specs.declared.masks.Masks.{Masks}
use Rattle.graph.specs.declared.masks.Masks.TheVariants.{Narrow, Wide}

-- the masks as numbers
abbrev pub masks_of : Masks → List ℕ
masks_of (Narrow bytes) = bytes.items
masks_of (Wide words) = words.items

-- how many bits each of them has room for
abbrev pub width_of : Masks → ℕ
width_of (Narrow _) = 8
width_of (Wide _) = 64

-- the edges to vertex x from these
abbrev pub edges_into : ℕ → List ℕ → List (ℕ × ℕ)
edges_into x ys = map (λ y. (y, x)) ys

-- mask i is that of vertex i * step + first: its bit r is set if one of these edges leads from there into partition r
pub record AreMasks (step first parts : ℕ) (edges : List (ℕ × ℕ)) (masks : List ℕ) : Type 0 where
  pub fits : (i : ℕ) → slice_index masks i < 2 ^ 64
  pub bits : (i r : ℕ) → i < length masks → r < 64 →
      bit_at (slice_index masks i) r
      ≡ (if list_any (λ e. (e.0 == i * step + first) && (e.1 % parts == r)) edges then 1 else 0)

-- the feed mask of each vertex of a graph, for a number of partitions
unfoldable pub feeds_of : Graph → ℕ → List ℕ
feeds_of g parts = map (λ x. feed_mask g parts x) (range_with_len 0 g.vertices)
