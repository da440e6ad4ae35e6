-- Batches: what a partition sends another for a superstep (Pregel 2010), and how each is spelled.
use Rattle.std.specs.Prelude.{◌≡◌, ℕ, ◌%◌, ◌^◌, ◌<◌, ◌≤◌, ◌==◌, ◌&&◌, List, [], ◌∷◌, ◌++◌, map, length, Option, None, Some, if◌then◌else◌, codes}
use Rattle.std.specs.List.{filter, count_by, All, flat_map}
use Rattle.std.specs.List.Sorted.{IsStrictlyIncreasing}
use Rattle.std.specs.Int.{w16, w32, to_be_bytes}
use Rattle.ball_model.specs.declared.names.BatchName.{BatchName}
use Rattle.ball_model.specs.Counter.{ball_counter}
use Rattle.ball_model.specs.Change.{changed_at}
use Rattle.ball_model.specs.PlanValue.{PlanValue, IsPlan, mixing_of, vertices_of, part_size}
use Rattle.ball_model.specs.Job.{Job, feeds_into}

-- what the source of a name sends its target for the superstep: the number of the source's changed vertices, and rows
-- of a vertex and its registers
pub record BatchValue : Type 0 where
  pub plan : PlanValue
  pub name : BatchName
  pub changed : ℕ
  pub rows : List (ℕ × List ℕ)

-- the registers of vertex z, if the rows have it
unfoldable pub find_row : List (ℕ × List ℕ) → ℕ → Option (List ℕ)
find_row [] z = None
find_row (row ∷ rest) z = if row.0 == z then Some row.1 else find_row rest z

-- the vertices of the rows
abbrev pub ids_of : List (ℕ × List ℕ) → List ℕ
ids_of rows = map (λ row. row.0) rows

-- the registers of the rows
abbrev pub registers_of : List (ℕ × List ℕ) → List (List ℕ)
registers_of rows = map (λ row. row.1) rows

-- the vertices of partition q that are changed at s and have an edge into p, ascending
unfoldable pub sent_vertices : Job → ℕ → ℕ → ℕ → List ℕ
sent_vertices j s q p =
    filter (λ y. changed_at (mixing_of j.plan) j.graph y s && feeds_into j.graph j.plan.parts y p)
    (vertices_of j.graph.vertices j.plan.parts q)

-- the number of all vertices of partition q that are changed at s
unfoldable pub changed_count : Job → ℕ → ℕ → ℕ
changed_count j s q =
    count_by (λ y. changed_at (mixing_of j.plan) j.graph y s)
    (vertices_of j.graph.vertices j.plan.parts q)

-- the true batch of a name: a row for each vertex that the source sends, with its counter at the superstep
unfoldable pub true_batch : Job → BatchName → BatchValue
true_batch j name = record {
  plan = j.plan;
  name = name;
  changed = changed_count j name.superstep name.source;
  rows = map (λ y. (y, ball_counter (mixing_of j.plan) j.graph y name.superstep))
      (sent_vertices j name.superstep name.source name.target);
}

-- the batch is the true one of its name
abbrev pub IsTrueBatch : Job → BatchValue → Type 0
IsTrueBatch j b = b ≡ true_batch j b.name

-- a row that a batch of the source may have: 2^log2m registers of at most 33, of a vertex of the source
pub record IsRow (plan : PlanValue) (source : ℕ) (row : ℕ × List ℕ) : Type 0 where
  pub vertex : row.0 < plan.vertices
  pub own : row.0 % plan.parts ≡ source
  pub width : length row.1 ≡ 2 ^ plan.log2m
  pub ranks : All (λ r. r ≤ 33) row.1

-- the limits that every batch keeps, a true one or not
pub record IsBatch (b : BatchValue) : Type 0 where
  pub plan : IsPlan b.plan
  pub superstep : b.name.superstep ≤ b.plan.limit
  pub source : b.name.source < b.plan.parts
  pub target : b.name.target < b.plan.parts
  pub changed : b.changed ≤ part_size b.plan.vertices b.plan.parts b.name.source
  pub count : length b.rows ≤ b.changed
  pub ascending : IsStrictlyIncreasing (ids_of b.rows)
  pub rows : All (IsRow b.plan b.name.source) b.rows

-- a row as bytes: its vertex as four bytes, most significant first, and its registers
abbrev pub row_bytes : ℕ × List ℕ → List ℕ
row_bytes row = to_be_bytes w32 row.0 ++ row.1

-- the fixed fields of a batch as bytes, version 1: numbers of two and of four bytes, most significant first
unfoldable pub header_bytes : BatchValue → List ℕ
header_bytes b =
    codes "HBBT" ++ (1 ∷ []) ++ (b.plan.log2m ∷ [])
    ++ to_be_bytes w32 b.name.superstep
    ++ to_be_bytes w16 b.name.source ++ to_be_bytes w16 b.name.target
    ++ b.plan.job ++ to_be_bytes w32 b.changed
    ++ to_be_bytes w32 (length b.rows)

-- the spelling of a batch: the fixed fields, and each row
unfoldable pub batch_bytes : BatchValue → List ℕ
batch_bytes b = header_bytes b ++ flat_map row_bytes b.rows
