-- Jobs, and what a partition has of its job (Pregel 2010).
use Rattle.std.specs.Prelude.{◌≡◌, ℕ, ◌%◌, ◌^◌, ◌<◌, Bool, ◌==◌, ◌&&◌, List, [], ◌∷◌, ◌++◌, map, length, codes, if◌then◌else◌}
use Rattle.std.specs.List.{list_any, range_with_len, sum_by, flat_map, All}
use Rattle.std.specs.Int.{w16, w32, w64, to_be_bytes}
use Rattle.sha2.specs.Sha256.{sha256}
use Rattle.ball_model.specs.Graph.{Graph, IsGraph, preds_of, is_counted, counts_all}
use Rattle.ball_model.specs.PlanValue.{PlanValue, IsPlan, vertices_of, part_size}

-- a graph, and the plan of a run over it
pub record Job : Type 0 where
  pub graph : Graph
  pub plan : PlanValue

abbrev pub job_of : Graph → PlanValue → Job
job_of graph plan = record { graph = graph; plan = plan }

-- an edge as bytes: its source and its target, each as four bytes, most significant first
abbrev pub edge_bytes : ℕ × ℕ → List ℕ
edge_bytes e = to_be_bytes w32 e.0 ++ to_be_bytes w32 e.1

-- what digests of both forms have: the fields of the plan, the numbers of vertices and of edges, and each edge
unfoldable pub job_bytes : PlanValue → Graph → List ℕ
job_bytes plan g =
    (plan.log2m ∷ []) ++ to_be_bytes w64 plan.seed ++ to_be_bytes w16 plan.parts
    ++ to_be_bytes w32 plan.limit
    ++ to_be_bytes w32 g.vertices ++ to_be_bytes w64 (length g.edges) ++ flat_map edge_bytes g.edges

-- the number of counted vertices, and each of them
unfoldable pub counted_bytes : Graph → List ℕ
counted_bytes g = to_be_bytes w32 (length g.counted) ++ flat_map (λ v. to_be_bytes w32 v) g.counted

-- a magic with the number of the first form or of the second: of a job with raw estimates, and of one with corrected
-- ones
abbrev pub first_magic : Bool → List ℕ
first_magic corrected = if corrected then codes "HBC1" else codes "HBJ1"

abbrev pub second_magic : Bool → List ℕ
second_magic corrected = if corrected then codes "HBC2" else codes "HBJ2"

-- what the job digest is made of: the first form if every vertex is counted, else the second, with the counted ones
unfoldable pub digest_bytes : PlanValue → Graph → List ℕ
digest_bytes plan g =
    if counts_all g then first_magic plan.corrected ++ job_bytes plan g
    else second_magic plan.corrected ++ job_bytes plan g ++ counted_bytes g

-- the job digest: the SHA-256 of these bytes
unfoldable pub digest_of : PlanValue → Graph → List ℕ
digest_of plan g = sha256 (digest_bytes plan g)

-- the plan is of the graph: it has its number of vertices and its digest
pub record IsJob (j : Job) : Type 0 where
  pub graph : IsGraph j.graph
  pub plan : IsPlan j.plan
  pub vertices : j.plan.vertices ≡ j.graph.vertices
  pub digest : j.plan.job ≡ digest_of j.plan j.graph

-- y has an edge into partition r
unfoldable pub feeds_into : Graph → ℕ → ℕ → ℕ → Bool
feeds_into g parts y r = list_any (λ e. (e.0 == y) && (e.1 % parts == r)) g.edges

-- the feed mask of y: bit r is set if y has an edge into partition r
unfoldable pub feed_mask : Graph → ℕ → ℕ → ℕ
feed_mask g parts y =
    sum_by (λ r. if feeds_into g parts y r then 2 ^ r else 0) (range_with_len 0 parts)

-- what a partition has of its job: its plan and number, and of each of its vertices the predecessors, the feed mask and
-- whether it is counted
pub record PartValue : Type 0 where
  pub plan : PlanValue
  pub number : ℕ
  pub preds : List (List ℕ)
  pub feeds : List ℕ
  pub counted : List Bool

-- partition p of a job
unfoldable pub part_of : Job → ℕ → PartValue
part_of j p = record {
  plan = j.plan;
  number = p;
  preds = map (λ x. preds_of j.graph x) (vertices_of j.graph.vertices j.plan.parts p);
  feeds = map (λ x. feed_mask j.graph j.plan.parts x) (vertices_of j.graph.vertices j.plan.parts p);
  counted = map (λ x. is_counted j.graph x) (vertices_of j.graph.vertices j.plan.parts p);
}

-- the limits that every part keeps
pub record IsPart (v : PartValue) : Type 0 where
  pub plan : IsPlan v.plan
  pub number : v.number < v.plan.parts
  pub preds : length v.preds ≡ part_size v.plan.vertices v.plan.parts v.number
  pub feeds : length v.feeds ≡ part_size v.plan.vertices v.plan.parts v.number
  pub counted : length v.counted ≡ part_size v.plan.vertices v.plan.parts v.number
  pub below : All (λ zs. All (λ z. z < v.plan.vertices) zs) v.preds
