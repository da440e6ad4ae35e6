-- The plan of a job.
use Rattle.std.specs.Prelude.{ℕ, Bool, true, false, List, [], ◌++◌, map}
use Rattle.std.specs.List.{flat_map}
use Rattle.std.specs.Int.{w32, to_be_bytes}
use Rattle.sha2.specs.Hashers.{Holds256}
use Rattle.sha2.specs.declared.Sha256.{Sha256}
use Rattle.ball_model.specs.Graph.{Graph}
use Rattle.ball_model.specs.PlanValue.{PlanValue}
use Rattle.ball_model.specs.Job.{edge_bytes, digest_of}
use Rattle.ball_model.specs.RunText.{Numbers}
use Rattle.ball_model.specs.declared.plan.Estimate.{Estimate}
use Rattle.ball_model.specs.declared.plan.Estimate.TheVariants.{Raw, Corrected}

-- the numbers of a usual plan with raw estimates
abbrev pub numbers_of : ℕ → ℕ → ℕ → ℕ → Numbers
numbers_of log2m seed parts limit = record {
  log2m = log2m;
  seed = seed;
  parts = parts;
  limit = limit;
  corrected = false;
  large = false;
}

-- the plan of these numbers over a graph, but for its digest
abbrev pub bare_plan : Numbers → Graph → PlanValue
bare_plan n g = record {
  log2m = n.log2m;
  seed = n.seed;
  parts = n.parts;
  limit = n.limit;
  vertices = g.vertices;
  corrected = n.corrected;
  job = [];
}

-- a plan with the digest of the job over this graph
abbrev pub signed : Graph → PlanValue → PlanValue
signed g plan = record plan { job = digest_of plan g }

-- the estimates are corrected for small sets
abbrev pub is_corrected : Estimate → Bool
is_corrected Raw = false
is_corrected Corrected = true

-- the numbers of a usual plan, with raw estimates or corrected ones
abbrev pub numbers_with : Bool → ℕ → ℕ → ℕ → ℕ → Numbers
numbers_with corrected log2m seed parts limit = record {
  log2m = log2m;
  seed = seed;
  parts = parts;
  limit = limit;
  corrected = corrected;
  large = false;
}

-- the hasher took these bytes
abbrev pub Hashes : Sha256 → Sha256 → List ℕ → Type 0
Hashes old new bytes = (m : List ℕ) → Holds256 old m → Holds256 new (m ++ bytes)

-- a vertex as bytes
abbrev pub vertex_number_bytes : ℕ → List ℕ
vertex_number_bytes v = to_be_bytes w32 v

-- the edges from some sources to a target, as bytes
abbrev pub target_bytes : List ℕ → ℕ → List ℕ
target_bytes sources x = flat_map edge_bytes (map (λ y. (y, x)) sources)
