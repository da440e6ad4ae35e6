-- What is asked of a job, and what the refusals of its edge list and of its list of counted vertices say.
use Rattle.std.specs.Prelude.{◌≡◌, ℕ, List, Ok, Option, IfSome, IsOk}
use Rattle.std.specs.Borrow.{Bor}
use Rattle.ball_model.specs.Input.{Network}
use Rattle.ball_model.specs.RunText.{ArePlain, Numbers, Settings, list_in, network_in}
use Rattle.graph.specs.Counting.{IsListRefusal}
use Rattle.graph.specs.Planning.{is_corrected, numbers_with}
use Rattle.graph.specs.Records.{byte_of}
use Rattle.edgelist.specs.Reading.{Refuses}
use Rattle.job.specs.declared.job.JobOptions.{JobOptions}
use Rattle.job.specs.declared.job.NetworkError.{NetworkError}
use Rattle.job.specs.declared.job.NetworkError.TheVariants as fault

-- what the plan is asked for by
abbrev pub numbers_asked : JobOptions → Numbers
numbers_asked o =
    record (numbers_with (is_corrected o.estimate) o.log2m o.seed o.parts o.limit)
    { large = o.large }

-- what the plan is asked for by, and the byte between the fields of a line
abbrev pub settings_of : JobOptions → Settings
settings_of o = record { numbers = numbers_asked o; delimiter = byte_of o.delimiter }

-- if the reader's bytes are known, and these and the list are plain, this holds of them
abbrev pub WherePlain : Option (List ℕ) → Option (Bor (List ℕ)) →
    (List ℕ → Option (List ℕ) → Type 0) → Type 0
WherePlain told counted holds = IfSome told (λ input.
    ArePlain input (list_in counted) → holds input (list_in counted))

-- what a refusal says of the network, as far as it was read
abbrev pub RefusesRead : Settings → List ℕ → Option (List ℕ) → NetworkError → Type 0
RefusesRead s input list (fault.Edges e) = Refuses (network_in s input) e
RefusesRead s input list (fault.Counted e) = IsListRefusal s input list e

-- what a refusal says of the edge list, whatever the list of counted vertices is
abbrev pub RefusesEdges : Settings → List ℕ → NetworkError → Type 0
RefusesEdges s input (fault.Edges e) = Refuses (network_in s input) e
RefusesEdges s input (fault.Counted e) = IsOk (network_in s input)

-- the labels, the vertices and the edges are those of the edge list, whichever vertices are counted
pub record HasEdgesOf (s : Settings) (input : List ℕ) (network : Network) : Type 0 where
  pub all : Network
  pub read : network_in s input ≡ Ok all
  pub labels : network.labels ≡ all.labels
  pub vertices : network.graph.vertices ≡ all.graph.vertices
  pub edges : network.graph.edges ≡ all.graph.edges
