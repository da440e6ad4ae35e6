-- What the refusals of an edge list and of a list of counted vertices say.
use Rattle.std.proofs.Common.{◌≡◌, ℕ, List, refl}
use Rattle.std.specs.Prelude.{Option, None, Some, Ok, IfSome, IsOk}
use Rattle.std.specs.Borrow.{Bor}
use Rattle.ball_model.specs.Input.{IsPlain, Network}
use Rattle.ball_model.specs.RunText.{Settings, counted_in, list_in, network_in}
use Rattle.graph.specs.Counting.{IsListRefusal, RefusesList}
use Rattle.job.specs.Job.{WherePlain}
use Rattle.graph.specs.Records.{ForPlain}
use Rattle.graph.specs.declared.counting.CountedError.{CountedError}

-- what is refused of a list, once there is a network
pub refuses_list : (s : Settings) (told : Option (List ℕ)) (counted : Option (Bor (List ℕ))) (all : Network) (e : CountedError) → ForPlain told (λ text. network_in s text ≡ Ok all) →
    (IfSome (list_in counted) IsPlain → RefusesList (counted_in s all (list_in counted)) e) → WherePlain told counted (λ input list. IsListRefusal s input list e)
refuses_list s None counted all e read refused = tt
refuses_list s (Some input) counted all e read refused = λ plain. record { all = all; read = read input refl plain.0; refused = refused plain.1 }

-- if there is a network
pub read_edges : (s : Settings) (told : Option (List ℕ)) (all : Network) → ForPlain told (λ input. network_in s input ≡ Ok all) → ForPlain told (λ input. IsOk (network_in s input))
read_edges s told all read input is plain = rw (read input is plain) refl
