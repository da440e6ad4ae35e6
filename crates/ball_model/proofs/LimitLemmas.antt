-- What is read under some limits is read the same under higher ones.
use Rattle.std.proofs.Common.{◌≡◌, ◌≤◌, ◌+◌, ℕ, Bool, true, false, nat_lt, nat_le, not, if◌then◌else◌, List, [], ◌∷◌, map, length, take, arith, refl}
use Rattle.std.specs.Prelude.{Option, None, Some, Ok, slice_index_or}
use Rattle.std.specs.List.{range_with_len}
use Rattle.std.proofs.lemmas.Bool.{leb-false, lt-leb, ltb-false, le-ltb}
use Rattle.ball_model.specs.Input.{Limits, Network, Refusal, TooManyEdges, Fields, TooManyVertices, fault_at, first_of, has_form, labels_of, network_from, network_of, network_unless}

-- where three tests find nothing
tests_pass : (x y z : Refusal) (p q r : Bool) → (if p then Some x else (if not q then Some y else (if r then Some z else None))) ≡ None → (p ≡ false) × (q ≡ true) × (r ≡ false)
tests_pass x y z true q r is = absurd (cc)
tests_pass x y z false false r is = absurd (cc)
tests_pass x y z false true true is = absurd (cc)
tests_pass x y z false true false is = (refl, refl, refl)

-- a record with no fault has none under higher limits
none_higher : (a b : Limits) (records : List (List (List ℕ))) (i : ℕ) → a.vertices ≤ b.vertices → a.edges ≤ b.edges → fault_at a records i ≡ None → fault_at b records i ≡ None
none_higher a b records i vertices edges is =
    let n = length (labels_of (take (i + 1) records)) in
    let form = has_form (slice_index_or records i []) in
    let p = tests_pass TooManyEdges (Fields (i + 1)) TooManyVertices (nat_le a.edges i) form (nat_lt a.vertices n) is in
    let few : nat_le b.edges i ≡ false = lt-leb b.edges i (omega (arith, edges, leb-false a.edges i p.0)) in
    let room : nat_lt b.vertices n ≡ false = le-ltb b.vertices n (omega (arith, vertices, ltb-false a.vertices n p.2)) in
    rw (few, p.1, room) refl

-- the first of some that is there is none only where all are none
first_none : (x : Option Refusal) (more : List (Option Refusal)) → first_of (x ∷ more) ≡ None → (x ≡ None) × (first_of more ≡ None)
first_none None more is = (refl, is)
first_none (Some x) more is = absurd (cc)

all_none : (f g : ℕ → Option Refusal) → ((i : ℕ) → f i ≡ None → g i ≡ None) → (numbers : List ℕ) → first_of (map f numbers) ≡ None → first_of (map g numbers) ≡ None
all_none f g implies [] is = refl
all_none f g implies (i ∷ numbers) is =
    let both = first_none (f i) (map f numbers) is in
    rw (implies i both.0) (all_none f g implies numbers both.1)

unless_none : (x : Option Refusal) (records : List (List (List ℕ))) (network : Network) → network_unless x records ≡ Ok network → (x ≡ None) × (network_of records ≡ network)
unless_none None records network is = (refl, cc)
unless_none (Some x) records network is = absurd (cc)

pub network_higher : (a b : Limits) (records : List (List (List ℕ))) (network : Network) → a.vertices ≤ b.vertices → a.edges ≤ b.edges → network_from a records ≡ Ok network → network_from b records ≡ Ok network
unfolding network_from
network_higher a b records network vertices edges is =
    let numbers = range_with_len 0 (length records) in
    let both = unless_none (first_of (map (fault_at a records) numbers)) records network is in
    let none : first_of (map (fault_at b records) numbers) ≡ None = all_none (fault_at a records) (fault_at b records) (λ i. none_higher a b records i vertices edges) numbers both.0 in
    rw (none, both.1) refl
