use Rattle.std.proofs.Common.{◌≡◌, ◌++◌, ◌^◌, ◌<◌, ◌≤◌, ℕ, List, length, get_or, take}
use Rattle.std.specs.List.{flat_map}
use Rattle.std.specs.Vec.{vec_capacity}
use Rattle.std.specs.Int.{w128, to_be_bytes}
use Rattle.checkpoint.proofs.RightLemmas.{Stands}
use Rattle.checkpoint.proofs.saved.add_sums.Given as goal

-- the bytes so far are those of the sums so far
abbrev pub invariant-loop : goal.invariant-loop
invariant-loop l = record {
  spelt : l.bytes ≡ flat_map (to_be_bytes w128) l.sums.items ++ l.rest;
  count : length l.sums.items ≡ l.counter;
  room : l.count ≤ vec_capacity l.sums;
  right : (sums rest : List ℕ) → ((i : ℕ) → get_or sums i 0 < 2 ^ 128) → length sums ≡ l.count → l.bytes ≡ flat_map (to_be_bytes w128) sums ++ rest
      → (l.sums.items ≡ take l.counter sums) × Stands (to_be_bytes w128) sums l.counter l.rest rest;
}
