use Rattle.std.proofs.Common.{◌≡◌, ◌-◌, ◌*◌, ◌≤◌, List, ℕ, Bool, length, Ok}
use Rattle.gapcode.specs.Bits.{bits_of}
use Rattle.gapcode.specs.Lists.{beyond, lists_at}
use Rattle.gapcode.proofs.IndexLemmas.{Goes}
use Rattle.gapcode.proofs.lists.places.Given as goal

abbrev pub invariant-loop : goal.invariant-loop
invariant-loop l = record {
  goes : (x : List (List ℕ) × List Bool) → lists_at beyond l.count (bits_of l.bytes) ≡ Ok x → Goes (bits_of l.bytes) l.places l.place (l.count - l.counter) x.0;
  inside : l.place ≤ 8 * length l.bytes;
}
