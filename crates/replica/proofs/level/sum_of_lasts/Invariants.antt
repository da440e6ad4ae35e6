use Rattle.std.proofs.Common.{◌≡◌, ◌≤◌, ◌*◌, ◌^◌, take}
use Rattle.replica.proofs.Names.{sum_by}
use Rattle.replica.proofs.level.sum_of_lasts.Given as goal

abbrev pub invariant-loop-tally : goal.invariant-loop-tally
invariant-loop-tally l = record {
  sum : l.sum ≡ sum_by (λ tally. tally.last) (take l.tally-index l.tallies);
  small : l.sum ≤ 2 ^ 64 * l.tally-index;
}
