use Rattle.std.proofs.Common.{◌≡◌, ◌-◌, ◌*◌, ◌≤◌, length, drop}
use Rattle.gapcode.specs.Bits.{bits_of}
use Rattle.gapcode.specs.Lists.{lists_at, bits_after}
use Rattle.gapcode.proofs.check.pass_lists.Given as goal

abbrev pub invariant-loop : goal.invariant-loop
invariant-loop l = record {
  so_far : bits_after (lists_at l.bound (l.count - l.counter) (drop l.place (bits_of l.bytes))) ≡ bits_after (lists_at l.bound l.count (bits_of l.bytes));
  inside : l.place ≤ 8 * length l.bytes;
}
