use Rattle.std.proofs.Common.{◌≡◌, ◌-◌, ◌*◌, ◌≤◌, length, drop}
use Rattle.gapcode.specs.Bits.{bits_of}
use Rattle.gapcode.specs.Lists.{elements_at, bits_after}
use Rattle.gapcode.proofs.check.pass_elements.Given as goal

abbrev pub invariant-loop : goal.invariant-loop
invariant-loop l = record {
  so_far : bits_after (elements_at l.bound (l.count - l.counter) l.least (drop l.end (bits_of l.bytes))) ≡ bits_after (elements_at l.bound l.count 0 (drop l.place (bits_of l.bytes)));
  fits : l.least ≤ l.bound;
  inside : l.end ≤ 8 * length l.bytes;
}
