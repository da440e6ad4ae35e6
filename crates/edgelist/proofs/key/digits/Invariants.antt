use Rattle.std.proofs.Common.{◌≡◌, ◌*◌, ◌^◌, ◌<◌, drop}
use Rattle.edgelist.specs.Guessing.{bytes_after}
use Rattle.edgelist.proofs.key.digits.Given as goal

abbrev pub invariant-loop-byte : goal.invariant-loop-byte
invariant-loop-byte l = record {
  value : bytes_after l.digits (drop l.byte-index l.part) ≡ bytes_after 0 l.part;
  fits : l.digits < 2 ^ (8 * l.byte-index);
}
