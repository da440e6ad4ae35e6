use Rattle.std.proofs.Common.{◌≡◌, ◌+◌, ◌*◌, ◌<◌, ◌≤◌, ◌^◌, ◌++◌, take, vec_len, vec_capacity}
use Rattle.gapcode.specs.Bits.{bits_of, bits_with}
use Rattle.gapcode.proofs.writer.put_words.Given as goal

abbrev pub invariant-loop-i : goal.invariant-loop-i
invariant-loop-i l = record {
  last : l.left < 2 ^ l.used;
  bits : bits_with l.full.items l.left l.used ≡ bits_with l.fn.full.items l.last l.used ++ take (64 * l.i) (bits_of l.bytes);
  longer : vec_len l.full ≡ vec_len l.fn.full + 8 * l.i;
  room : vec_capacity l.fn.full ≤ vec_capacity l.full;
}
