-- Bits of feed masks.
use Rattle.std.specs.Prelude.{ℕ, Bool, ◌==◌}
use Rattle.std.specs.Int.{bit_at}

-- bit r of a mask is set
abbrev pub has_bit : ℕ → ℕ → Bool
has_bit mask r = bit_at mask r == 1
