-- The hash of a vertex, and the register and the rank that it gives there (HyperLogLog 2007).
use Rattle.std.specs.Prelude.{ℕ, ◌+◌, ◌-◌, ◌*◌, ◌/◌, ◌%◌, ◌^◌, bit_xor, if◌then◌else◌, ◌==◌, nat_le}
use Rattle.ball_model.specs.Greatest.{greatest}

-- the sum modulo 2^64
abbrev pub plus64 : ℕ → ℕ → ℕ
plus64 a b = (a + b) % 2 ^ 64

-- the product modulo 2^64
abbrev pub times64 : ℕ → ℕ → ℕ
times64 a b = a * b % 2 ^ 64

-- n xor (n >> k)
abbrev pub xor_shift : ℕ → ℕ → ℕ
xor_shift k n = bit_xor n (n / 2 ^ k)

-- the hash of vertex v under a seed
unfoldable pub hash_of : ℕ → ℕ → ℕ
hash_of seed v =
    let start = plus64 seed (times64 (v + 1) 0x9e3779b97f4a7c15) in
    let second = times64 (xor_shift 30 start) 0xbf58476d1ce4e5b9 in
    let third = times64 (xor_shift 27 second) 0x94d049bb133111eb in xor_shift 31 third

-- the index: the top log2m bits of a hash
unfoldable pub index_of : ℕ → ℕ → ℕ
index_of log2m hash = hash / 2 ^ (64 - log2m)

-- the tail: the 32 bits that follow the index
unfoldable pub tail_of : ℕ → ℕ → ℕ
tail_of log2m hash = hash / 2 ^ (32 - log2m) % 2 ^ 32

-- the greatest j below 32 with 2^j at most n
unfoldable pub floor_log2 : ℕ → ℕ
floor_log2 n = greatest (λ j. nat_le (2 ^ j) n) (λ j. j) 32

-- the rank: the position, from 1, of the leftmost 1 in the tail, and 33 if the tail is 0
unfoldable pub rank_of : ℕ → ℕ → ℕ
rank_of log2m hash = if tail_of log2m hash == 0 then 33 else 32 - floor_log2 (tail_of log2m hash)
