-- What is read of a checkpoint's bytes is what was spelled.
use Rattle.std.proofs.Common.{◌≡◌, ℕ, zero, suc, ◌+◌, ◌*◌, ◌/◌, ◌%◌, ◌^◌, ◌<◌, ◌≤◌, Bool, false, List, [], ◌∷◌, ◌++◌, map, length, get_or, set, replicate, refl, ap, ap₂, sym, ◌∙◌, arith, append_assoc, take, drop}
use Rattle.std.specs.List.{flat_map, range_with_len}
use Rattle.std.specs.Int.{w64, w128, to_be_bytes, from_be_bytes}
use Rattle.std.proofs.Math.Nat.{zero-max}
use Rattle.std.proofs.lemmas.Nat.{be_bytes_8, shr-shr}
use Rattle.std.proofs.lemmas.List.{take_all, take-append-drop, drop-drop, length-take, length-drop, length-replicate, length-append, length-map, map-append, append-nil, get_or_append_left, get_or-set_other, get_or-set_same, get_or-replicate, length-set}
use Rattle.std.proofs.Math.Seq.{get_or-append_seam}
use Rattle.std.proofs.lemmas.Grind.{flat_map-append}
use Rattle.ball_model.specs.Counter.{max_each}
use Rattle.ball_model.specs.Checkpoint.{entry_bytes, no_figures}
use Rattle.ball_model.specs.Figures.{TallyValue}
use Rattle.ball_model.specs.Table.{Table}
use Rattle.ball_model.proofs.PartLemmas.{range_more}
use Rattle.figures.specs.Values.{value_of}
use Rattle.figures.specs.declared.tally.Tally.{Tally}
use Rattle.batches.specs.Kept.{field}
use Rattle.checkpoint.specs.declared.saved.Vertices.{Vertices}
use Rattle.checkpoint.proofs.HeldLemmas.{front_fits}
use Rattle.checkpoint.specs.Told.{entry_at, IsAdded, AreNone, AreVerticesTold}

-- ---- numbers
above : (n k q b : ℕ) → b < 256 → n / 2 ^ k ≡ q * 256 + b → n / 2 ^ (k + 8) ≡ q
above n k q b small e = sym (shr-shr n k 8) ∙ quotient (n / 2 ^ k) q b small e
  where
    quotient : (v q b : ℕ) → b < 256 → v ≡ q * 256 + b → v / 256 ≡ q
    quotient v q b small e = omega (arith, small, e)

digits_of : (v q b : ℕ) → b < 256 → v ≡ q * 256 + b → v / 2 ^ 8 ≡ q
digits_of v q b small e = omega (arith, small, e)

digit : (v q b : ℕ) → b < 256 → v ≡ q * 256 + b → v % 256 ≡ b
digit v q b small e = omega (arith, small, e)

bytes_16 : (b0 b1 b2 b3 b4 b5 b6 b7 b8 b9 b10 b11 b12 b13 b14 b15 n : ℕ) → b0 < 256 → b1 < 256 → b2 < 256 → b3 < 256 → b4 < 256 → b5 < 256 → b6 < 256 → b7 < 256 → b8 < 256 → b9 < 256 → b10 < 256 → b11 < 256 → b12 < 256 → b13 < 256 → b14 < 256 → b15 < 256 → n ≡ from_be_bytes w128 (b0 ∷ b1 ∷ b2 ∷ b3 ∷ b4 ∷ b5 ∷ b6 ∷ b7 ∷ b8 ∷ b9 ∷ b10 ∷ b11 ∷ b12 ∷ b13 ∷ b14 ∷ b15 ∷ []) → to_be_bytes w128 n ≡ b0 ∷ b1 ∷ b2 ∷ b3 ∷ b4 ∷ b5 ∷ b6 ∷ b7 ∷ b8 ∷ b9 ∷ b10 ∷ b11 ∷ b12 ∷ b13 ∷ b14 ∷ b15 ∷ []
bytes_16 b0 b1 b2 b3 b4 b5 b6 b7 b8 b9 b10 b11 b12 b13 b14 b15 n s0 s1 s2 s3 s4 s5 s6 s7 s8 s9 s10 s11 s12 s13 s14 s15 is =
    let h0 : n ≡ (((((((((((((((b0) * 256 + b1) * 256 + b2) * 256 + b3) * 256 + b4) * 256 + b5) * 256 + b6) * 256 + b7) * 256 + b8) * 256 + b9) * 256 + b10) * 256 + b11) * 256 + b12) * 256 + b13) * 256 + b14) * 256 + b15 = omega (arith, is) in
    let h1 : n / 2 ^ 8 ≡ ((((((((((((((b0) * 256 + b1) * 256 + b2) * 256 + b3) * 256 + b4) * 256 + b5) * 256 + b6) * 256 + b7) * 256 + b8) * 256 + b9) * 256 + b10) * 256 + b11) * 256 + b12) * 256 + b13) * 256 + b14 = digits_of n (((((((((((((((b0) * 256 + b1) * 256 + b2) * 256 + b3) * 256 + b4) * 256 + b5) * 256 + b6) * 256 + b7) * 256 + b8) * 256 + b9) * 256 + b10) * 256 + b11) * 256 + b12) * 256 + b13) * 256 + b14) b15 s15 h0 in
    let h2 : n / 2 ^ 16 ≡ (((((((((((((b0) * 256 + b1) * 256 + b2) * 256 + b3) * 256 + b4) * 256 + b5) * 256 + b6) * 256 + b7) * 256 + b8) * 256 + b9) * 256 + b10) * 256 + b11) * 256 + b12) * 256 + b13 = above n 8 ((((((((((((((b0) * 256 + b1) * 256 + b2) * 256 + b3) * 256 + b4) * 256 + b5) * 256 + b6) * 256 + b7) * 256 + b8) * 256 + b9) * 256 + b10) * 256 + b11) * 256 + b12) * 256 + b13) b14 s14 h1 in
    let h3 : n / 2 ^ 24 ≡ ((((((((((((b0) * 256 + b1) * 256 + b2) * 256 + b3) * 256 + b4) * 256 + b5) * 256 + b6) * 256 + b7) * 256 + b8) * 256 + b9) * 256 + b10) * 256 + b11) * 256 + b12 = above n 16 (((((((((((((b0) * 256 + b1) * 256 + b2) * 256 + b3) * 256 + b4) * 256 + b5) * 256 + b6) * 256 + b7) * 256 + b8) * 256 + b9) * 256 + b10) * 256 + b11) * 256 + b12) b13 s13 h2 in
    let h4 : n / 2 ^ 32 ≡ (((((((((((b0) * 256 + b1) * 256 + b2) * 256 + b3) * 256 + b4) * 256 + b5) * 256 + b6) * 256 + b7) * 256 + b8) * 256 + b9) * 256 + b10) * 256 + b11 = above n 24 ((((((((((((b0) * 256 + b1) * 256 + b2) * 256 + b3) * 256 + b4) * 256 + b5) * 256 + b6) * 256 + b7) * 256 + b8) * 256 + b9) * 256 + b10) * 256 + b11) b12 s12 h3 in
    let h5 : n / 2 ^ 40 ≡ ((((((((((b0) * 256 + b1) * 256 + b2) * 256 + b3) * 256 + b4) * 256 + b5) * 256 + b6) * 256 + b7) * 256 + b8) * 256 + b9) * 256 + b10 = above n 32 (((((((((((b0) * 256 + b1) * 256 + b2) * 256 + b3) * 256 + b4) * 256 + b5) * 256 + b6) * 256 + b7) * 256 + b8) * 256 + b9) * 256 + b10) b11 s11 h4 in
    let h6 : n / 2 ^ 48 ≡ (((((((((b0) * 256 + b1) * 256 + b2) * 256 + b3) * 256 + b4) * 256 + b5) * 256 + b6) * 256 + b7) * 256 + b8) * 256 + b9 = above n 40 ((((((((((b0) * 256 + b1) * 256 + b2) * 256 + b3) * 256 + b4) * 256 + b5) * 256 + b6) * 256 + b7) * 256 + b8) * 256 + b9) b10 s10 h5 in
    let h7 : n / 2 ^ 56 ≡ ((((((((b0) * 256 + b1) * 256 + b2) * 256 + b3) * 256 + b4) * 256 + b5) * 256 + b6) * 256 + b7) * 256 + b8 = above n 48 (((((((((b0) * 256 + b1) * 256 + b2) * 256 + b3) * 256 + b4) * 256 + b5) * 256 + b6) * 256 + b7) * 256 + b8) b9 s9 h6 in
    let h8 : n / 2 ^ 64 ≡ (((((((b0) * 256 + b1) * 256 + b2) * 256 + b3) * 256 + b4) * 256 + b5) * 256 + b6) * 256 + b7 = above n 56 ((((((((b0) * 256 + b1) * 256 + b2) * 256 + b3) * 256 + b4) * 256 + b5) * 256 + b6) * 256 + b7) b8 s8 h7 in
    let h9 : n / 2 ^ 72 ≡ ((((((b0) * 256 + b1) * 256 + b2) * 256 + b3) * 256 + b4) * 256 + b5) * 256 + b6 = above n 64 (((((((b0) * 256 + b1) * 256 + b2) * 256 + b3) * 256 + b4) * 256 + b5) * 256 + b6) b7 s7 h8 in
    let h10 : n / 2 ^ 80 ≡ (((((b0) * 256 + b1) * 256 + b2) * 256 + b3) * 256 + b4) * 256 + b5 = above n 72 ((((((b0) * 256 + b1) * 256 + b2) * 256 + b3) * 256 + b4) * 256 + b5) b6 s6 h9 in
    let h11 : n / 2 ^ 88 ≡ ((((b0) * 256 + b1) * 256 + b2) * 256 + b3) * 256 + b4 = above n 80 (((((b0) * 256 + b1) * 256 + b2) * 256 + b3) * 256 + b4) b5 s5 h10 in
    let h12 : n / 2 ^ 96 ≡ (((b0) * 256 + b1) * 256 + b2) * 256 + b3 = above n 88 ((((b0) * 256 + b1) * 256 + b2) * 256 + b3) b4 s4 h11 in
    let h13 : n / 2 ^ 104 ≡ ((b0) * 256 + b1) * 256 + b2 = above n 96 (((b0) * 256 + b1) * 256 + b2) b3 s3 h12 in
    let h14 : n / 2 ^ 112 ≡ (b0) * 256 + b1 = above n 104 ((b0) * 256 + b1) b2 s2 h13 in
    let h15 : n / 2 ^ 120 ≡ b0 = above n 112 (b0) b1 s1 h14 in
    let d0 : n / 2 ^ 120 % 256 ≡ b0 = digit (n / 2 ^ 120) 0 b0 s0 (omega (arith, h15)) in
    let d1 : n / 2 ^ 112 % 256 ≡ b1 = digit (n / 2 ^ 112) (b0) b1 s1 h14 in
    let d2 : n / 2 ^ 104 % 256 ≡ b2 = digit (n / 2 ^ 104) ((b0) * 256 + b1) b2 s2 h13 in
    let d3 : n / 2 ^ 96 % 256 ≡ b3 = digit (n / 2 ^ 96) (((b0) * 256 + b1) * 256 + b2) b3 s3 h12 in
    let d4 : n / 2 ^ 88 % 256 ≡ b4 = digit (n / 2 ^ 88) ((((b0) * 256 + b1) * 256 + b2) * 256 + b3) b4 s4 h11 in
    let d5 : n / 2 ^ 80 % 256 ≡ b5 = digit (n / 2 ^ 80) (((((b0) * 256 + b1) * 256 + b2) * 256 + b3) * 256 + b4) b5 s5 h10 in
    let d6 : n / 2 ^ 72 % 256 ≡ b6 = digit (n / 2 ^ 72) ((((((b0) * 256 + b1) * 256 + b2) * 256 + b3) * 256 + b4) * 256 + b5) b6 s6 h9 in
    let d7 : n / 2 ^ 64 % 256 ≡ b7 = digit (n / 2 ^ 64) (((((((b0) * 256 + b1) * 256 + b2) * 256 + b3) * 256 + b4) * 256 + b5) * 256 + b6) b7 s7 h8 in
    let d8 : n / 2 ^ 56 % 256 ≡ b8 = digit (n / 2 ^ 56) ((((((((b0) * 256 + b1) * 256 + b2) * 256 + b3) * 256 + b4) * 256 + b5) * 256 + b6) * 256 + b7) b8 s8 h7 in
    let d9 : n / 2 ^ 48 % 256 ≡ b9 = digit (n / 2 ^ 48) (((((((((b0) * 256 + b1) * 256 + b2) * 256 + b3) * 256 + b4) * 256 + b5) * 256 + b6) * 256 + b7) * 256 + b8) b9 s9 h6 in
    let d10 : n / 2 ^ 40 % 256 ≡ b10 = digit (n / 2 ^ 40) ((((((((((b0) * 256 + b1) * 256 + b2) * 256 + b3) * 256 + b4) * 256 + b5) * 256 + b6) * 256 + b7) * 256 + b8) * 256 + b9) b10 s10 h5 in
    let d11 : n / 2 ^ 32 % 256 ≡ b11 = digit (n / 2 ^ 32) (((((((((((b0) * 256 + b1) * 256 + b2) * 256 + b3) * 256 + b4) * 256 + b5) * 256 + b6) * 256 + b7) * 256 + b8) * 256 + b9) * 256 + b10) b11 s11 h4 in
    let d12 : n / 2 ^ 24 % 256 ≡ b12 = digit (n / 2 ^ 24) ((((((((((((b0) * 256 + b1) * 256 + b2) * 256 + b3) * 256 + b4) * 256 + b5) * 256 + b6) * 256 + b7) * 256 + b8) * 256 + b9) * 256 + b10) * 256 + b11) b12 s12 h3 in
    let d13 : n / 2 ^ 16 % 256 ≡ b13 = digit (n / 2 ^ 16) (((((((((((((b0) * 256 + b1) * 256 + b2) * 256 + b3) * 256 + b4) * 256 + b5) * 256 + b6) * 256 + b7) * 256 + b8) * 256 + b9) * 256 + b10) * 256 + b11) * 256 + b12) b13 s13 h2 in
    let d14 : n / 2 ^ 8 % 256 ≡ b14 = digit (n / 2 ^ 8) ((((((((((((((b0) * 256 + b1) * 256 + b2) * 256 + b3) * 256 + b4) * 256 + b5) * 256 + b6) * 256 + b7) * 256 + b8) * 256 + b9) * 256 + b10) * 256 + b11) * 256 + b12) * 256 + b13) b14 s14 h1 in
    let d15 : n % 256 ≡ b15 = digit n (((((((((((((((b0) * 256 + b1) * 256 + b2) * 256 + b3) * 256 + b4) * 256 + b5) * 256 + b6) * 256 + b7) * 256 + b8) * 256 + b9) * 256 + b10) * 256 + b11) * 256 + b12) * 256 + b13) * 256 + b14) b15 s15 h0 in
    λ i. d0 i ∷ d1 i ∷ d2 i ∷ d3 i ∷ d4 i ∷ d5 i ∷ d6 i ∷ d7 i ∷ d8 i ∷ d9 i ∷ d10 i ∷ d11 i ∷ d12 i ∷ d13 i ∷ d14 i ∷ d15 i ∷ []

be_bytes_16 : (bs : List ℕ) (n : ℕ) → length bs ≡ 16 → ((i : ℕ) → get_or bs i 0 < 256) → n ≡ from_be_bytes w128 bs → to_be_bytes w128 n ≡ bs
be_bytes_16 bs n long small is =
    bytes_16 (get_or bs 0 0) (get_or bs 1 0) (get_or bs 2 0) (get_or bs 3 0) (get_or bs 4 0) (get_or bs 5 0) (get_or bs 6 0) (get_or bs 7 0) (get_or bs 8 0) (get_or bs 9 0) (get_or bs 10 0) (get_or bs 11 0) (get_or bs 12 0) (get_or bs 13 0) (get_or bs 14 0) (get_or bs 15 0) n (small 0) (small 1) (small 2) (small 3) (small 4) (small 5) (small 6) (small 7) (small 8) (small 9) (small 10) (small 11) (small 12) (small 13) (small 14) (small 15) is ∙ written bs long
  where
    written : (bs : List ℕ) → length bs ≡ 16 → get_or bs 0 0 ∷ get_or bs 1 0 ∷ get_or bs 2 0 ∷ get_or bs 3 0 ∷ get_or bs 4 0 ∷ get_or bs 5 0 ∷ get_or bs 6 0 ∷ get_or bs 7 0 ∷ get_or bs 8 0 ∷ get_or bs 9 0 ∷ get_or bs 10 0 ∷ get_or bs 11 0 ∷ get_or bs 12 0 ∷ get_or bs 13 0 ∷ get_or bs 14 0 ∷ get_or bs 15 0 ∷ [] ≡ bs
    written [] l = absurd (omega (arith, l))
    written (b0 ∷ []) l = absurd (omega (arith, l))
    written (b0 ∷ b1 ∷ []) l = absurd (omega (arith, l))
    written (b0 ∷ b1 ∷ b2 ∷ []) l = absurd (omega (arith, l))
    written (b0 ∷ b1 ∷ b2 ∷ b3 ∷ []) l = absurd (omega (arith, l))
    written (b0 ∷ b1 ∷ b2 ∷ b3 ∷ b4 ∷ []) l = absurd (omega (arith, l))
    written (b0 ∷ b1 ∷ b2 ∷ b3 ∷ b4 ∷ b5 ∷ []) l = absurd (omega (arith, l))
    written (b0 ∷ b1 ∷ b2 ∷ b3 ∷ b4 ∷ b5 ∷ b6 ∷ []) l = absurd (omega (arith, l))
    written (b0 ∷ b1 ∷ b2 ∷ b3 ∷ b4 ∷ b5 ∷ b6 ∷ b7 ∷ []) l = absurd (omega (arith, l))
    written (b0 ∷ b1 ∷ b2 ∷ b3 ∷ b4 ∷ b5 ∷ b6 ∷ b7 ∷ b8 ∷ []) l = absurd (omega (arith, l))
    written (b0 ∷ b1 ∷ b2 ∷ b3 ∷ b4 ∷ b5 ∷ b6 ∷ b7 ∷ b8 ∷ b9 ∷ []) l = absurd (omega (arith, l))
    written (b0 ∷ b1 ∷ b2 ∷ b3 ∷ b4 ∷ b5 ∷ b6 ∷ b7 ∷ b8 ∷ b9 ∷ b10 ∷ []) l = absurd (omega (arith, l))
    written (b0 ∷ b1 ∷ b2 ∷ b3 ∷ b4 ∷ b5 ∷ b6 ∷ b7 ∷ b8 ∷ b9 ∷ b10 ∷ b11 ∷ []) l = absurd (omega (arith, l))
    written (b0 ∷ b1 ∷ b2 ∷ b3 ∷ b4 ∷ b5 ∷ b6 ∷ b7 ∷ b8 ∷ b9 ∷ b10 ∷ b11 ∷ b12 ∷ []) l = absurd (omega (arith, l))
    written (b0 ∷ b1 ∷ b2 ∷ b3 ∷ b4 ∷ b5 ∷ b6 ∷ b7 ∷ b8 ∷ b9 ∷ b10 ∷ b11 ∷ b12 ∷ b13 ∷ []) l = absurd (omega (arith, l))
    written (b0 ∷ b1 ∷ b2 ∷ b3 ∷ b4 ∷ b5 ∷ b6 ∷ b7 ∷ b8 ∷ b9 ∷ b10 ∷ b11 ∷ b12 ∷ b13 ∷ b14 ∷ []) l = absurd (omega (arith, l))
    written (b0 ∷ b1 ∷ b2 ∷ b3 ∷ b4 ∷ b5 ∷ b6 ∷ b7 ∷ b8 ∷ b9 ∷ b10 ∷ b11 ∷ b12 ∷ b13 ∷ b14 ∷ b15 ∷ []) l = refl
    written (b0 ∷ b1 ∷ b2 ∷ b3 ∷ b4 ∷ b5 ∷ b6 ∷ b7 ∷ b8 ∷ b9 ∷ b10 ∷ b11 ∷ b12 ∷ b13 ∷ b14 ∷ b15 ∷ b16 ∷ bs) l = absurd (omega (arith, l))

pub spelt_16 : (bytes number rest : List ℕ) (n : ℕ) → bytes ≡ number ++ rest → length number ≡ 16 → ((i : ℕ) → get_or bytes i 0 < 256) → n ≡ field w128 0 number → bytes ≡ to_be_bytes w128 n ++ rest
spelt_16 bytes number rest n split long small is =
    split ∙ ap (λ (l : List ℕ). l ++ rest) (sym (be_bytes_16 number n long (front_fits bytes number rest split small) (is ∙ ap (from_be_bytes w128) (take_all 16 number (omega (arith, long))))))

-- the front of small numbers, and what is behind it
small_within : (k : ℕ) (bytes : List ℕ) → ((i : ℕ) → get_or bytes i 0 < 256) → (i : ℕ) → get_or (take k bytes) i 0 < 256
small_within zero bytes small i = omega arith
small_within (suc k) [] small i = omega arith
small_within (suc k) (x ∷ bytes) small zero = small 0
small_within (suc k) (x ∷ bytes) small (suc i) = small_within k bytes (λ j. small (suc j)) i

small_behind : (k : ℕ) (bytes : List ℕ) → ((i : ℕ) → get_or bytes i 0 < 256) → (i : ℕ) → get_or (drop k bytes) i 0 < 256
small_behind zero bytes small = small
small_behind (suc k) [] small = small
small_behind (suc k) (x ∷ bytes) small = small_behind k bytes (λ i. small (suc i))

-- three numbers that stand in 32 bytes
figures_spelt : (bytes : List ℕ) (last harm dist : ℕ) → length bytes ≡ 32 → ((i : ℕ) → get_or bytes i 0 < 256) → last ≡ field w64 0 bytes → harm ≡ field w64 8 bytes → dist ≡ field w128 16 bytes → bytes ≡ to_be_bytes w64 last ++ (to_be_bytes w64 harm ++ to_be_bytes w128 dist)
figures_spelt bytes last harm dist long small a b d =
    let behind : drop 8 (drop 8 bytes) ≡ drop 16 bytes = drop-drop 8 8 bytes in
    let first : to_be_bytes w64 last ≡ take 8 bytes = be_bytes_8 (take 8 bytes) last (omega (arith, long, length-take 8 bytes)) (small_within 8 bytes small) a in
    let second : to_be_bytes w64 harm ≡ take 8 (drop 8 bytes) = be_bytes_8 (take 8 (drop 8 bytes)) harm (omega (arith, long, length-take 8 (drop 8 bytes), length-drop 8 bytes)) (small_within 8 (drop 8 bytes) (small_behind 8 bytes small)) b in
    let sixteen : length (drop 16 bytes) ≡ 16 = omega (arith, long, length-drop 16 bytes) in
    let third : to_be_bytes w128 dist ≡ drop 16 bytes = be_bytes_16 (drop 16 bytes) dist sixteen (small_behind 16 bytes small) (d ∙ ap (from_be_bytes w128) (take_all 16 (drop 16 bytes) (omega (arith, sixteen)))) in
    sym (take-append-drop 8 bytes) ∙ ap₂ (λ (x y : List ℕ). x ++ y) (sym first) (sym (take-append-drop 8 (drop 8 bytes)) ∙ ap₂ (λ (x y : List ℕ). x ++ y) (sym second) (behind ∙ sym third))

-- the fields of a vertex, which stand in 33 bytes
pub entry_spelt : (bytes entry rest : List ℕ) (last harm dist : ℕ) → bytes ≡ entry ++ rest → length entry ≡ 33 → ((i : ℕ) → get_or bytes i 0 < 256) → last ≡ field w64 1 entry → harm ≡ field w64 9 entry → dist ≡ field w128 17 entry
    → bytes ≡ get_or entry 0 0 ∷ (to_be_bytes w64 last ++ (to_be_bytes w64 harm ++ (to_be_bytes w128 dist ++ rest)))
entry_spelt bytes [] rest last harm dist split long small a b d = absurd (omega (arith, long))
entry_spelt bytes (x ∷ entry) rest last harm dist split long small a b d =
    split ∙ ap (λ (l : List ℕ). x ∷ (l ++ rest)) (figures_spelt entry last harm dist (omega (arith, long)) (λ i. front_fits bytes (x ∷ entry) rest split small (suc i)) a b d)

-- ---- rows that are zeros
pub zeros_count : (t : Table) (n w : ℕ) → t ≡ record { width = w; rows = replicate n (replicate w 0) } → length t.rows ≡ n
zeros_count t n w is = ap (λ (u : Table). length u.rows) is ∙ length-replicate n (replicate w 0)

pub zeros_are : (t : Table) (n w : ℕ) → t ≡ record { width = w; rows = replicate n (replicate w 0) } → t.rows ≡ replicate (length t.rows) (replicate t.width 0)
zeros_are t n w is = ap (λ (u : Table). u.rows) is ∙ ap₂ (λ (k v : ℕ). replicate k (replicate v 0)) (sym (zeros_count t n w is)) (sym (ap (λ (u : Table). u.width) is))

-- ---- a vertex
entry_then : (mark : Bool) (tally : TallyValue) (row rest : List ℕ) → entry_bytes mark tally (row ++ rest) ≡ entry_bytes mark tally row ++ rest
entry_then mark tally row rest = refl

pub max_zeros : (row : List ℕ) → max_each (replicate (length row) 0) row ≡ row
max_zeros [] = refl
max_zeros (x ∷ row) = ap₂ (λ v more. v ∷ more) (zero-max x) (max_zeros row)

pub added_is : (old new : Vertices) (i : ℕ) (bytes after row rest : List ℕ) (mark : Bool) (tally : Tally) → bytes ≡ entry_bytes mark (value_of tally) after → after ≡ row ++ rest → length row ≡ old.rows.width →
    get_or old.rows.rows i [] ≡ replicate old.rows.width 0 → new.marks.items ≡ old.marks.items ++ mark ∷ [] → new.tallies.items ≡ old.tallies.items ++ tally ∷ [] → new.rows.rows ≡ set old.rows.rows i (max_each (get_or old.rows.rows i []) row) →
    IsAdded old new i bytes rest
added_is old new i bytes after row rest mark tally spelt split long zeros marks tallies rows = record {
  mark = mark;
  tally = tally;
  row = row;
  marks = marks;
  tallies = tallies;
  rows = rows ∙ ap (λ (r : List ℕ). set old.rows.rows i r) (ap (λ (r : List ℕ). max_each r row) (zeros ∙ ap (λ (n : ℕ). replicate n 0) (sym long)) ∙ max_zeros row);
  text = spelt ∙ ap (λ (l : List ℕ). entry_bytes mark (value_of tally) l) split ∙ entry_then mark (value_of tally) row rest;
}

-- ---- all vertices
same_range : (f g : ℕ → List ℕ) (a n : ℕ) → ((k : ℕ) → a ≤ k → k < a + n → f k ≡ g k) → flat_map f (range_with_len a n) ≡ flat_map g (range_with_len a n)
same_range f g a zero same = refl
same_range f g a (suc n) same =
    ap₂ (λ (x y : List ℕ). x ++ y) (same a (omega arith) (omega arith)) (same_range f g (a + 1) n (λ k le lt. same k (omega (arith, le)) (omega (arith, lt))))

range_next : (f : ℕ → List ℕ) (n : ℕ) → flat_map f (range_with_len 0 (n + 1)) ≡ flat_map f (range_with_len 0 n) ++ f n
range_next f n =
    ap (flat_map f) (range_more n) ∙ flat_map-append f (range_with_len 0 n) (n ∷ []) ∙ ap (λ (l : List ℕ). flat_map f (range_with_len 0 n) ++ l) (append-nil (f n))

end_of : {X : Type 0} (xs : List X) (x d : X) (n : ℕ) → length xs ≡ n → get_or (xs ++ x ∷ []) n d ≡ x
end_of xs x d n long = ap (λ (k : ℕ). get_or (xs ++ x ∷ []) k d) (sym long) ∙ get_or-append_seam xs x [] d

pub more_tallies : (old new : Vertices) (tally : Tally) → new.tallies.items ≡ old.tallies.items ++ tally ∷ [] → map value_of new.tallies.items ≡ map value_of old.tallies.items ++ value_of tally ∷ []
more_tallies old new tally e = ap (λ (l : List Tally). map value_of l) e ∙ map-append value_of old.tallies.items (tally ∷ [])

pub one_more : {X : Type 0} (xs ys : List X) (x : X) (n : ℕ) → ys ≡ xs ++ x ∷ [] → length xs ≡ n → length ys ≡ n + 1
one_more xs ys x n e long = ap (λ l. length l) e ∙ length-append xs (x ∷ []) ∙ omega (arith, long)

entry_of : (v : Vertices) (i : ℕ) (mark : Bool) (tally : TallyValue) (row : List ℕ) → get_or v.marks.items i false ≡ mark → get_or (map value_of v.tallies.items) i no_figures ≡ tally → get_or v.rows.rows i [] ≡ row → entry_bytes mark tally row ≡ entry_at v i
entry_of v i mark tally row a b c = rw (a, b, c) refl

new_entry : (old new : Vertices) (i : ℕ) (bytes rest : List ℕ) → (added : IsAdded old new i bytes rest) → length old.marks.items ≡ i → length old.tallies.items ≡ i → i < length old.rows.rows → entry_bytes added.mark (value_of added.tally) added.row ≡ entry_at new i
new_entry old new i bytes rest added marks tallies lt =
    entry_of new i added.mark (value_of added.tally) added.row
    (ap (λ (l : List Bool). get_or l i false) added.marks ∙ end_of old.marks.items added.mark false i marks)
    (ap (λ (l : List TallyValue). get_or l i no_figures) (more_tallies old new added.tally added.tallies) ∙ end_of (map value_of old.tallies.items) (value_of added.tally) no_figures i (length-map old.tallies.items value_of ∙ tallies))
    (ap (λ (l : List (List ℕ)). get_or l i []) added.rows ∙ get_or-set_same old.rows.rows i added.row [] lt)

old_entry : (old new : Vertices) (i : ℕ) (bytes rest : List ℕ) → IsAdded old new i bytes rest → length old.marks.items ≡ i → length old.tallies.items ≡ i → (k : ℕ) → k < i → entry_at old k ≡ entry_at new k
old_entry old new i bytes rest added marks tallies k lt =
    entry_of new k (get_or old.marks.items k false) (get_or (map value_of old.tallies.items) k no_figures) (get_or old.rows.rows k [])
    (ap (λ (l : List Bool). get_or l k false) added.marks ∙ get_or_append_left old.marks.items (added.mark ∷ []) false k (omega (arith, lt, marks)))
    (ap (λ (l : List TallyValue). get_or l k no_figures) (more_tallies old new added.tally added.tallies) ∙ get_or_append_left (map value_of old.tallies.items) (value_of added.tally ∷ []) no_figures k (omega (arith, lt, tallies, length-map old.tallies.items value_of)))
    (ap (λ (l : List (List ℕ)). get_or l k []) added.rows ∙ get_or-set_other old.rows.rows i k added.row [] (omega (arith, lt)))

pub told_more : (old new : Vertices) (i : ℕ) (bytes middle rest : List ℕ) → AreVerticesTold i old bytes middle → IsAdded old new i middle rest → i < length old.rows.rows → AreVerticesTold (i + 1) new bytes rest
told_more old new i bytes middle rest told added lt = record {
  marks = one_more old.marks.items new.marks.items added.mark i added.marks told.marks;
  tallies = one_more old.tallies.items new.tallies.items added.tally i added.tallies told.tallies;
  text = told.text
      ∙ ap₂ (λ (x y : List ℕ). x ++ y) (same_range (entry_at old) (entry_at new) 0 i (λ k le below. old_entry old new i middle rest added told.marks told.tallies k (omega (arith, below))))
      (added.text ∙ ap (λ (l : List ℕ). l ++ rest) (new_entry old new i middle rest added told.marks told.tallies lt))
      ∙ sym (append_assoc (flat_map (entry_at new) (range_with_len 0 i)) (entry_at new i) rest)
      ∙ ap (λ (l : List ℕ). l ++ rest) (sym (range_next (entry_at new) i));
}

pub told_none : (v : Vertices) (bytes : List ℕ) → AreNone v → AreVerticesTold 0 v bytes bytes
told_none v bytes none = record {
  marks = ap (λ (l : List Bool). length l) none.marks;
  tallies = ap (λ (l : List Tally). length l) none.tallies;
  text = refl;
}

-- the rows from row n on are zeros
abbrev pub AreZeros : ℕ → Table → Type 0
AreZeros n t = (i : ℕ) → n ≤ i → i < length t.rows → get_or t.rows i [] ≡ replicate t.width 0

pub zeros_first : (v : Vertices) → AreNone v → AreZeros 0 v.rows
zeros_first v none i le lt =
    ap (λ (l : List (List ℕ)). get_or l i []) none.rows ∙ get_or-replicate (length v.rows.rows) i (replicate v.rows.width 0) [] lt

pub zeros_then : (old new : Vertices) (i : ℕ) (bytes rest : List ℕ) → IsAdded old new i bytes rest → new.rows.width ≡ old.rows.width → AreZeros i old.rows → AreZeros (i + 1) new.rows
zeros_then old new i bytes rest added width zeros k le lt =
    let long : length new.rows.rows ≡ length old.rows.rows = ap (λ (l : List (List ℕ)). length l) added.rows ∙ length-set old.rows.rows i added.row in
    ap (λ (l : List (List ℕ)). get_or l k []) added.rows
    ∙ get_or-set_other old.rows.rows i k added.row [] (omega (arith, le))
    ∙ zeros k (omega (arith, le)) (omega (arith, lt, long))
    ∙ ap (λ (n : ℕ). replicate n 0) (sym width)

-- ---- sums
pub sums_more : (sums more : List ℕ) (sum : ℕ) (bytes middle rest : List ℕ) → bytes ≡ flat_map (to_be_bytes w128) sums ++ middle → middle ≡ to_be_bytes w128 sum ++ rest → more ≡ sums ++ sum ∷ [] → bytes ≡ flat_map (to_be_bytes w128) more ++ rest
sums_more sums more sum bytes middle rest before here e =
    before ∙ ap (λ (l : List ℕ). flat_map (to_be_bytes w128) sums ++ l) here
    ∙ sym (append_assoc (flat_map (to_be_bytes w128) sums) (to_be_bytes w128 sum) rest)
    ∙ ap (λ (l : List ℕ). l ++ rest)
    (sym (ap (flat_map (to_be_bytes w128)) e ∙ flat_map-append (to_be_bytes w128) sums (sum ∷ []) ∙ ap (λ (l : List ℕ). flat_map (to_be_bytes w128) sums ++ l) (append-nil (to_be_bytes w128 sum))))

pub one_sum_more : (sums more : List ℕ) (sum n : ℕ) → more ≡ sums ++ sum ∷ [] → length sums ≡ n → length more ≡ n + 1
one_sum_more sums more sum n e long = one_more sums more sum n e long
