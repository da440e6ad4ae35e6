use Rattle.std.proofs.Common.{◌≡◌, ◌≤◌, ◌<◌, ◌++◌, ℕ, List, [], length, get_or, take}
use Rattle.std.specs.Prelude.{replicate}
use Rattle.checkpoint.proofs.HeldLemmas.{joined}
use Rattle.checkpoint.proofs.RightLemmas.{Stands}
use Rattle.checkpoint.proofs.saved.put_rows.Given as goal

-- the first rows are put, and the others are 0
abbrev pub invariant-loop-i : goal.invariant-loop-i
invariant-loop-i l = record {
  count : length l.rows.rows ≡ length l.initial.rows.rows;
  width : l.rows.width ≡ l.initial.rows.width;
  zeros : (k : ℕ) → l.i ≤ k → k < length l.rows.rows → get_or l.rows.rows k [] ≡ replicate l.rows.width 0;
  spelled : l.bytes ≡ joined (take l.i l.rows.rows) ++ l.rest;
  right : (wanted : List (List ℕ)) (rest : List ℕ) → length wanted ≡ length l.initial.rows.rows → ((k : ℕ) → k < length wanted → length (get_or wanted k []) ≡ l.initial.rows.width)
      → l.bytes ≡ joined wanted ++ rest → (take l.i l.rows.rows ≡ take l.i wanted) × Stands (λ row. row) wanted l.i l.rest rest;
}
