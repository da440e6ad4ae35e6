use Rattle.std.proofs.Common.{◌≡◌, ℕ, ◌<◌, map, [], slice_index_or}
use Rattle.ball_model.specs.Figures.{estimate_with}
use Rattle.figures.proofs.lasts.are_by_table.Given as goal

abbrev pub invariant-loop-i : goal.invariant-loop-i
invariant-loop-i l = record {
  done : (k : ℕ) → k < l.i → slice_index_or (map (λ tally. tally.last) l.tallies) k 0
      ≡ estimate_with (record { log2m = l.log2m; corrected = l.is_corrected }) (slice_index_or l.rows.rows k []);
}
