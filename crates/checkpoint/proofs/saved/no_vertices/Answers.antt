use Rattle.std.proofs.Common.{arith}
use Rattle.checkpoint.proofs.SavedLemmas.{zeros_are, zeros_count}
use Rattle.checkpoint.proofs.saved.no_vertices.Goals as goal

pub returns-clause-none : goal.returns-clause-none
returns-clause-none c = record {
  marks = c.in_ok-with_capacity.ensures.items;
  tallies = c.in_ok-with_capacity-2.ensures.items;
  rows = zeros_are _ _ _ c.in_ok-fixed.ensures;
}

pub returns-clause-room : goal.returns-clause-room
returns-clause-room c =
    let count = zeros_count _ _ _ c.in_ok-fixed.ensures in
    record { marks = omega (arith, count, c.in_ok-with_capacity.ensures.exact); tallies = omega (arith, count, c.in_ok-with_capacity-2.ensures.exact) }
