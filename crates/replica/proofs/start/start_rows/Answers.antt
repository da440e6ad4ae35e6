use Rattle.std.proofs.Common.{refl, arith}
use Rattle.replica.proofs.StartLemmas.Start.{first_rows-is}
use Rattle.replica.proofs.start.start_rows.Goals as goal

pub returns : goal.returns
returns c =
    let inv = c.loop-i.invariant in
    rw (← inv.width, ← first_rows-is c.args.part.now c.loop-i.rows.rows inv.count (λ k lt. inv.done k (omega (arith, c.loop-i-test.false, c.size-i-end.ensures.lists)))) refl
