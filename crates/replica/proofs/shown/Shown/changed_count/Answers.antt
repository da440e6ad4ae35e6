use Rattle.std.proofs.Common.{length, ap, arith, subst}
use Rattle.replica.proofs.Names.{State}
use Rattle.replica.specs.Seen.{IsState}
use Rattle.replica.proofs.HearingLemmas.Accumulator.{state_is}
use Rattle.replica.proofs.SeenLemmas.Read.{few}
use Rattle.replica.proofs.shown.Shown.changed_count.Goals as goal

pub overflow_cast-result : goal.overflow_cast-result
overflow_cast-result g c =
    let state : IsState c.shown-s.result.now.state = subst (λ (v : State). IsState v) (state_is c.s.view_is) c.s.invariant.state in
    omega (arith, c.count_set.ensures.within, few c.shown-s.result.now.state state, state.marks, ap (λ (v : State). length v.marks) (state_is c.s.view_is), ap length c.marks.ensures)
