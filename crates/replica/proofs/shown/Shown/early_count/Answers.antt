use Rattle.std.proofs.Common.{length, ap, sym, ◌∙◌, arith, subst}
use Rattle.replica.proofs.Names.{length-map, BatchValue, State}
use Rattle.ball_model.specs.Checkpoint.{kept_batches}
use Rattle.replica.specs.Seen.{IsState}
use Rattle.replica.proofs.HearingLemmas.Accumulator.{state_is}
use Rattle.replica.proofs.KeptLemmas.Kept.{early_named, few_early}
use Rattle.replica.proofs.shown.Shown.early_count.Goals as goal

pub overflow_cast-result : goal.overflow_cast-result
overflow_cast-result g c =
    let state : IsState c.shown-s.result.now.state = subst (λ (v : State). IsState v) (state_is c.s.view_is) c.s.invariant.state in
    omega (arith, c.count.ensures, few_early c.shown-s.result.now.state state, ap (λ (v : State). length (kept_batches v.early)) (state_is c.s.view_is))

pub returns-clause-names : goal.returns-clause-names
returns-clause-names g c =
    rw (← c.shown-s.ensures) (
    let state : IsState c.shown-s.result.now.state = subst (λ (v : State). IsState v) (state_is c.s.view_is) c.s.invariant.state in
    c.count.ensures
    ∙ ap (λ (v : State). length (kept_batches v.early)) (state_is c.s.view_is)
    ∙ sym (length-map (kept_batches c.shown-s.result.now.state.early) (λ (b : BatchValue). b.name))
    ∙ ap length (early_named c.shown-s.result.now.state state))
