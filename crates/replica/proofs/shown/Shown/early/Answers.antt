use Rattle.std.proofs.Common.{ap, ◌∙◌, subst}
use Rattle.replica.proofs.Names.{slice_get, State}
use Rattle.ball_model.specs.Checkpoint.{kept_batches}
use Rattle.replica.specs.Seen.{IsState}
use Rattle.replica.proofs.HearingLemmas.Accumulator.{state_is}
use Rattle.replica.proofs.KeptLemmas.Kept.{nth_name}
use Rattle.replica.proofs.shown.Shown.early.Goals as goal

pub returns-clause-name : goal.returns-clause-name
returns-clause-name g c =
    rw (← c.shown-s.ensures) (
    let state : IsState c.shown-s.result.now.state = subst (λ (v : State). IsState v) (state_is c.s.view_is) c.s.invariant.state in
    nth_name (λ b. b.now) c.shown-s.result.now.state c.args.i c.nth.result state (c.nth.ensures ∙ ap (λ (v : State). slice_get (kept_batches v.early) c.args.i) (state_is c.s.view_is)))
