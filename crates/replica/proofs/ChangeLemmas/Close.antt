-- The answer to a close.
use Rattle.std.proofs.Common.{◌≡◌, ℕ, ◌+◌, arith, sym, ◌∙◌}
use Rattle.replica.proofs.Names.{Option, None, Result, Ok, OnOk, Job, close_unless, missing_of, State, StandsFor, content_of}
use Rattle.ball_model.specs.declared.names.Verdict.{Verdict}
use Rattle.ball_model.specs.declared.names.Verdict.TheVariants as verdict
use Rattle.ball_model.specs.declared.names.CloseError.{CloseError}
use Rattle.replica.specs.Change.{Advances}
use Rattle.replica.specs.Level.{level_verdict, close_answer}
use Rattle.replica.specs.Seen.{IsState}
use Rattle.replica.proofs.LevelLemmas.Level.{Ready}
use Rattle.replica.proofs.LevelLemmas.Busy.{level_is}
use Rattle.replica.proofs.LevelLemmas.Verdict.{end_further}
use Rattle.replica.proofs.ChangeLemmas.Advance.{advance_stands}

ok_from : (o : Option ℕ) (v : Verdict) (t n : ℕ) → close_unless o v t ≡ Ok n → (o ≡ None) × (v ≡ verdict.GoOn) × (n ≡ t + 1)
ok_from o v t n e = grind arith

-- what an Ok says
pub closes : (v : State) (r : Result ℕ CloseError) (n : ℕ) → r ≡ close_answer v → r ≡ Ok n → (missing_of v.part.plan.parts v.part.number (content_of v) ≡ None) × (level_verdict v ≡ verdict.GoOn) × (n ≡ v.superstep + 1)
closes v r n is ok = ok_from (missing_of v.part.plan.parts v.part.number (content_of v)) (level_verdict v) v.superstep n (sym is ∙ ok)

pub on_ok : {P Q : Type 0} (r : Result ℕ CloseError) → OnOk r P → ((n : ℕ) → r ≡ Ok n → P → Q) → OnOk r Q
on_ok r p f = grind arith

-- a replica that stands for its content and closes stands for the next superstep
pub close_stands : (j : Job) (p t n : ℕ) (v w : State) (r : Result ℕ CloseError) → StandsFor j p t v → IsState v → r ≡ close_answer v → r ≡ Ok n → Advances v w → StandsFor j p (t + 1) w
close_stands j p t n v w r h s is ok a =
    let says = closes v r n is ok in
    let ready : Ready j p t v = record { stands = h; none = says.0 } in
    advance_stands j p t v w ready a (end_further j t h.job h.in_time (sym (level_is j p t v ready) ∙ says.1))
