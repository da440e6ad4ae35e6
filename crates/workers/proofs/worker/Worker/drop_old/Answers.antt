use Rattle.std.proofs.Common.{arith, inl, inr, refl}
use Rattle.workers.proofs.PathLemmas.{come_by_call, come_nowhere}
use Rattle.workers.proofs.worker.Worker.drop_old.Goals as goal

pub returns-then-every-ne1-clause-dropped : goal.returns-then-every-ne1-clause-dropped
returns-then-every-ne1-clause-dropped g c = inl refl

pub returns-clause-dropped : goal.returns-clause-dropped
returns-clause-dropped g c = inr c.in_ok-drop_below.ensures.ok

pub returns-then-every-ne1-clause-came : goal.returns-then-every-ne1-clause-came
returns-then-every-ne1-clause-came g c = λ p h at. come_nowhere _ _ p h refl

pub returns-in_err-drop_below-clause-came : goal.returns-in_err-drop_below-clause-came
returns-in_err-drop_below-clause-came g c = λ p h at. come_nowhere _ _ p h c.in_err-drop_below.ensures.refused

pub returns-clause-came : goal.returns-clause-came
returns-clause-came g c = λ p h at. come_by_call _ _ p _ h h c.in_ok-drop_below.ensures.ok tt refl (omega (arith, at)) (λ keep. tt)
