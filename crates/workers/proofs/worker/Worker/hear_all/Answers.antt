use Rattle.std.proofs.Common.{◌∙◌, ◌+◌, ◌<◌, ℕ, ap, refl, sym, subst}
use Rattle.std.proofs.lemmas.Result.{err_from_is_err_and}
use Rattle.ball_model.specs.Caller.{Caller}
use Rattle.ball_model.specs.State.{State}
use Rattle.replica.specs.Sent.{batch_name}
use Rattle.workers.specs.Node.{WasMissing}
use Rattle.workers.specs.Superstep.{HasRecalled}
use Rattle.ball_model.proofs.CheckLemmas.{on_err}
use Rattle.workers.proofs.PathLemmas.{come_nowhere, come_past, come_then, gone_then, ok_is_no_err}
use Rattle.workers.proofs.SeenLemmas.{caller_of, extends_self, extends_trans, missing_before, missing_later}
use Rattle.workers.proofs.SuperstepLemmas.{is_further, missing_source, no_other, stands_back, stands_later}
use Rattle.workers.proofs.worker.Worker.hear_all.Goals as goal

pub returns-in_err-find-clause-alone : goal.returns-in_err-find-clause-alone
returns-in_err-find-clause-alone g c = λ one _.
    let source = missing_source _ _ _ c.in-Some-missing.source c.loop.replica c.loop.invariant.1 (sym c.missing.ensures ∙ c.in-Some-missing.is) in
    no_other _ _ _ c.in-Some-missing.source c.loop.replica c.loop.invariant.1 source.0 source.1 one

pub returns-in_err-catch_up-clause-alone : goal.returns-in_err-catch_up-clause-alone
returns-in_err-catch_up-clause-alone g c = λ one _.
    let source = missing_source _ _ _ c.in-Some-missing.source c.loop.replica c.loop.invariant.1 (sym c.missing.ensures ∙ c.in-Some-missing.is) in
    no_other _ _ _ c.in-Some-missing.source c.loop.replica c.loop.invariant.1 source.0 source.1 one

pub returns-then-not-has_grown-clause-found : goal.returns-then-not-has_grown-clause-found
returns-then-not-has_grown-clause-found g c =
    let caller = g.E.Exchange.caller in
    let v : Caller = caller c.args.exchange.now in
    let looked : Caller = caller c.length-length.new.self in
    let w : Caller = caller c.has_grown.new.exchange in
    let p : ℕ = c.args.self.now.node.part in
    let q : ℕ = c.in-Some-missing.source in
    let i = c.loop.invariant in
    let source = missing_source v.seen.job p _ q c.loop.replica i.1 (sym c.missing.ensures ∙ c.in-Some-missing.is) in
    let before = extends_trans v _ looked i.0 c.length-length.ensures.seen in
    let after = extends_trans _ _ w c.catch_up.ensures.seen c.has_grown.ensures.seen in
    let missed : WasMissing v (batch_name c.loop.replica.superstep q p) w =
    missing_later v _ w _ (missing_before v looked _ _ before (c.in_ok-find.ensures.missed c.if-branch.false)) after in (
      record { missing = subst (λ (s : ℕ). WasMissing v (batch_name s q p) w) i.2 missed; below = source.0; other = source.1 },
      ap (λ (r : State). r.superstep) (c.in_ok-catch_up.ensures.none c.if-branch-2.false) ∙ (c.find.ensures.superstep ∙ i.2),
    )

pub returns-in_default-clause-came : goal.returns-in_default-clause-came
returns-in_default-clause-came g c = c.loop.invariant.3

pub returns-in_err-find-clause-gone : goal.returns-in_err-find-clause-gone
returns-in_err-find-clause-gone g c =
    let i = c.loop.invariant in
    on_err c.from_residual.result
    (gone_then _ _ _ _ _ _ (extends_trans _ _ _ i.0 c.length-length.ensures.seen) (come_past _ _ _ _ _ _ i.0 i.3 c.length-length.ensures.nothing) c.in_err-find.ensures.gone)

pub returns-in_err-catch_up-clause-gone : goal.returns-in_err-catch_up-clause-gone
returns-in_err-catch_up-clause-gone g c =
    let i = c.loop.invariant in
    let looked = extends_trans _ _ _ i.0 c.length-length.ensures.seen in
    let found = come_then _ _ _ _ _ _ _ looked (come_past _ _ _ _ _ _ i.0 i.3 c.length-length.ensures.nothing) c.in_ok-find.ensures.came in
    on_err c.from_residual-in_err-catch_up.result (gone_then _ _ _ _ _ _ (extends_trans _ _ _ looked c.find.ensures.seen) found c.in_err-catch_up.ensures.gone)

pub returns-then-branch-2-clause-came : goal.returns-then-branch-2-clause-came
returns-then-branch-2-clause-came g c =
    let i = c.loop.invariant in
    let looked = extends_trans _ _ _ i.0 c.length-length.ensures.seen in
    let found = come_then _ _ _ _ _ _ _ looked (come_past _ _ _ _ _ _ i.0 i.3 c.length-length.ensures.nothing) c.in_ok-find.ensures.came in
    come_then _ _ _ _ _ _ _ (extends_trans _ _ _ looked c.find.ensures.seen) found c.in_ok-catch_up.ensures.came

pub returns-then-not-has_grown-clause-came : goal.returns-then-not-has_grown-clause-came
returns-then-not-has_grown-clause-came g c =
    let i = c.loop.invariant in
    let looked = extends_trans _ _ _ i.0 c.length-length.ensures.seen in
    let found = come_then _ _ _ _ _ _ _ looked (come_past _ _ _ _ _ _ i.0 i.3 c.length-length.ensures.nothing) c.in_ok-find.ensures.came in
    let taken = extends_trans _ _ _ looked c.find.ensures.seen in
    come_past _ _ _ _ _ _ (extends_trans _ _ _ taken c.catch_up.ensures.seen) (come_then _ _ _ _ _ _ _ taken found c.in_ok-catch_up.ensures.came) c.has_grown.ensures.nothing

pub loop-init : goal.loop-init
loop-init g c = (extends_self _ c.requires.caller, c.requires.stands, refl, come_nowhere _ _ _ _ refl)

pub loop-preserved-then-branch : goal.loop-preserved-then-branch
loop-preserved-then-branch g c =
    let caller = g.E.Exchange.caller in
    let v : Caller = caller c.args.exchange.now in
    let looked : Caller = caller c.length-length.new.self in
    let i = c.loop.invariant in
    let before = extends_trans v _ looked i.0 c.length-length.ensures.seen in (
      extends_trans v looked _ before c.find.ensures.seen,
      stands_back v looked c.args.self.now.node.part c.find.new.replica before c.in_ok-find.ensures.stands,
      c.find.ensures.superstep ∙ i.2,
      come_then _ _ _ _ _ _ _ before (come_past _ _ _ _ _ _ i.0 i.3 c.length-length.ensures.nothing) c.in_ok-find.ensures.came,
    )

pub loop-preserved : goal.loop-preserved
loop-preserved g c =
    let caller = g.E.Exchange.caller in
    let v : Caller = caller c.args.exchange.now in
    let looked : Caller = caller c.length-length.new.self in
    let found : Caller = caller c.find.new.exchange in
    let caught : Caller = caller c.catch_up.new.exchange in
    let i = c.loop.invariant in
    let before = extends_trans v _ looked i.0 c.length-length.ensures.seen in
    let taken = extends_trans v looked found before c.find.ensures.seen in
    let after = extends_trans v found caught taken c.catch_up.ensures.seen in
    let come = come_then _ _ _ _ _ _ _ before (come_past _ _ _ _ _ _ i.0 i.3 c.length-length.ensures.nothing) c.in_ok-find.ensures.came in (
      extends_trans v caught _ after c.has_grown.ensures.seen,
      stands_back v found c.args.self.now.node.part c.catch_up.new.replica taken c.in_ok-catch_up.ensures.stands,
      ap (λ (r : State). r.superstep) (c.in_ok-catch_up.ensures.none c.if-branch-2.false) ∙ (c.find.ensures.superstep ∙ i.2),
      come_past _ _ _ _ _ _ after (come_then _ _ _ _ _ _ _ taken come c.in_ok-catch_up.ensures.came) c.has_grown.ensures.nothing,
    )

pub find-requires-clause-caller : goal.find-requires-clause-caller
find-requires-clause-caller g c κs within = caller_of _ _ c.length-length.ensures.seen

pub find-requires-clause-stands : goal.find-requires-clause-stands
find-requires-clause-stands g c κs within = stands_later (g.E.Exchange.caller c.args.exchange.now) (g.E.Exchange.caller c.length-length.new.self) _ c.loop.replica (extends_trans _ _ _ c.loop.invariant.0 c.length-length.ensures.seen) c.loop.invariant.1

pub catch_up-requires-clause-caller : goal.catch_up-requires-clause-caller
catch_up-requires-clause-caller g c κs within = caller_of _ _ c.find.ensures.seen

pub catch_up-requires-clause-stands : goal.catch_up-requires-clause-stands
catch_up-requires-clause-stands g c κs within = stands_later (g.E.Exchange.caller c.length-length.new.self) (g.E.Exchange.caller c.find.new.exchange) _ c.find.new.replica c.find.ensures.seen c.in_ok-find.ensures.stands

pub has_grown-requires-clause-caller : goal.has_grown-requires-clause-caller
has_grown-requires-clause-caller g c κs within = caller_of _ _ c.catch_up.ensures.seen

pub returns-in_default-clause-seen : goal.returns-in_default-clause-seen
returns-in_default-clause-seen g c = c.loop.invariant.0

pub returns-in_default-clause-stands : goal.returns-in_default-clause-stands
returns-in_default-clause-stands g c = c.loop.invariant.1

pub returns-in_err-find-clause-seen : goal.returns-in_err-find-clause-seen
returns-in_err-find-clause-seen g c = extends_trans _ _ _ (extends_trans _ _ _ c.loop.invariant.0 c.length-length.ensures.seen) c.find.ensures.seen

pub returns-in_err-catch_up-clause-seen : goal.returns-in_err-catch_up-clause-seen
returns-in_err-catch_up-clause-seen g c = extends_trans _ _ _ (extends_trans _ _ _ (extends_trans _ _ _ c.loop.invariant.0 c.length-length.ensures.seen) c.find.ensures.seen) c.catch_up.ensures.seen

pub returns-then-branch-2-clause-seen : goal.returns-then-branch-2-clause-seen
returns-then-branch-2-clause-seen g c = extends_trans _ _ _ (extends_trans _ _ _ (extends_trans _ _ _ c.loop.invariant.0 c.length-length.ensures.seen) c.find.ensures.seen) c.catch_up.ensures.seen

pub returns-then-not-has_grown-clause-seen : goal.returns-then-not-has_grown-clause-seen
returns-then-not-has_grown-clause-seen g c = extends_trans _ _ _ (extends_trans _ _ _ (extends_trans _ _ _ (extends_trans _ _ _ c.loop.invariant.0 c.length-length.ensures.seen) c.find.ensures.seen) c.catch_up.ensures.seen) c.has_grown.ensures.seen

pub returns-then-branch-2-clause-stands : goal.returns-then-branch-2-clause-stands
returns-then-branch-2-clause-stands g c = stands_back (g.E.Exchange.caller c.args.exchange.now) (g.E.Exchange.caller c.find.new.exchange) _ c.catch_up.new.replica (extends_trans _ _ _ (extends_trans _ _ _ c.loop.invariant.0 c.length-length.ensures.seen) c.find.ensures.seen) c.in_ok-catch_up.ensures.stands

pub returns-then-not-has_grown-clause-stands : goal.returns-then-not-has_grown-clause-stands
returns-then-not-has_grown-clause-stands g c = stands_back (g.E.Exchange.caller c.args.exchange.now) (g.E.Exchange.caller c.find.new.exchange) _ c.catch_up.new.replica (extends_trans _ _ _ (extends_trans _ _ _ c.loop.invariant.0 c.length-length.ensures.seen) c.find.ensures.seen) c.in_ok-catch_up.ensures.stands

pub returns-in_err-find-clause-stands : goal.returns-in_err-find-clause-stands
returns-in_err-find-clause-stands g c = let p = err_from_is_err_and c.from_residual.result c.from_residual.ensures.1 in rw (p.1) tt

pub returns-in_err-find-clause-found : goal.returns-in_err-find-clause-found
returns-in_err-find-clause-found g c = let p = err_from_is_err_and c.from_residual.result c.from_residual.ensures.1 in rw (p.1) tt

pub returns-in_err-find-clause-came : goal.returns-in_err-find-clause-came
returns-in_err-find-clause-came g c = let p = err_from_is_err_and c.from_residual.result c.from_residual.ensures.1 in rw (p.1) tt

pub returns-in_err-find-clause-full : goal.returns-in_err-find-clause-full
returns-in_err-find-clause-full g c = let p = err_from_is_err_and c.from_residual.result c.from_residual.ensures.1 in rw (p.1, p.2) c.in_err-find.ensures.full

pub returns-in_err-catch_up-clause-stands : goal.returns-in_err-catch_up-clause-stands
returns-in_err-catch_up-clause-stands g c = let p = err_from_is_err_and c.from_residual-in_err-catch_up.result c.from_residual-in_err-catch_up.ensures.1 in rw (p.1) tt

pub returns-in_err-catch_up-clause-found : goal.returns-in_err-catch_up-clause-found
returns-in_err-catch_up-clause-found g c = let p = err_from_is_err_and c.from_residual-in_err-catch_up.result c.from_residual-in_err-catch_up.ensures.1 in rw (p.1) tt

pub returns-in_err-catch_up-clause-came : goal.returns-in_err-catch_up-clause-came
returns-in_err-catch_up-clause-came g c = let p = err_from_is_err_and c.from_residual-in_err-catch_up.result c.from_residual-in_err-catch_up.ensures.1 in rw (p.1) tt

pub returns-in_err-catch_up-clause-full : goal.returns-in_err-catch_up-clause-full
returns-in_err-catch_up-clause-full g c = let p = err_from_is_err_and c.from_residual-in_err-catch_up.result c.from_residual-in_err-catch_up.ensures.1 in rw (p.1, p.2) c.in_err-catch_up.ensures.full

pub returns-in_default-clause-gone : goal.returns-in_default-clause-gone
returns-in_default-clause-gone g c = tt

pub returns-in_default-clause-full : goal.returns-in_default-clause-full
returns-in_default-clause-full g c = tt

pub returns-in_default-clause-alone : goal.returns-in_default-clause-alone
returns-in_default-clause-alone g c = λ _. ok_is_no_err _ _

pub returns-then-branch-2-clause-gone : goal.returns-then-branch-2-clause-gone
returns-then-branch-2-clause-gone g c = tt

pub returns-then-branch-2-clause-full : goal.returns-then-branch-2-clause-full
returns-then-branch-2-clause-full g c = tt

pub returns-then-branch-2-clause-alone : goal.returns-then-branch-2-clause-alone
returns-then-branch-2-clause-alone g c = λ _. ok_is_no_err _ _

pub returns-then-not-has_grown-clause-gone : goal.returns-then-not-has_grown-clause-gone
returns-then-not-has_grown-clause-gone g c = tt

pub returns-then-not-has_grown-clause-full : goal.returns-then-not-has_grown-clause-full
returns-then-not-has_grown-clause-full g c = tt

pub returns-then-not-has_grown-clause-alone : goal.returns-then-not-has_grown-clause-alone
returns-then-not-has_grown-clause-alone g c = λ _. ok_is_no_err _ _

pub returns-in_default-clause-found : goal.returns-in_default-clause-found
returns-in_default-clause-found g c = (sym c.missing.ensures ∙ c.in_default.is, c.loop.invariant.2)

pub returns-then-branch-2-clause-found : goal.returns-then-branch-2-clause-found
returns-then-branch-2-clause-found g c =
    let caller = g.E.Exchange.caller in
    let v : Caller = caller c.find.new.exchange in
    let w : Caller = caller c.catch_up.new.exchange in
    let r : State = c.catch_up.new.replica in
    let s : ℕ = c.find.new.replica.superstep in
    let found = subst (λ (n : ℕ). HasRecalled v c.args.self.now.node.part n s r.superstep w) (ap (λ (n : ℕ). n + 1) c.superstep.ensures.value) (c.in_ok-catch_up.ensures.found c.if-branch-2.true) in
    subst (λ (n : ℕ). n < r.superstep) (c.find.ensures.superstep ∙ c.loop.invariant.2) (is_further v w c.args.self.now.node.part s s r.superstep found c.catch_up.ensures.seen)
