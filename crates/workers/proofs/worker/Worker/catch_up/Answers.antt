use Rattle.std.proofs.Common.{refl, sym, subst}
use Rattle.std.proofs.lemmas.Option.{MatchOption-at_none, MatchOption-at_some}
use Rattle.std.specs.Arc.{arc_value}
use Rattle.ball_model.specs.History.{holding_in}
use Rattle.ball_model.specs.State.{State}
use Rattle.replica.specs.Merged.{Absorbs}
use Rattle.replica.specs.Seen.{IsState}
use Rattle.replica.proofs.LevelLemmas.Level.{number_is}
use Rattle.ball_model.proofs.CheckLemmas.{on_err}
use Rattle.workers.proofs.PathLemmas.{come_nowhere, gone_nowhere, gone, come_by_call, held_merged}
use Rattle.workers.proofs.worker.Worker.catch_up.Goals as goal

pub returns-in_err-snapshot-clause-gone : goal.returns-in_err-snapshot-clause-gone
returns-in_err-snapshot-clause-gone g c = on_err c.from_residual.result (gone_nowhere _ _ _ _ c.in_err-snapshot.ensures.refused)

pub returns-in_default-clause-came : goal.returns-in_default-clause-came
returns-in_default-clause-came g c = come_nowhere _ _ _ _ (MatchOption-at_none _ _ c.in_default.is c.in_ok-snapshot.ensures.none)

pub returns-in_default-merge-clause-gone : goal.returns-in_default-merge-clause-gone
returns-in_default-merge-clause-gone g c =
    let called = MatchOption-at_some _ _ c.in-Some.snapshot c.in-Some.is c.in_ok-snapshot.ensures.found in
    gone _ _ _ _ _ (come_by_call _ _ _ _ _ _ called (sym (number_is _ _ _ c.args.replica.now c.requires.stands)) refl tt (λ keep. tt))

pub returns-clause-came : goal.returns-clause-came
returns-clause-came g c =
    let v = g.E.Exchange.caller c.args.exchange.now in
    let p = c.args.self.now.node.part in
    let r : State = c.args.replica.now in
    let snapshot : State = arc_value c.in-Some.snapshot in
    let called = MatchOption-at_some _ _ c.in-Some.snapshot c.in-Some.is c.in_ok-snapshot.ensures.found in
    let theirs = MatchOption-at_some _ _ c.in-Some.snapshot c.in-Some.is c.in_ok-snapshot.ensures.snapshot in
    let state : IsState snapshot = subst IsState c.deref.ensures c.limits-2.ensures.state in
    let absorbs : Absorbs r snapshot c.merge.new.self =
    subst (λ (o : State). Absorbs r o c.merge.new.self) c.deref-2.ensures (record { part = c.merge.ensures.part; shown = c.in-Ok.ensures.shown; names = c.in-Ok.ensures.names; stands = c.in-Ok.ensures.stands }) in
    come_by_call v _ p _ (holding_in r) _ called (sym (number_is v.seen.job p _ r c.requires.stands)) (sym (held_merged v.seen.job p _ _ r snapshot c.merge.new.self c.requires.stands theirs c.limits.ensures.state state absorbs)) tt (λ keep. tt)
