use Rattle.std.proofs.Common.{◌∙◌, ℕ, ap, inl, inr, refl, sym, subst}
use Rattle.std.proofs.lemmas.Result.{err_from_is_err_and}
use Rattle.ball_model.specs.Caller.{Caller}
use Rattle.ball_model.specs.Job.{Job}
use Rattle.ball_model.specs.State.{State}
use Rattle.workers.specs.declared.worker.superstep.Found.{Found}
use Rattle.workers.specs.Node.{HasToldAll}
use Rattle.workers.specs.Superstep.{HasStarved, IsFound, StandsIn}
use Rattle.ball_model.proofs.CheckLemmas.{on_err}
use Rattle.workers.proofs.PathLemmas.{err_not_as, gone, left_by, left_then, ok_is_no_err, path_close, path_then}
use Rattle.workers.proofs.SeenLemmas.{caller_of, extends_trans, first_by_call, first_later, kept_by_call, kept_later, told_between, waiting_before}
use Rattle.ball_model.specs.History.{holding_in}
use Rattle.workers.specs.Tie.{KeptIfTold}
use Rattle.workers.proofs.SuperstepLemmas.{at_level, closed_end, stands_back, stands_later}
use Rattle.workers.proofs.worker.Worker.run_superstep.Goals as goal

pub tell_all-requires-clause-caller : goal.tell_all-requires-clause-caller
tell_all-requires-clause-caller g c κs within = caller_of _ _ c.keep_snapshot.ensures.seen

pub tell_all-requires-clause-stands : goal.tell_all-requires-clause-stands
tell_all-requires-clause-stands g c κs within =
    let v : Caller = g.E.Exchange.caller c.args.exchange.now in
    let stands = subst (λ (r : State). StandsIn v c.args.self.now.node.part r) (sym c.keep_snapshot.ensures.same) c.requires.stands in
    stands_later v _ c.args.self.now.node.part c.keep_snapshot.new.replica c.keep_snapshot.ensures.seen stands

pub drop_old-requires-clause-caller : goal.drop_old-requires-clause-caller
drop_old-requires-clause-caller g c κs within = caller_of _ _ c.tell_all.ensures.seen

pub hear_all-requires-clause-caller : goal.hear_all-requires-clause-caller
hear_all-requires-clause-caller g c κs within = caller_of _ _ c.drop_old.ensures.seen

pub hear_all-requires-clause-stands : goal.hear_all-requires-clause-stands
hear_all-requires-clause-stands g c κs within =
    let v : Caller = g.E.Exchange.caller c.args.exchange.now in
    let stands = subst (λ (r : State). StandsIn v c.args.self.now.node.part r) (sym c.keep_snapshot.ensures.same) c.requires.stands in
    let before = extends_trans v _ _ (extends_trans v _ _ c.keep_snapshot.ensures.seen c.tell_all.ensures.seen) c.drop_old.ensures.seen in
    stands_later v _ c.args.self.now.node.part c.keep_snapshot.new.replica before stands

pub returns-in_err-keep_snapshot : goal.returns-in_err-keep_snapshot
returns-in_err-keep_snapshot g c =
    let p = err_from_is_err_and c.from_residual.result c.from_residual.ensures.1 in
    record {
      seen = c.keep_snapshot.ensures.seen;
      ends = rw (p.1) tt;
      gone = on_err c.from_residual.result (left_by _ _ _ _ _ c.in_err-keep_snapshot.ensures.gone);
      full = rw (p.1, p.2) c.in_err-keep_snapshot.ensures.full;
      alone = λ _ none. rw (p.1, p.2) (err_not_as _ _ (c.in_err-keep_snapshot.ensures.never none));
    }

pub returns-in_err-tell_all : goal.returns-in_err-tell_all
returns-in_err-tell_all g c =
    let p = err_from_is_err_and c.from_residual-in_err-tell_all.result c.from_residual-in_err-tell_all.ensures.1 in
    record {
      seen = extends_trans _ _ _ c.keep_snapshot.ensures.seen c.tell_all.ensures.seen;
      ends = rw (p.1) tt;
      gone = on_err c.from_residual-in_err-tell_all.result (left_then _ _ _ _ _ _ _ c.keep_snapshot.ensures.seen c.in_ok-keep_snapshot.ensures.came (left_by _ _ _ _ _ c.in_err-tell_all.ensures.gone));
      full = rw (p.1, p.2) c.in_err-tell_all.ensures.full;
      alone = λ one _. rw (p.1, p.2) (err_not_as _ _ (c.in_err-tell_all.ensures.alone (ap (λ (j : Job). j.plan.parts) c.keep_snapshot.ensures.seen.begins.job ∙ one)));
    }

pub returns-in_err-drop_old : goal.returns-in_err-drop_old
returns-in_err-drop_old g c =
    let p = err_from_is_err_and c.from_residual-in_err-drop_old.result c.from_residual-in_err-drop_old.ensures.1 in
    let part = c.args.self.now.node.part in
    let h = holding_in c.keep_snapshot.new.replica in
    let told = path_then _ _ _ _ _ _ _ _ c.keep_snapshot.ensures.seen c.in_ok-keep_snapshot.ensures.came (c.in_ok-tell_all.ensures.came c.args.self.now.orders.keep) in
    let seen = extends_trans _ _ _ c.keep_snapshot.ensures.seen c.tell_all.ensures.seen in
    record {
      seen = extends_trans _ _ _ seen c.drop_old.ensures.seen;
      ends = rw (p.1) tt;
      gone = on_err c.from_residual-in_err-drop_old.result (left_then _ _ _ _ _ _ _ seen told (left_by _ _ _ _ _ (gone _ _ part h h (c.drop_old.ensures.came part h (at_level c.keep_snapshot.new.replica c.superstep.result c.superstep.ensures.value)))));
      full = rw (p.1, p.2) c.in_err-drop_old.ensures.full;
      alone = λ _ none. rw (p.1, p.2) (err_not_as _ _ (c.in_err-drop_old.ensures.never none));
    }

pub returns-in_err-hear_all : goal.returns-in_err-hear_all
returns-in_err-hear_all g c =
    let p = err_from_is_err_and c.from_residual-in_err-hear_all.result c.from_residual-in_err-hear_all.ensures.1 in
    let h = holding_in c.keep_snapshot.new.replica in
    let told = path_then _ _ _ _ _ _ _ _ c.keep_snapshot.ensures.seen c.in_ok-keep_snapshot.ensures.came (c.in_ok-tell_all.ensures.came c.args.self.now.orders.keep) in
    let seen = extends_trans _ _ _ c.keep_snapshot.ensures.seen c.tell_all.ensures.seen in
    let dropped = path_then _ _ _ _ _ _ _ _ seen told (c.drop_old.ensures.came c.args.self.now.node.part h (at_level c.keep_snapshot.new.replica c.superstep.result c.superstep.ensures.value) c.args.self.now.orders.keep) in
    let now = extends_trans _ _ _ seen c.drop_old.ensures.seen in
    record {
      seen = extends_trans _ _ _ now c.hear_all.ensures.seen;
      ends = rw (p.1) tt;
      gone = on_err c.from_residual-in_err-hear_all.result (left_then _ _ _ _ _ _ _ now dropped (left_by _ _ _ _ _ c.in_err-hear_all.ensures.gone));
      full = rw (p.1, p.2) c.in_err-hear_all.ensures.full;
      alone = λ one _. rw (p.1, p.2) (err_not_as _ _ (c.in_err-hear_all.ensures.alone (ap (λ (j : Job). j.plan.parts) now.begins.job ∙ one)));
    }

pub returns-in-Level : goal.returns-in-Level
returns-in-Level g c =
    let caller = g.E.Exchange.caller in
    let v : Caller = caller c.args.exchange.now in
    let w : Caller = caller c.hear_all.new.exchange in
    let p : ℕ = c.args.self.now.node.part in
    let keep : ℕ = c.args.self.now.orders.keep in
    let r : State = c.hear_all.new.replica in
    let s : ℕ = c.keep_snapshot.new.replica.superstep in
    let h = holding_in c.keep_snapshot.new.replica in
    let told_all : HasToldAll v s p w =
    told_between v _ _ _ w s p c.keep_snapshot.ensures.seen c.in_ok-tell_all.ensures.told c.drop_old.ensures.seen c.hear_all.ensures.seen in
    let found = subst (λ (f : Found). IsFound (caller c.drop_old.new.exchange) p s r f w) c.in-Level.is c.in_ok-hear_all.ensures.found in
    let told = path_then _ _ _ _ _ _ _ _ c.keep_snapshot.ensures.seen c.in_ok-keep_snapshot.ensures.came (c.in_ok-tell_all.ensures.came c.args.self.now.orders.keep) in
    let seen = extends_trans _ _ _ c.keep_snapshot.ensures.seen c.tell_all.ensures.seen in
    let dropped = path_then _ _ _ _ _ _ _ _ seen told (c.drop_old.ensures.came p h (at_level c.keep_snapshot.new.replica c.superstep.result c.superstep.ensures.value) c.args.self.now.orders.keep) in
    let now = extends_trans _ _ _ seen c.drop_old.ensures.seen in
    let level = path_then _ _ _ _ _ _ _ _ now dropped (c.in_ok-hear_all.ensures.came c.args.self.now.orders.keep) in
    let all = extends_trans v _ w now c.hear_all.ensures.seen in
    let stands = stands_back v _ p r now c.in_ok-hear_all.ensures.stands in
    let same = ap (λ (x : State). x.superstep) c.keep_snapshot.ensures.same in
    let kept = kept_later keep c.args.replica.now.superstep v _ w (kept_by_call keep v _ (holding_in c.args.replica.now) c.in_ok-keep_snapshot.ensures.kept) (extends_trans _ _ w (extends_trans _ _ _ c.tell_all.ensures.seen c.drop_old.ensures.seen) c.hear_all.ensures.seen) in
    record {
      seen = all;
      ends = record {
        stands = c.close.ensures.stands v.seen.job p r.superstep stands;
        is = closed_end v w p r c.close.new.replica c.close.result c.close.ensures.kind c.close.ensures.over (subst (λ (n : ℕ). HasToldAll v n p w) (sym found.1) told_all);
        stays = λ other. elim c.close.ensures.kind [
          | inl next ↦ absurd (other next)
          | inr over ↦ ap (λ (x : State). x.superstep) (c.close.ensures.over over).0 ∙ (found.1 ∙ same)
        ];
        kept = kept;
        kept_first = first_later keep c.args.replica.now.superstep v _ w (first_by_call keep v _ (holding_in c.args.replica.now) c.in_ok-keep_snapshot.ensures.kept) (extends_trans _ _ w (extends_trans _ _ _ c.tell_all.ensures.seen c.drop_old.ensures.seen) c.hear_all.ensures.seen);
        came = path_close keep v w p _ (holding_in r) _ level (subst (λ (n : ℕ). KeptIfTold keep v n w) (sym (found.1 ∙ same)) kept) (sym (c.close.ensures.held v.seen.job p r.superstep stands));
      };
      gone = tt;
      full = tt;
      alone = λ _ _. ok_is_no_err _ _;
    }

pub returns-in-Further : goal.returns-in-Further
returns-in-Further g c =
    let v : Caller = g.E.Exchange.caller c.args.exchange.now in
    let p : ℕ = c.args.self.now.node.part in
    let h = holding_in c.keep_snapshot.new.replica in
    let told = path_then _ _ _ _ _ _ _ _ c.keep_snapshot.ensures.seen c.in_ok-keep_snapshot.ensures.came (c.in_ok-tell_all.ensures.came c.args.self.now.orders.keep) in
    let seen = extends_trans _ _ _ c.keep_snapshot.ensures.seen c.tell_all.ensures.seen in
    let dropped = path_then _ _ _ _ _ _ _ _ seen told (c.drop_old.ensures.came p h (at_level c.keep_snapshot.new.replica c.superstep.result c.superstep.ensures.value) c.args.self.now.orders.keep) in
    let now = extends_trans v _ _ seen c.drop_old.ensures.seen in
    let keep : ℕ = c.args.self.now.orders.keep in
    record {
      seen = extends_trans _ _ _ now c.hear_all.ensures.seen;
      ends = record {
        stands = stands_back v _ p c.hear_all.new.replica now c.in_ok-hear_all.ensures.stands;
        is = tt;
        stays = λ other. absurd (other refl);
        kept = kept_later keep c.args.replica.now.superstep v _ _ (kept_by_call keep v _ (holding_in c.args.replica.now) c.in_ok-keep_snapshot.ensures.kept) (extends_trans _ _ _ (extends_trans _ _ _ c.tell_all.ensures.seen c.drop_old.ensures.seen) c.hear_all.ensures.seen);
        kept_first = first_later keep c.args.replica.now.superstep v _ _ (first_by_call keep v _ (holding_in c.args.replica.now) c.in_ok-keep_snapshot.ensures.kept) (extends_trans _ _ _ (extends_trans _ _ _ c.tell_all.ensures.seen c.drop_old.ensures.seen) c.hear_all.ensures.seen);
        came = path_then _ _ _ _ _ _ _ _ now dropped (c.in_ok-hear_all.ensures.came c.args.self.now.orders.keep);
      };
      gone = tt;
      full = tt;
      alone = λ _ _. ok_is_no_err _ _;
    }

pub returns-in-Missed : goal.returns-in-Missed
returns-in-Missed g c =
    let caller = g.E.Exchange.caller in
    let v : Caller = caller c.args.exchange.now in
    let w : Caller = caller c.hear_all.new.exchange in
    let p : ℕ = c.args.self.now.node.part in
    let keep : ℕ = c.args.self.now.orders.keep in
    let q : ℕ = c.in-Missed.source in
    let r : State = c.hear_all.new.replica in
    let s : ℕ = c.keep_snapshot.new.replica.superstep in
    let h = holding_in c.keep_snapshot.new.replica in
    let told_all : HasToldAll v s p w =
    told_between v _ _ _ w s p c.keep_snapshot.ensures.seen c.in_ok-tell_all.ensures.told c.drop_old.ensures.seen c.hear_all.ensures.seen in
    let found = subst (λ (f : Found). IsFound (caller c.drop_old.new.exchange) p s r f w) c.in-Missed.is c.in_ok-hear_all.ensures.found in
    let told = path_then _ _ _ _ _ _ _ _ c.keep_snapshot.ensures.seen c.in_ok-keep_snapshot.ensures.came (c.in_ok-tell_all.ensures.came c.args.self.now.orders.keep) in
    let seen = extends_trans _ _ _ c.keep_snapshot.ensures.seen c.tell_all.ensures.seen in
    let dropped = path_then _ _ _ _ _ _ _ _ seen told (c.drop_old.ensures.came p h (at_level c.keep_snapshot.new.replica c.superstep.result c.superstep.ensures.value) c.args.self.now.orders.keep) in
    let now = extends_trans v _ _ seen c.drop_old.ensures.seen in
    record {
      seen = extends_trans _ _ _ now c.hear_all.ensures.seen;
      ends = record {
        stands = stands_back v _ p r now c.in_ok-hear_all.ensures.stands;
        is = subst (λ (n : ℕ). HasStarved v n q p w) (sym found.1) (told_all, waiting_before v _ w s q p now found.0);
        stays = λ _. found.1 ∙ ap (λ (x : State). x.superstep) c.keep_snapshot.ensures.same;
        kept = kept_later keep c.args.replica.now.superstep v _ w (kept_by_call keep v _ (holding_in c.args.replica.now) c.in_ok-keep_snapshot.ensures.kept) (extends_trans _ _ w (extends_trans _ _ _ c.tell_all.ensures.seen c.drop_old.ensures.seen) c.hear_all.ensures.seen);
        kept_first = first_later keep c.args.replica.now.superstep v _ w (first_by_call keep v _ (holding_in c.args.replica.now) c.in_ok-keep_snapshot.ensures.kept) (extends_trans _ _ w (extends_trans _ _ _ c.tell_all.ensures.seen c.drop_old.ensures.seen) c.hear_all.ensures.seen);
        came = path_then _ _ _ _ _ _ _ _ now dropped (c.in_ok-hear_all.ensures.came c.args.self.now.orders.keep);
      };
      gone = tt;
      full = tt;
      alone = λ _ _. ok_is_no_err _ _;
    }
