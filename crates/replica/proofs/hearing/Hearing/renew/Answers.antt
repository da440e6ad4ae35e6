use Rattle.std.proofs.Common.{◌≡◌, length, ap, sym, ◌∙◌, inl, subst}
use Rattle.replica.proofs.Names.{Table}
use Rattle.replica.specs.Hearing.{HearingValue, IsQuiet}
use Rattle.replica.proofs.HearingLemmas.Hearing.{none_kept, all_kept}
use Rattle.replica.proofs.hearing.Hearing.renew.Goals as goal

pub returns-in_ok-accumulated-clause-renewed : goal.returns-in_ok-accumulated-clause-renewed
returns-in_ok-accumulated-clause-renewed c =
    let rows = c.args.rows.now.rows in
    let quiet = subst (λ (a : HearingValue). IsQuiet c.args.rows.now a) (sym c.accumulated.view_is) c.in_ok-accumulated.ensures in
    let none : length c.args.self.now.accumulated.rows ≡ 0 = ap (λ (a : HearingValue). length a.accumulated.rows) (sym c.self.view_is) ∙ sym c.len.ensures.value ∙ c.if-len-eq0.true in
    record {
      same = record {
        heard = ap (λ (a : HearingValue). a.heard) c.self.view_is;
        change = ap (λ (a : HearingValue). a.change) c.self.view_is;
        width = ap (λ (t : Table). t.width) quiet.accumulated ∙ c.requires.width;
        accumulated = all_kept rows c.accumulated.inside.accumulated.rows quiet.kept.count ∙ ap (λ (t : Table). t.rows) quiet.accumulated ∙ sym (none_kept rows c.args.self.now.accumulated.rows none);
        kept = inl quiet.kept;
      };
      all = quiet.kept;
    }
