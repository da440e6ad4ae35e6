use Rattle.std.proofs.Common.{length, ap, sym, ◌∙◌}
use Rattle.replica.specs.Hearing.{HearingValue}
use Rattle.replica.proofs.HearingLemmas.Hearing.{none_kept, some_kept}
use Rattle.replica.proofs.hearing.Hearing.accumulators.Goals as goal

pub returns-then-len-eq0-clause-rows : goal.returns-then-len-eq0-clause-rows
returns-then-len-eq0-clause-rows c =
    sym (none_kept c.args.rows.now.rows c.args.self.now.accumulated.rows (ap (λ (a : HearingValue). length a.accumulated.rows) (sym c.self.view_is) ∙ sym c.len.ensures.value ∙ c.if-len-eq0.true))

pub returns-else-len-eq0-clause-rows : goal.returns-else-len-eq0-clause-rows
returns-else-len-eq0-clause-rows c =
    ap (λ (a : HearingValue). a.accumulated.rows) c.self.view_is
    ∙ sym (some_kept c.args.rows.now.rows c.args.self.now.accumulated.rows (λ none. c.if-len-eq0.false (c.len.ensures.value ∙ ap (λ (a : HearingValue). length a.accumulated.rows) c.self.view_is ∙ none)))
