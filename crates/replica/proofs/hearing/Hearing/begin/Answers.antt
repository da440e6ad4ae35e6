use Rattle.std.proofs.Common.{rules, ◌≡◌, Bool, List, length, refl, ap, sym, ◌∙◌, subst}
use Rattle.replica.proofs.Names.{with_items, with_items_is}
use Rattle.replica.specs.Hearing.{HearingValue}
use Rattle.replica.specs.Spread.{AreTouched}
use Rattle.replica.proofs.LevelLemmas.Level.{none_touched}
use Rattle.replica.proofs.hearing.Hearing.begin.Goals as goal

pub returns : goal.returns
returns c =
    let own = c.self.inside.accumulated.rows in
    let same : c.self.inside.accumulated ≡ c.args.self.now.accumulated = ap (λ (a : HearingValue). a.accumulated) c.self.view_is in
    let long : length c.clear_marks.new.marks ≡ length own = c.clear_marks.auto.marks ∙ ap (length {A = Bool}) c.deref_mut.ensures.value ∙ c.self.invariant in
    let touched = with_items c.self.inside.touched c.clear_marks.new.marks in
    let cleared : touched.items ≡ c.clear_marks.new.marks = with_items_is c.self.inside.touched c.clear_marks.new.marks (c.clear_marks.auto.marks ∙ c.deref_mut.ensures.len) in
    record {
      quiet = record {
        heard = c.empty-self-inside.ensures;
        change = refl;
        accumulated = same;
        kept = rw (← same) (subst (λ (l : List Bool). AreTouched own own l) (sym cleared) (none_touched own c.clear_marks.new.marks long c.clear_marks.ensures));
      };
      touched = search rules;
    }
