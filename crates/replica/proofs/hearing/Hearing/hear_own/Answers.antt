use Rattle.std.proofs.Common.{◌≡◌, ◌≤◌, Bool, List, length, ap, sym, ◌∙◌, arith, subst}
use Rattle.replica.proofs.Names.{with_items, with_items_is, Table}
use Rattle.replica.specs.Heard.{OwnIsHeard}
use Rattle.replica.specs.Hearing.{HearingValue, KeepsAll}
use Rattle.replica.specs.Kept.{AllRise}
use Rattle.replica.specs.Spread.{AreTouched}
use Rattle.replica.proofs.KeptLemmas.Rise.{own_rises, all_on}
use Rattle.replica.proofs.hearing.Hearing.hear_own.Goals as goal
use Rattle.replica.proofs.hearing.Hearing.hear_own.Goals.{After-spread_own}

marked : (c : After-spread_own) → AreTouched c.args.tables.now.rows.rows c.spread_own.new.accumulated.rows c.spread_own.new.touched
marked c =
    let rows = c.args.tables.now.rows.rows in
    let before : AreTouched rows c.self.inside.accumulated.rows c.self.inside.touched.items = subst (λ (a : HearingValue). KeepsAll rows a) (sym c.self.view_is) c.requires.ahead.kept in
    c.spread_own.ensures.touched rows (subst (λ (l : List Bool). AreTouched rows c.self.inside.accumulated.rows l) (sym c.deref_mut.ensures.value) before)

items : (c : After-spread_own) → (with_items c.self.inside.touched c.spread_own.new.touched).items ≡ c.spread_own.new.touched
items c = with_items_is c.self.inside.touched c.spread_own.new.touched (c.spread_own.auto.touched ∙ c.deref_mut.ensures.len)

pub returns : goal.returns
returns c =
    let at = (goal.at.returns c).After-spread_own in
    let part = c.args.part.now in
    let rows = c.args.tables.now.rows.rows in
    let marks = c.args.tables.now.marks in
    let before = c.self.inside.accumulated.rows in
    let own = c.spread_own.new.accumulated.rows in
    let ahead = c.requires.ahead in
    let rise : AllRise part.plan.log2m rows before = subst (λ (a : HearingValue). AllRise part.plan.log2m rows a.accumulated.rows) (sym c.self.view_is) ahead.rise in
    let size : length marks ≤ length rows = omega (arith, c.requires.marks, c.requires.count) in
    let spread = rw (c.rows.ensures, c.marks.ensures) at c.spread_own.ensures.rows in
    let up : AllRise part.plan.log2m before own = own_rises part.plan.log2m part.plan.parts part.number (length marks) c.args.targets.now rows before own marks ahead.counters rise size (ap (λ (t : Table). t.rows) spread) in
    record {
      ahead = record {
        counters = ahead.counters;
        rise = all_on part.plan.log2m rows before own ahead.counters rise up;
        width = ahead.width ∙ sym (ap (λ (t : Table). t.width) c.spread_own.ensures.rows ∙ ap (λ (a : HearingValue). a.accumulated.width) c.self.view_is);
        kept = subst (λ (l : List Bool). AreTouched rows own l) (sym (items at)) (marked at);
      };
      stands = subst (λ (a : HearingValue). OwnIsHeard c.args.targets.now part rows marks a.accumulated.rows own) c.self.view_is (rw (c.rows.ensures, c.marks.ensures) at c.spread_own.ensures.stands);
      heard = ap (λ (a : HearingValue). a.heard) c.self.view_is;
      change = ap (λ (a : HearingValue). a.change) c.self.view_is;
    }
