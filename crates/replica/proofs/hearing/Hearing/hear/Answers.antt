use Rattle.std.proofs.Common.{◌≡◌, ◌||◌, ◌==◌, not, Bool, List, Some, length, ap, ◌∙◌, sym, subst, set, arith}
use Rattle.replica.proofs.Names.{with_items, with_items_is, Table, BatchName}
use Rattle.replica.specs.Hearing.{HearingValue, HearsAlso, HearsByIndex, batch_by}
use Rattle.replica.specs.Heard.{StayTouched}
use Rattle.replica.specs.Kept.{AllRise}
use Rattle.replica.proofs.HearingLemmas.Hear.{hears_one}
use Rattle.replica.proofs.KeptLemmas.Rise.{each_rises, batch_rows}
use Rattle.replica.proofs.hearing.Hearing.hear.Goals as goal
use Rattle.replica.proofs.hearing.Hearing.hear.Goals.{After-name}

-- what it keeps as its fields stand
abbrev before : After-name → HearingValue
before c = record { heard = c.self.inside.heard; change = c.self.inside.change; accumulated = c.self.inside.accumulated; touched = c.self.inside.touched.items }

ready : (c : After-name) → HearsByIndex c.args.batch.now.plan.log2m c.args.targets.now (before c)
ready c = subst (λ (a : HearingValue). HearsByIndex c.args.batch.now.plan.log2m c.args.targets.now a) (sym c.self.view_is) c.requires

rises : (c : After-name) → AllRise c.args.batch.now.plan.log2m c.self.inside.accumulated.rows c.spread_batch.new.accumulated.rows
rises c =
    let b = c.args.batch.now in
    subst (λ rows. AllRise b.plan.log2m c.self.inside.accumulated.rows rows) (sym (ap (λ (t : Table). t.rows) c.spread_batch.ensures.rows)) (each_rises b.plan.log2m c.args.targets.now b.rows c.self.inside.accumulated.rows (ready c).counters (batch_rows b c.name.ensures.batch))

marked : (c : After-name) → (with_items c.self.inside.touched c.spread_batch.new.touched).items ≡ c.spread_batch.new.touched
marked c = with_items_is c.self.inside.touched c.spread_batch.new.touched (omega (arith, c.spread_batch.auto.touched, c.deref_mut.ensures.len))

pub invariant_of-self : goal.invariant_of-self
invariant_of-self c =
    let at = (goal.at.invariant_of-self c).After-name in
    omega (arith, ap (length {A = Bool}) (marked at), c.spread_batch.auto.touched, ap (length {A = Bool}) c.deref_mut.ensures.value, c.self.invariant, (rises at).count)

pub returns : goal.returns
returns c =
    let at = (goal.at.returns c).After-name in
    let b = c.args.batch.now in
    let ok = c.name.ensures.batch in
    subst (λ (a : HearingValue). HearsAlso b.plan.log2m c.args.targets.now (batch_by b.name.source (Some b)) a (record { heard = c.insert.new.self; change = c.self.inside.change || not (c.changed.result == 0); accumulated = c.spread_batch.new.accumulated; touched = (with_items c.self.inside.touched c.spread_batch.new.touched).items })) c.self.view_is (record {
      hears = hears_one b.plan.log2m c.args.targets.now b
          (record { heard = c.self.inside.heard; change = c.self.inside.change; accumulated = c.self.inside.accumulated.rows })
          (record { heard = c.insert.new.self; change = c.self.inside.change || not (c.changed.result == 0); accumulated = c.spread_batch.new.accumulated.rows })
          ok (omega (arith, ok.source, ok.plan.parts_to, (ready at).sources))
          (c.insert.ensures ∙ ap (λ (n : BatchName). set c.self.inside.heard n.source _) c.name.ensures.value)
          (ap (λ n. c.self.inside.change || not (n == 0)) c.changed.ensures.value)
          (rises at)
          c.spread_batch.ensures.stands;
      width = ap (λ (t : Table). t.width) c.spread_batch.ensures.rows;
      touched = subst (λ (l : List Bool). StayTouched c.self.inside.accumulated.rows c.self.inside.touched.items c.spread_batch.new.accumulated.rows l) (sym (marked at)) (rw c.deref_mut.ensures.value at c.spread_batch.ensures.touched);
    })
