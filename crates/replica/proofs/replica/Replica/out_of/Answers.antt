use Rattle.std.proofs.Common.{◌≡◌, ◌^◌, length, ap, sym, subst, ◌∙◌, arith}
use Rattle.replica.proofs.Names.{arc_value, BatchValue, IsBatch, State, length-filter, count_by-le-length}
use Rattle.batches.specs.Kept.{rows_at}
use Rattle.replica.specs.Sent.{ChangedValue, IsTold, batch_name, changed_registers, sent_batch}
use Rattle.replica.proofs.SentLemmas.Sent.{count_take, sent_short, sent_true}
use Rattle.replica.proofs.SentLemmas.Told.{sent_are_rows, sent_rise, told_batch}
use Rattle.replica.proofs.replica.Replica.out_of.Goals as goal
use Rattle.replica.proofs.replica.Replica.out_of.Goals.{After-len}

-- what is told makes the batch
told : (c : After-len) → record {
  plan = c.plan.result.now;
  name = batch_name c.superstep.result c.partition.result c.args.target;
  changed = c.len.result;
  rows = rows_at (2 ^ c.plan.result.now.log2m) (arc_value c.in_ok-table.table).items c.in_ok-told.told.ids.items c.in_ok-told.told.places.items;
} ≡ sent_batch c.args.self.now c.args.target (length c.args.self.now.part.preds)
told c =
    let t = c.in_ok-told.told in
    let is = subst (λ (v : State). IsTold v c.args.target (length v.part.preds) t.ids.items t.places.items t.changed) c.self.view_is c.in_ok-told.ensures in
    let table : (arc_value c.in_ok-table.table).items ≡ changed_registers c.args.self.now = rw c.in_ok-table.ensures (ap (λ (x : ChangedValue). x.registers) c.changed.view_is ∙ c.requires.changed.registers) in
    told_batch c.args.self.now c.args.target t.changed c.plan.result.now c.superstep.result c.partition.result c.len.result (arc_value c.in_ok-table.table).items t.ids.items t.places.items is table c.plan.ensures c.superstep.ensures.value c.partition.ensures (omega (arith, c.len.ensures, ap (λ (x : ChangedValue). length x.vertices) c.changed.view_is, c.requires.changed.vertices.count))

pub sharing-requires-clause-batch : goal.sharing-requires-clause-batch
unfolding sent_batch
sharing-requires-clause-batch c =
    subst (λ (b : BatchValue). IsBatch b) (sym (told (goal.at.sharing-requires-clause-batch c).After-len)) (grind (arith, sent_rise, count_by-le-length, sent_short, count_take, length-filter, sent_are_rows))

pub returns : goal.returns
returns c =
    let value = c.sharing.ensures ∙ told (goal.at.returns c).After-len in
    record { value = value; stands = λ j p t h. value ∙ sent_true j p t c.args.target c.args.self.now h c.requires.target }

pub overflow_cast-len : goal.overflow_cast-len
overflow_cast-len c = omega (arith, c.len.ensures, ap (λ (x : ChangedValue). length x.vertices) c.changed.view_is, c.requires.changed.vertices.few)
