use Rattle.std.proofs.Common.{arith, map, option_map, subst}
use Rattle.replica.proofs.Names.{arc_value, copies-at}
use Rattle.replica.specs.Ahead.{table_of, IsTable}
use Rattle.replica.proofs.AheadLemmas.{early_in, out_level, out_source, is_table}
use Rattle.replica.proofs.early.Early.empty.Goals as goal

pub returns : goal.returns
returns c = record {
  table = subst (λ n. IsTable n (table_of c.from-parts.result (map (option_map arc_value) c.in_ok-slots.slots.items))) c.from-parts.ensures (is_table c.from-parts.result (map (option_map arc_value) c.in_ok-slots.slots.items));
  none = λ i q. rw c.in_ok-slots.ensures (grind (arith, early_in, copies-at, out_source, out_level));
}
