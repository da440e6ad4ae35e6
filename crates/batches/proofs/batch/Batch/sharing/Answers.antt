use Rattle.std.specs.Arc.{arc_value}
use Rattle.batches.proofs.HeldLemmas.{shared_kept, shared_is}
use Rattle.batches.proofs.batch.Batch.sharing.Goals as goal

pub invariant_of-result : goal.invariant_of-result
invariant_of-result c = record {
  kept = shared_kept c.args.plan.now c.args.name c.args.changed (arc_value c.args.table).items c.args.ids.items c.args.places.items c.requires.places c.requires.count c.requires.batch;
  lie = c.requires.places;
}

pub returns : goal.returns
returns c = shared_is c.args.plan.now c.args.name c.args.changed (arc_value c.args.table).items c.args.ids.items c.args.places.items c.requires.places c.requires.count
