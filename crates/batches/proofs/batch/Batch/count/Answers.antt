use Rattle.std.proofs.Common.{arith, ◌^◌}
use Rattle.batches.specs.Held.{flat_of}
use Rattle.batches.proofs.KeptLemmas.{kept_of, kept-count, batch-few}
use Rattle.batches.proofs.batch.Batch.count.Goals as goal

pub overflow_cast-result : goal.overflow_cast-result
overflow_cast-result c =
    let f = c.self.inside in
    let kept = kept_of f.plan f.name f.changed f.ids.items (flat_of (2 ^ f.plan.log2m) f.registers) c.args.self.now c.self.view_is c.self.invariant.kept in
    omega (arith, kept-count c.args.self.now f.ids.items (flat_of (2 ^ f.plan.log2m) f.registers) kept, batch-few c.args.self.now kept.batch)

pub returns-clause-value : goal.returns-clause-value
returns-clause-value c =
    let f = c.self.inside in
    let kept = kept_of f.plan f.name f.changed f.ids.items (flat_of (2 ^ f.plan.log2m) f.registers) c.args.self.now c.self.view_is c.self.invariant.kept in
    omega (arith, kept-count c.args.self.now f.ids.items (flat_of (2 ^ f.plan.log2m) f.registers) kept)
