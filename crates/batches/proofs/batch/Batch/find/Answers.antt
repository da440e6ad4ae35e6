use Rattle.std.proofs.Common.{ℕ, List, Ok, Err, length, arith, ap, ◌∙◌, subst, ◌^◌}
use Rattle.std.specs.Prelude.{Some}
use Rattle.std.specs.List.Sorted.{IsStrictlyIncreasing}
use Rattle.std.proofs.lemmas.List.Sorted.{searched}
use Rattle.batches.specs.Held.{flat_of}
use Rattle.batches.proofs.KeptLemmas.{kept_of, kept-count, kept-ids, kept-found, kept-none, batch-few, ids_rise, none_at}
use Rattle.batches.proofs.batch.Batch.find.Goals as goal

pub overflow_cast-i : goal.overflow_cast-i
overflow_cast-i c =
    let f = c.self.inside in
    let b = c.args.self.now in
    let kept = kept_of f.plan f.name f.changed f.ids.items (flat_of (2 ^ f.plan.log2m) f.registers) b c.self.view_is c.self.invariant.kept in
    omega (arith, kept-count b f.ids.items (flat_of (2 ^ f.plan.log2m) f.registers) kept, batch-few b kept.batch, c.in-Ok.ensures.bound, ap length c.deref.ensures.value)

pub registers-requires : goal.registers-requires
registers-requires c =
    let f = c.self.inside in
    let b = c.args.self.now in
    let kept = kept_of f.plan f.name f.changed f.ids.items (flat_of (2 ^ f.plan.log2m) f.registers) b c.self.view_is c.self.invariant.kept in
    omega (arith, kept-count b f.ids.items (flat_of (2 ^ f.plan.log2m) f.registers) kept, c.in-Ok.ensures.bound, ap length c.deref.ensures.value)

pub returns-in-Ok-clause-value : goal.returns-in-Ok-clause-value
returns-in-Ok-clause-value c =
    let f = c.self.inside in
    let b = c.args.self.now in
    let kept = kept_of f.plan f.name f.changed f.ids.items (flat_of (2 ^ f.plan.log2m) f.registers) b c.self.view_is c.self.invariant.kept in
    let up : IsStrictlyIncreasing f.ids.items = subst IsStrictlyIncreasing (kept-ids b f.ids.items (flat_of (2 ^ f.plan.log2m) f.registers) kept) kept.batch.ascending in
    let at = searched f.ids.items c.args.id (Ok c.in-Ok.i) (rw c.deref.ensures.value at c.in-Ok.ensures.position) (λ i j le lt. ids_rise f.ids.items i j up le lt) in
    ap (λ (r : List ℕ). Some r) c.registers.ensures.value ∙ kept-found b c.in-Ok.i c.args.id f.ids.items (flat_of (2 ^ f.plan.log2m) f.registers) kept at.0 at.1

pub returns-in-Err-clause-value : goal.returns-in-Err-clause-value
returns-in-Err-clause-value c =
    let f = c.self.inside in
    let b = c.args.self.now in
    let kept = kept_of f.plan f.name f.changed f.ids.items (flat_of (2 ^ f.plan.log2m) f.registers) b c.self.view_is c.self.invariant.kept in
    let up : IsStrictlyIncreasing f.ids.items = subst IsStrictlyIncreasing (kept-ids b f.ids.items (flat_of (2 ^ f.plan.log2m) f.registers) kept) kept.batch.ascending in
    let at = searched f.ids.items c.args.id (Err c.in-Err.field-0) (rw c.deref.ensures.value at c.in-Err.ensures.position) (λ i j le lt. ids_rise f.ids.items i j up le lt) in
    kept-none b c.args.id f.ids.items (flat_of (2 ^ f.plan.log2m) f.registers) kept (none_at f.ids.items c.args.id c.in-Err.field-0 at.1 at.2)
