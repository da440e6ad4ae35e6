use Rattle.std.proofs.Common.{◌<◌, arith, sym, ap, ◌∙◌, get_or, length, ℕ, List, ◌^◌}
use Rattle.std.proofs.lemmas.List.{get_or_default}
use Rattle.batches.specs.Held.{flat_of}
use Rattle.batches.proofs.KeptLemmas.{kept_of, kept-count, kept-ids}
use Rattle.batches.proofs.batch.Batch.id.Goals as goal

pub index-requires : goal.index-requires
index-requires c =
    let f = c.self.inside in
    let kept = kept_of f.plan f.name f.changed f.ids.items (flat_of (2 ^ f.plan.log2m) f.registers) c.args.self.now c.self.view_is c.self.invariant.kept in
    omega (arith, kept-count c.args.self.now f.ids.items (flat_of (2 ^ f.plan.log2m) f.registers) kept, c.requires)

pub returns-clause-value : goal.returns-clause-value
returns-clause-value c =
    let f = c.self.inside in
    let kept = kept_of f.plan f.name f.changed f.ids.items (flat_of (2 ^ f.plan.log2m) f.registers) c.args.self.now c.self.view_is c.self.invariant.kept in
    let lt : c.args.i < length f.ids.items = omega (arith, kept-count c.args.self.now f.ids.items (flat_of (2 ^ f.plan.log2m) f.registers) kept, c.requires) in
    c.index.ensures ∙ get_or_default f.ids.items c.args.i c.index.result.now 0 lt
    ∙ ap (λ (ids : List ℕ). get_or ids c.args.i 0) (sym (kept-ids c.args.self.now f.ids.items (flat_of (2 ^ f.plan.log2m) f.registers) kept))
