use Rattle.std.proofs.Common.{◌≡◌, ◌<◌, ◌≤◌, length, map, rules, ap, ◌∙◌, subst, arith}
use Rattle.replica.proofs.Names.{arc_value, length-map, BatchValue, PlanValue, IsPlan, BatchName}
use Rattle.replica.specs.Ahead.{IsTable}
use Rattle.replica.specs.Saved.{MayKeep}
use Rattle.replica.proofs.SavedLemmas.Saved.{filled_all, filled_more, filled_none, may_at, shared_at, source_of}
use Rattle.replica.proofs.replica.rebuild.kept.Goals as goal
use Rattle.replica.proofs.replica.rebuild.kept.Goals.{After-name-name}

pub loop-batch-init : goal.loop-batch-init
loop-batch-init c =
    let part = c.args.part.now in
    let parts : c.parts.result ≡ part.plan.parts = c.parts.ensures.value ∙ ap (λ (a : PlanValue). a.parts) c.plan.ensures in
    record {
      filled = filled_none part.plan part.number c.args.superstep _ c.in_ok-early.early (subst (λ n. IsTable n c.in_ok-early.early) parts c.in_ok-early.ensures.table) c.in_ok-early.ensures.none;
    }

-- the batch may be kept
mine : (c : After-name-name) → MayKeep c.args.part.now.plan c.args.part.now.number c.args.superstep c.deref.result.now
mine c = may_at arc_value c.args.batches.now c.loop-batch.batch-index c.batch-item.result c.deref.result.now _ _ _ c.requires (omega arith) c.batch-item.is c.deref.ensures

superstep : (c : After-name-name) → c.name-name.result.superstep ≡ c.deref.result.now.name.superstep
superstep c = ap (λ (n : BatchName). n.superstep) c.name-name.ensures.value

pub overflow_sub-level : goal.overflow_sub-level
overflow_sub-level c = let at = (goal.at.overflow_sub-level c).After-name-name in omega (arith, (mine at).from, superstep at)

pub overflow_sub-level-in-loop-batch : goal.overflow_sub-level-in-loop-batch
overflow_sub-level-in-loop-batch c = let at = (goal.at.overflow_sub-level-in-loop-batch c).After-name-name in omega (arith, (mine at).from, superstep at)

pub keep-requires-clause-level : goal.keep-requires-clause-level
keep-requires-clause-level c = let at = (goal.at.keep-requires-clause-level c).After-name-name in omega (arith, (mine at).from, (mine at).to, superstep at)

pub keep-requires-clause-source : goal.keep-requires-clause-source
keep-requires-clause-source c = λ parts is.
    let low = source_of c.args.part.now.plan c.args.part.now.number c.args.superstep c.deref.result.now c.name-name.ensures.batch (mine (goal.at.keep-requires-clause-source c).After-name-name) in
    omega (arith, low, is.sources 0 (omega arith), c.loop-batch.invariant.filled.kept.table.sources 0 (omega arith), ap (λ (n : BatchName). n.source) c.name-name.ensures.value)

pub loop-batch-preserved : goal.loop-batch-preserved
loop-batch-preserved c =
    let part = c.args.part.now in
    let k = c.loop-batch.batch-index in
    let items = c.args.batches.now in
    let b = c.deref.result.now in
    let lt : k < length items = omega arith in
    let at = shared_at arc_value items k c.batch-item.result b lt c.batch-item.is c.deref.ensures in
    let plan : IsPlan part.plan = subst (λ (a : PlanValue). IsPlan a) c.plan.ensures c.parts.ensures.plan in
    let value : arc_value c.in_ok-try_clone.field-0 ≡ b = search rules in
    record {
      filled = filled_more part.plan part.number c.args.superstep k (map arc_value items) b c.loop-batch.early c.keep.new.self plan c.requires (omega (arith, lt, length-map items (arc_value {X = BatchValue}))) at
          c.name-name.ensures.batch c.loop-batch.invariant.filled (c.keep.ensures.table part.plan.parts c.loop-batch.invariant.filled.kept.table) (rw (c.name-name.ensures.value, value) at c.keep.ensures.kept);
    }

pub returns : goal.returns
returns c =
    let items = c.args.batches.now in
    let all : length (map arc_value items) ≤ c.loop-batch.batch-index = omega (arith, c.loop-batch-test.false, length-map items (arc_value {X = BatchValue})) in
    record {
      told = filled_all c.args.part.now.plan c.args.part.now.number c.args.superstep c.loop-batch.batch-index (map arc_value items) c.loop-batch.early all c.loop-batch.invariant.filled;
      placed = c.loop-batch.invariant.filled.kept;
    }
