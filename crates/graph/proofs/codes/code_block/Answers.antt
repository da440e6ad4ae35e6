use Rattle.std.proofs.Common.{◌∙◌, ℕ, List, arith, subst, sym}
use Rattle.std.specs.Prelude.{reverse}
use Rattle.gapcode.specs.Lists.{AscendsFrom}
use Rattle.graph.proofs.CodesLemmas.{between-next, block-left, block-row, block-start, none-between}
use Rattle.graph.proofs.EdgeLemmas.{sources-from}
use Rattle.graph.proofs.TailLemmas.{ascend-drop, least-drop}
use Rattle.graph.proofs.codes.code_block.Goals as goal

pub loop-target-init : goal.loop-target-init
loop-target-init c =
    let b = c.args.block in
    record {
      lists = c.in_ok-builder.ensures ∙ sym (none-between (reverse b.edges.now) b.count b.from);
      rest = block-start b.edges.now b.count b.from c.requires.turned;
      inside = omega arith;
      reached = omega arith;
    }

pub last_run-requires-clause-ascend : goal.last_run-requires-clause-ascend
last_run-requires-clause-ascend c = rw c.loop-target.invariant.rest (ascend-drop (reverse c.args.block.edges.now) _ c.requires.turned.ascend)

pub last_run-requires-clause-least : goal.last_run-requires-clause-least
last_run-requires-clause-least c = rw c.loop-target.invariant.rest (least-drop (reverse c.args.block.edges.now) c.loop-target.target c.requires.turned.ascend)

pub push_sources-requires : goal.push_sources-requires
push_sources-requires c =
    let b = c.args.block in
    let es = reverse b.edges.now in
    let inv = c.loop-target.invariant in
    let is = block-row es b.edges.now b.count c.loop-target.target c.loop-target.left c.last_run.result c.requires.turned.ascend c.requires.turned.ends inv.inside inv.rest c.last_run.ensures.count c.last_run.ensures.inside in
    subst (λ (xs : List ℕ). AscendsFrom 0 xs) (sym is) (sources-from b.count es c.loop-target.target)

pub loop-target-preserved : goal.loop-target-preserved
loop-target-preserved c =
    let b = c.args.block in
    let es = reverse b.edges.now in
    let inv = c.loop-target.invariant in
    let is = block-row es b.edges.now b.count c.loop-target.target c.loop-target.left c.last_run.result c.requires.turned.ascend c.requires.turned.ends inv.inside inv.rest c.last_run.ensures.count c.last_run.ensures.inside in
    record {
      lists = c.in_ok-builder-2.ensures ∙ between-next es b.count b.from c.loop-target.target c.loop-target.builder _ inv.reached inv.lists is;
      rest = block-left es b.edges.now c.loop-target.target c.loop-target.left c.last_run.result c.requires.turned.ascend inv.inside inv.rest c.last_run.ensures.count c.last_run.ensures.inside;
      inside = omega (arith, inv.inside);
      reached = omega (arith, inv.reached);
    }
