use Rattle.std.proofs.Common.{◌≡◌, ◌+◌, ◌<◌, ℕ, List, [], length, get_or, take, ap, arith, ◌∙◌}
use Rattle.replica.proofs.Names.{get_or-map, take_more, take_all, Table, BatchValue}
use Rattle.replica.specs.Spread.{raised_by}
use Rattle.replica.proofs.HeardLemmas.{spread-batch, spread_each-none, spread_each-more}
use Rattle.replica.proofs.spread.spread_batch.Goals as goal

pub loop-k-init : goal.loop-k-init
loop-k-init c = record {
  rows = ap (λ (rows : List (List ℕ)). record c.args.accumulated.now { rows = rows }) (spread_each-none c.args.targets.now c.args.accumulated.now.rows);
  touched = λ rows h. h;
  can = c.requires;
}

pub spread_row-requires : goal.spread_row-requires
spread_row-requires c = rw c.registers.ensures.width c.loop-k.invariant.can

pub loop-k-preserved : goal.loop-k-preserved
loop-k-preserved c =
    let k = c.loop-k.k in
    let targets = c.args.targets.now in
    let others = c.args.batch.now.rows in
    let old = c.args.accumulated.now.rows in
    let lt : k < length others = omega (arith, c.loop-k-test.true, c.count-k-end.ensures.value) in
    let vertex : c.id.result ≡ (get_or others k (0, [])).0 = c.id.ensures.value ∙ get_or-map (λ row. row.0) others k (0, []) 0 lt in
    let registers : c.registers.result.now ≡ (get_or others k (0, [])).1 = c.registers.ensures.value ∙ get_or-map (λ row. row.1) others k (0, []) [] lt in
    let rows = ap (λ (t : Table). t.rows) c.loop-k.invariant.rows in
    let width = ap (λ (t : Table). t.width) c.loop-k.invariant.rows in
    record {
      rows = c.spread_row.ensures.rows ∙ rw (rows, width, vertex, registers) (ap (λ (rs : List (List ℕ)). record c.args.accumulated.now { rows = rs })
          (spread_each-more targets (take k others) (take (k + 1) others) (get_or others k (0, [])) old (take_more others k (0, []) lt)));
      touched = λ own h. c.spread_row.ensures.touched own (c.loop-k.invariant.touched own h);
      can = rw c.registers.ensures.width at c.spread_row.ensures.can;
    }

pub returns : goal.returns
returns c =
    let all : take c.loop-k.k c.args.batch.now.rows ≡ c.args.batch.now.rows = take_all c.loop-k.k c.args.batch.now.rows (omega (arith, c.loop-k-test.false, c.count-k-end.ensures.value)) in
    record {
      rows = c.loop-k.invariant.rows ∙ ap (λ (l : List (ℕ × List ℕ)). raised_by c.args.targets.now l c.args.accumulated.now) all;
      touched = c.loop-k.invariant.touched;
      stands = λ j p t q heard job index true_one stands.
          ap (λ (table : Table). table.rows) c.loop-k.invariant.rows
          ∙ rw (all, index, stands, ap (λ (b : BatchValue). b.rows) true_one) (spread-batch j p t q heard job);
    }
