use Rattle.std.proofs.Common.{◌≡◌, ◌+◌, ◌*◌, ◌<◌, ℕ, List, [], length, get_or, ap, arith, ◌∙◌}
use Rattle.replica.proofs.Names.{Table}
use Rattle.replica.specs.Spread.{marked_rows, raised_by}
use Rattle.replica.proofs.HeardLemmas.{own_stands, spread_each-none, spread_each-more, marked-none, marked-yes, marked-over}
use Rattle.replica.proofs.spread.spread_in_turn.Goals as goal

pub loop-i-init : goal.loop-i-init
loop-i-init c =
    let part = c.args.own.now.part.now in
    let is = c.next_marked-i.ensures in
    let none = marked-over part.plan.parts part.number 0 c.next_marked-i.result c.args.own.now.rows.now.rows c.args.own.now.marks.now is ∙ marked-none part.plan.parts part.number c.args.own.now.rows.now.rows c.args.own.now.marks.now in
    record {
      in_range = is.high;
      marked = is.marked;
      rows = rw none (ap (λ (rows : List (List ℕ)). record c.args.accumulated.now { rows = rows }) (spread_each-none c.args.own.now.targets.now c.args.accumulated.now.rows));
      touched = λ own h. h;
      can = c.requires.can;
    }

pub spread_row-requires : goal.spread_row-requires
spread_row-requires c = rw c.row.ensures.width c.loop-i.invariant.can

pub loop-i-preserved : goal.loop-i-preserved
loop-i-preserved c =
    let i = c.loop-i.i in
    let part = c.args.own.now.part.now in
    let own = c.args.own.now.rows.now.rows in
    let marks = c.args.own.now.marks.now in
    let parts = part.plan.parts in
    let p = part.number in
    let old = c.args.accumulated.now.rows in
    let rows = ap (λ (t : Table). t.rows) c.loop-i.invariant.rows in
    let width = ap (λ (t : Table). t.width) c.loop-i.invariant.rows in
    let is = c.next_marked-i-in-loop-i.ensures in
    let inside : i < length marks = omega arith in
    record {
      in_range = is.high;
      marked = is.marked;
      rows = c.spread_row.ensures.rows ∙ rw (rows, width, c.vertex.ensures.value, c.row.ensures.value, marked-over parts p (i + 1) c.next_marked-i-in-loop-i.result own marks is) (ap (λ (rs : List (List ℕ)). record c.args.accumulated.now { rows = rs })
          (spread_each-more c.args.own.now.targets.now (marked_rows parts p own marks i) (marked_rows parts p own marks (i + 1)) (i * parts + p, get_or own i []) old (marked-yes parts p i own marks (c.loop-i.invariant.marked inside))));
      touched = λ rs h. c.spread_row.ensures.touched rs (c.loop-i.invariant.touched rs h);
      can = rw c.row.ensures.width at c.spread_row.ensures.can;
    }

pub returns : goal.returns
returns c =
    let part = c.args.own.now.part.now in
    let own = c.args.own.now.rows.now.rows in
    let marks = c.args.own.now.marks.now in
    let all : c.loop-i.i ≡ length marks = omega arith in
    record {
      rows = c.loop-i.invariant.rows ∙ ap (λ n. raised_by c.args.own.now.targets.now (marked_rows part.plan.parts part.number own marks n) c.args.accumulated.now) all;
      touched = c.loop-i.invariant.touched;
      stands = λ j p t heard job lt told index are changed stands.
          ap (λ (table : Table). table.rows) c.loop-i.invariant.rows
          ∙ own_stands j p t c.loop-i.i heard part c.args.own.now.targets.now own c.args.accumulated.now.rows marks job lt told index are changed stands all;
    }
