use Rattle.std.proofs.Common.{◌≡◌, ◌+◌, ◌*◌, ◌<◌, [], length, get_or, refl, ap, arith, sym, ◌∙◌}
use Rattle.replica.proofs.Names.{Table}
use Rattle.registers.proofs.TableLemmas.{same_table}
use Rattle.replica.specs.Spread.{marked_rows, own_rows, raised_by, rows_after, rows_after_all}
use Rattle.replica.specs.Waiting.{rows_along}
use Rattle.replica.proofs.HeardLemmas.{own_stands, spread_each-none, spread_each-more, marked-none, marked-yes, marked-over}
use Rattle.replica.proofs.WaitingLemmas.{along-none, none_waits}
use Rattle.replica.proofs.waiting.spread_waiting.Goals as goal

pub loop-i-init : goal.loop-i-init
loop-i-init c =
    let part = c.args.own.now.part.now in
    let own = c.args.own.now.rows.now.rows in
    let old = c.args.accumulated.now.rows in
    let is = c.next_marked-i.ensures in
    let none = marked-over part.plan.parts part.number 0 c.next_marked-i.result own c.args.own.now.marks.now is ∙ marked-none part.plan.parts part.number own c.args.own.now.marks.now in
    record {
      in_range = is.high;
      marked = is.marked;
      rows = ap (λ es. rows_along own es old) c.new-waiting.ensures ∙ along-none own old ∙ spread_each-none c.args.own.now.targets.now old ∙ ap (λ rs. rows_after_all c.args.own.now.targets.now rs old) (sym none);
      count = refl;
      width = refl;
      touched = λ rs h. h;
      can = none_waits c.args.own.now.rows.now c.new-waiting.result.items c.args.accumulated.now c.args.touched.now c.new-waiting.ensures c.requires.can.wide c.requires.can.room.marks;
      few = let empty = ap length c.new-waiting.ensures in omega arith;
    }

pub loop-i-preserved : goal.loop-i-preserved
loop-i-preserved c =
    let i = c.loop-i.i in
    let part = c.args.own.now.part.now in
    let own = c.args.own.now.rows.now.rows in
    let marks = c.args.own.now.marks.now in
    let parts = part.plan.parts in
    let p = part.number in
    let old = c.args.accumulated.now.rows in
    let inv = c.loop-i.invariant in
    let is = c.next_marked-i-in-loop-i.ensures in
    let inside : i < length marks = omega arith in
    let places : c.places.result.now ≡ get_or c.args.own.now.targets.now (i * parts + p) [] = c.places.ensures ∙ ap (λ z. get_or c.args.own.now.targets.now z []) c.vertex.ensures.value in
    record {
      in_range = is.high;
      marked = is.marked;
      rows = c.add_edges.ensures.rows
          ∙ ap (λ ps. rows_after ps (get_or own i []) (rows_along own c.loop-i.waiting.items c.loop-i.accumulated.rows)) places
          ∙ ap (rows_after (get_or c.args.own.now.targets.now (i * parts + p) []) (get_or own i [])) inv.rows
          ∙ spread_each-more c.args.own.now.targets.now (marked_rows parts p own marks i) (marked_rows parts p own marks (i + 1)) (i * parts + p, get_or own i []) old (marked-yes parts p i own marks (inv.marked inside))
          ∙ ap (λ rs. rows_after_all c.args.own.now.targets.now rs old) (sym (marked-over parts p (i + 1) c.next_marked-i-in-loop-i.result own marks is));
      count = c.add_edges.ensures.count ∙ inv.count;
      width = c.add_edges.ensures.width ∙ inv.width;
      touched = λ rs h. c.add_edges.ensures.touched rs (inv.touched rs h);
      can = c.add_edges.ensures.can;
      few = c.add_edges.ensures.few;
    }

pub returns : goal.returns
returns c =
    let part = c.args.own.now.part.now in
    let own = c.args.own.now.rows.now.rows in
    let marks = c.args.own.now.marks.now in
    let old = c.args.accumulated.now.rows in
    let inv = c.loop-i.invariant in
    let all : c.loop-i.i ≡ length marks = omega arith in
    let last = ap (λ (t : Table). t.rows) c.raise_waiting.ensures.raised.rows in
    let width = ap (λ (t : Table). t.width) c.raise_waiting.ensures.raised.rows in
    let rows : c.raise_waiting.new.accumulated.rows ≡ rows_after_all c.args.own.now.targets.now (own_rows part own marks) old =
    last ∙ inv.rows ∙ ap (λ n. rows_after_all c.args.own.now.targets.now (marked_rows part.plan.parts part.number own marks n) old) all in
    record {
      rows = same_table c.raise_waiting.new.accumulated (raised_by c.args.own.now.targets.now (own_rows part own marks) c.args.accumulated.now) (width ∙ inv.width) rows;
      touched = λ rs h. c.raise_waiting.ensures.raised.touched rs (inv.touched rs h);
      stands = λ j p t heard job lt told index are changed stands.
          rows ∙ own_stands j p t (length marks) heard part c.args.own.now.targets.now own old marks job lt told index are changed stands refl;
    }
