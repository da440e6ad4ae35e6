use Rattle.std.proofs.Common.{◌≡◌, ◌∙◌, ℕ, List, length, ap, arith, sym}
use Rattle.std.specs.Prelude.{Some, option_map}
use Rattle.graph.proofs.TextLemmas.{count-start, count-byte, count-end, lines-empty, lines-whole, lines-cut}
use Rattle.graph.proofs.labels.count_lines.Goals as goal
use Rattle.graph.proofs.labels.count_lines.Goals.{then-text-i-eq-LF+else-i-begin, else-text-i-eq-LF}

pub loop-i-init : goal.loop-i-init
loop-i-init c = count-start c.args.text.now

pub returns-then-i-begin : goal.returns-then-i-begin
returns-then-i-begin c =
    sym (ap (option_map (length {A = List ℕ})) (lines-empty c.args.text.now c.loop-i.i c.loop-i.begin c.loop-i.invariant.done c.loop-i-test.true c.if-text-i-eq-LF.true c.if-i-begin.true c.loop-i.invariant.reads))

pub overflow_add-count : goal.overflow_add-count
overflow_add-count c = search (arith, c.loop-i.invariant.few, c.loop-i.invariant.reads.within, c.loop-i-test.true, c.type_inv.text)

pub loop-i-preserved : goal.loop-i-preserved
loop-i-preserved c = elim c.if-text-i-eq-LF.branch [
  | then-text-i-eq-LF+else-i-begin w ↦
      rw (w.count-is, w.begin-is) (count-end c.args.text.now c.loop-i.i c.loop-i.begin c.loop-i.count c.loop-i-test.true w.if-text-i-eq-LF.true (omega (arith, w.if-i-begin.false, c.loop-i.invariant.reads.within)) c.loop-i.invariant)
  | else-text-i-eq-LF w ↦
      rw (w.count-is, w.begin-is) (count-byte c.args.text.now c.loop-i.i c.loop-i.begin c.loop-i.count c.loop-i-test.true w.if-text-i-eq-LF.false c.loop-i.invariant)
]

pub returns-then-begin-text : goal.returns-then-begin-text
returns-then-begin-text c =
    let at : c.loop-i.i ≡ c.loop-i.begin = omega (arith, c.if-begin-text.true, c.loop-i-test.false, c.loop-i.auto.i-end) in
    sym (ap (option_map (length {A = List ℕ})) (lines-whole c.args.text.now c.loop-i.i c.loop-i.begin c.loop-i.invariant.done (omega (arith, c.loop-i-test.false)) at c.loop-i.invariant.reads)
    ∙ ap Some c.loop-i.invariant.is)

pub returns-else-begin-text : goal.returns-else-begin-text
returns-else-begin-text c =
    sym (ap (option_map (length {A = List ℕ})) (lines-cut c.args.text.now c.loop-i.i c.loop-i.begin c.loop-i.invariant.done (omega (arith, c.loop-i-test.false, c.loop-i.auto.i-end))
    (omega (arith, c.if-begin-text.false, c.loop-i-test.false, c.loop-i.auto.i-end, c.loop-i.invariant.reads.within)) c.loop-i.invariant.reads))
