use Rattle.std.proofs.Common.{◌≡◌, ℕ, arith, length, subst}
use Rattle.graph.specs.Lists.{Ascend}
use Rattle.graph.proofs.CutLemmas.{last-start}
use Rattle.graph.proofs.TextLemmas.{start-none, start-byte, start-end, start-last, start-some, lines-whole}
use Rattle.graph.proofs.labels.line_starts.Goals as goal
use Rattle.graph.proofs.labels.line_starts.Goals.{then-text-i-eq-LF+in_ok-starts-2, else-text-i-eq-LF}

pub loop-i-init : goal.loop-i-init
loop-i-init c = start-none c.args.text.now c.in_ok-starts.starts c.in_ok-starts.ensures

pub push-requires-clause-order : goal.push-requires-clause-order
push-requires-clause-order c = omega (arith, last-start c.loop-i.invariant.begin c.loop-i.starts c.loop-i.invariant.up, c.loop-i.invariant.reads.within)

pub loop-i-preserved : goal.loop-i-preserved
loop-i-preserved c = elim c.if-text-i-eq-LF.branch [
  | then-text-i-eq-LF+in_ok-starts-2 w ↦
      let end = w.if-text-i-eq-LF.true in
      let some = start-some c.args.text.now c.loop-i.starts c.loop-i.i c.args.count c.loop-i.invariant c.requires c.loop-i-test.true end in
      rw w.starts-is (start-end c.args.text.now c.loop-i.starts w.in_ok-starts-2.starts c.loop-i.i c.loop-i.invariant c.loop-i-test.true end some w.in_ok-starts-2.ensures)
  | else-text-i-eq-LF w ↦ rw w.starts-is (start-byte c.args.text.now c.loop-i.starts c.loop-i.i c.loop-i-test.true w.if-text-i-eq-LF.false c.loop-i.invariant)
]

pub returns-clause-starts : goal.returns-clause-starts
returns-clause-starts c =
    let all : length c.args.text.now ≡ c.loop-i.i = omega (arith, c.loop-i-test.false, c.loop-i.auto.i-end) in
    let last = start-last c.args.text.now c.loop-i.starts c.loop-i.i c.args.count c.loop-i.invariant c.requires all in
    subst (λ (n : ℕ). Ascend n c.loop-i.starts) (omega (arith, all, last)) c.loop-i.invariant.up

pub returns-clause-lines : goal.returns-clause-lines
returns-clause-lines c =
    let all : length c.args.text.now ≡ c.loop-i.i = omega (arith, c.loop-i-test.false, c.loop-i.auto.i-end) in
    let last = start-last c.args.text.now c.loop-i.starts c.loop-i.i c.args.count c.loop-i.invariant c.requires all in
    lines-whole c.args.text.now c.loop-i.i c.loop-i.invariant.begin _ (omega (arith, all)) last c.loop-i.invariant.reads
