use Rattle.std.proofs.Common.{◌≡◌, ◌++◌, ℕ, List, sym, subst, arith}
use Rattle.sha2.specs.Hashers.{Holds256}
use Rattle.graph.proofs.DigestLemmas.{bytes_below, bytes-next, bytes-all}
use Rattle.graph.proofs.digest.add_edges.Goals as goal

pub loop-target-preserved : goal.loop-target-preserved
loop-target-preserved c = λ m held.
    let more = c.add_row.ensures (m ++ bytes_below c.args.graph.now.graph c.loop-target.target) (c.loop-target.invariant m held) in
    subst (λ (bs : List ℕ). Holds256 c.add_row.new.hasher bs) (sym (bytes-next c.args.graph.now.graph m c.loop-target.target)) (rw c.preds.ensures.value at more)

pub returns : goal.returns
returns c = λ m held.
    let at : c.loop-target.target ≡ c.args.graph.now.graph.vertices = omega (arith, c.vertices-target-end.ensures.count, c.loop-target-test.false, c.loop-target.auto.target-end) in
    rw (bytes-all c.args.graph.now.graph c.loop-target.target c.vertices-target-end.ensures.graph at) at (c.loop-target.invariant m held)
