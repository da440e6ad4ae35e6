use Rattle.std.proofs.Common.{◌≡◌, ◌++◌, ℕ, List, sym, subst, arith}
use Rattle.sha2.specs.Hashers.{Holds256}
use Rattle.graph.proofs.DigestLemmas.{members_below, members-next, members-all}
use Rattle.graph.proofs.digest.add_members.Goals as goal

pub loop-v-preserved : goal.loop-v-preserved
loop-v-preserved c = λ m held.
    subst (λ (bs : List ℕ). Holds256 c.add_if_counted.new.hasher bs) (sym (members-next c.args.graph.now.graph m c.loop-v.v))
    (c.add_if_counted.ensures (m ++ members_below c.args.graph.now.graph c.loop-v.v) (c.loop-v.invariant m held))

pub returns : goal.returns
returns c = λ m held.
    let at : c.loop-v.v ≡ c.args.graph.now.graph.vertices = omega (arith, c.vertices-v-end.ensures.count, c.loop-v-test.false, c.loop-v.auto.v-end) in
    rw (members-all c.args.graph.now.graph c.loop-v.v c.vertices-v-end.ensures.graph at) at (c.loop-v.invariant m held)
