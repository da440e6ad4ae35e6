use Rattle.std.proofs.Common.{arith}
use Rattle.std.proofs.lemmas.Bool.Decides.{nat_tests}
use Rattle.replica.proofs.WaitingLemmas.{edge_added, edge_raised}
use Rattle.replica.proofs.waiting.add_edge.Goals as goal

pub returns-then-is_full : goal.returns-then-is_full
returns-then-is_full c =
    edge_raised c.args.rows.now c.args.edge.0 c.args.edge.1 c.args.waiting.now.items c.push.new.self.items c.raise_waiting.new.waiting.items c.args.accumulated.now c.raise_waiting.new.accumulated c.args.touched.now c.raise_waiting.new.touched
    c.push.ensures.items c.raise_waiting.ensures.none c.raise_waiting.ensures.raised

pub returns-else-is_full : goal.returns-else-is_full
returns-else-is_full c =
    edge_added c.args.rows.now c.args.edge.0 c.args.edge.1 c.args.waiting.now.items c.push.new.self.items c.args.accumulated.now c.args.touched.now c.push.ensures.items (grind (arith, nat_tests, c.if-is_full.ensures.value, c.if-is_full.ensures.fits, c.if-is_full.false)) c.requires
