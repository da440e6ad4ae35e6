use Rattle.std.proofs.Common.{ℕ, ◌<◌, ◌≢◌}
use Rattle.ball_model.specs.Caller.{Extends}
use Rattle.ball_model.specs.History.{holding_in}
use Rattle.replica.specs.Sent.{batch_name}
use Rattle.workers.specs.Node.{HasPosted}
use Rattle.workers.specs.Tie.{HasCome}
use Rattle.workers.proofs.worker.Worker.tell_each.Given as goal

abbrev pub invariant-loop-target : goal.invariant-loop-target
invariant-loop-target g l =
    Extends (g.E.Exchange.caller l.fn.exchange) (g.E.Exchange.caller l.exchange)
    × ((r : ℕ) → r < l.target → r ≢ l.self.node.part → HasPosted (g.E.Exchange.caller l.fn.exchange) (batch_name l.replica.superstep l.self.node.part r) (g.E.Exchange.caller l.exchange))
    × HasCome (g.E.Exchange.caller l.fn.exchange) l.self.node.part (holding_in l.replica) (holding_in l.replica) (g.E.Exchange.caller l.exchange)
