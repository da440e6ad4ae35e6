use Rattle.std.proofs.Common.{◌≡◌, None}
use Rattle.ball_model.specs.Caller.{Extends}
use Rattle.ball_model.specs.History.{holding_in}
use Rattle.workers.specs.Tie.{IsPath}
use Rattle.workers.specs.Superstep.{StandsIn}
use Rattle.workers.proofs.worker.Worker.go_on.Given as goal

abbrev pub invariant-loop : goal.invariant-loop
invariant-loop g l =
    Extends (g.E.Exchange.caller l.fn.exchange) (g.E.Exchange.caller l.exchange)
    × StandsIn (g.E.Exchange.caller l.fn.exchange) l.self.node.part l.replica × (l.self.orders.restart ≡ None → l.restart ≡ None)
    × IsPath l.self.orders.keep (g.E.Exchange.caller l.fn.exchange) l.self.node.part (holding_in l.fn.replica) (holding_in l.replica) (g.E.Exchange.caller l.exchange)
