use Rattle.std.proofs.Common.{◌≡◌, ◌<◌}
use Rattle.ball_model.specs.Caller.{CalledNothing, Extends}
use Rattle.ball_model.specs.History.{entries_of}
use Rattle.workers.proofs.worker.Worker.has_grown.Given as goal

-- after each turn the history was as long as before
abbrev pub invariant-loop : goal.invariant-loop
invariant-loop g l =
    Extends (g.E.Exchange.caller l.fn.exchange) (g.E.Exchange.caller l.exchange)
    × CalledNothing (g.E.Exchange.caller l.fn.exchange) (g.E.Exchange.caller l.exchange)
    × (0 < l.counter → entries_of (g.E.Exchange.caller l.exchange).seen ≡ l.before)
