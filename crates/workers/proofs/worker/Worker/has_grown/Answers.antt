use Rattle.std.proofs.Common.{◌∙◌, arith, refl, sym}
use Rattle.workers.proofs.SeenLemmas.{extends_self, extends_trans}
use Rattle.workers.proofs.PathLemmas.{nothing_then}
use Rattle.workers.proofs.worker.Worker.has_grown.Goals as goal

pub loop-init : goal.loop-init
loop-init g c = (extends_self _ c.requires.caller, refl, λ some. absurd (omega (arith, some)))

pub loop-preserved : goal.loop-preserved
loop-preserved g c = (extends_trans _ _ _ c.loop.invariant.0 c.length.ensures.seen, nothing_then (g.E.Exchange.caller c.args.exchange.now) (g.E.Exchange.caller c.loop.exchange) (g.E.Exchange.caller c.length.new.self) c.loop.invariant.0 c.loop.invariant.1 c.length.ensures.nothing, λ _. sym c.length.ensures.length ∙ c.if-length-before.false)

pub returns-then-length-before : goal.returns-then-length-before
returns-then-length-before g c = record { seen = extends_trans _ _ _ c.loop.invariant.0 c.length.ensures.seen; nothing = nothing_then (g.E.Exchange.caller c.args.exchange.now) (g.E.Exchange.caller c.loop.exchange) (g.E.Exchange.caller c.length.new.self) c.loop.invariant.0 c.loop.invariant.1 c.length.ensures.nothing; grown = λ _ is. c.if-length-before.true (c.length.ensures.length ∙ is); same = λ no. absurd (cc) }

pub returns-then-not-may_come : goal.returns-then-not-may_come
returns-then-not-may_come g c = record { seen = extends_trans _ _ _ c.loop.invariant.0 c.length.ensures.seen; nothing = nothing_then (g.E.Exchange.caller c.args.exchange.now) (g.E.Exchange.caller c.loop.exchange) (g.E.Exchange.caller c.length.new.self) c.loop.invariant.0 c.loop.invariant.1 c.length.ensures.nothing; grown = λ yes. absurd (cc); same = λ _ _. sym c.length.ensures.length ∙ c.if-length-before.false }

pub returns-clause-nothing : goal.returns-clause-nothing
returns-clause-nothing g c = c.loop.invariant.1

pub returns-clause-same : goal.returns-clause-same
returns-clause-same g c = λ _ some. c.loop.invariant.2 (omega (arith, some))
