use Rattle.std.proofs.Common.{◌≡◌, drop}
use Rattle.workers.specs.Options.{order_for}
use Rattle.workers.proofs.nodes.order_for.Given as goal

-- what is left decides
abbrev pub invariant-loop-named : goal.invariant-loop-named
invariant-loop-named l = order_for l.node.part l.node.replica l.orders ≡ order_for l.node.part l.node.replica (drop l.named-index l.orders)
