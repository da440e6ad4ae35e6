use Rattle.std.proofs.Common.{◌≡◌, drop}
use Rattle.workers.specs.Options.{are_all_named}
use Rattle.workers.proofs.options.are_all_named.Given as goal

-- what is left decides
abbrev pub invariant-loop-node : goal.invariant-loop-node
invariant-loop-node l = are_all_named l.parts l.replicas l.orders ≡ are_all_named l.parts l.replicas (drop l.node-index l.orders)
