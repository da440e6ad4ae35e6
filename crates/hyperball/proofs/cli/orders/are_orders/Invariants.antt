use Rattle.hyperball.proofs.OrderLemmas.{SomeSoFar}
use Rattle.hyperball.proofs.cli.orders.are_orders.Given as goal

abbrev pub invariant-loop-piece : goal.invariant-loop-piece
invariant-loop-piece l =
    (goal.iterator-loop-piece).can_next l.piece-iterator ×
    (goal.iterator-loop-piece).is_finite l.piece-iterator ×
    SomeSoFar l.yielded
