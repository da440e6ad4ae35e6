use Rattle.std.proofs.Common.{List, ℕ, subst}
use Rattle.std.specs.Prelude.{Option, IfSome}
use Rattle.edgelist.specs.Guessing.{IsKey}
use Rattle.edgelist.proofs.row.key_at.Goals as goal

pub returns-in-Some : goal.returns-in-Some
returns-in-Some c =
    subst (λ (o : Option (List ℕ)). IfSome o (λ label. IsKey label c.of.result)) (rw c.in-Some.is at c.get.ensures.value) c.of.ensures

pub returns-in-None : goal.returns-in-None
returns-in-None c =
    subst (λ (o : Option (List ℕ)). IfSome o (λ label. IsKey label c.none.result)) (rw c.in-None.is at c.get.ensures.value) tt
