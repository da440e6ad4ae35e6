use Rattle.std.proofs.Common.{List, ℕ, subst}
use Rattle.std.specs.List.{All}
use Rattle.edgelist.specs.Records.{HasForm}
use Rattle.edgelist.proofs.CuttingLemmas.{form-all}
use Rattle.edgelist.proofs.cut.Cut.len.Goals as goal

pub returns-clause-form : goal.returns-clause-form
returns-clause-form c = subst (λ (rs : List (List (List ℕ))). All HasForm rs) c.self.view_is (form-all c.self.inside.bytes.items c.self.inside.records.items c.self.invariant)
