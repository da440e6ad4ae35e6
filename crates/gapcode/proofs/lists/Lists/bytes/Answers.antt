use Rattle.std.proofs.Common.{List, ℕ, subst}
use Rattle.gapcode.specs.Lists.{beyond, IsSpelling, AreAscending}
use Rattle.gapcode.proofs.IndexLemmas.{stored_spelling}
use Rattle.gapcode.proofs.lists.Lists.bytes.Goals as goal

pub returns-clause-spelling : goal.returns-clause-spelling
returns-clause-spelling c =
    let l = c.self.inside in
    rw c.deref.ensures.value (subst (λ (lists : List (List ℕ)). IsSpelling l.bytes.items lists) c.self.view_is (stored_spelling l.bytes.items l.places c.self.invariant))

pub returns-clause-ascend : goal.returns-clause-ascend
returns-clause-ascend c = subst (λ (lists : List (List ℕ)). AreAscending beyond lists) c.self.view_is c.self.invariant.index.ascend
