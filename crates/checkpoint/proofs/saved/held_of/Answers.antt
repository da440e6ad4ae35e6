use Rattle.checkpoint.proofs.RightLemmas.{unnamed_or_memory}
use Rattle.checkpoint.proofs.saved.held_of.Goals as goal

pub returns-clause-first : goal.returns-clause-first
returns-clause-first c = λ first v same none. unnamed_or_memory v c.args.rows.now c.nothing_held.result same c.nothing_held.ensures.unnamed c.nothing_held.ensures.kind
