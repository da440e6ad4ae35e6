use Rattle.std.proofs.Common.{refl}
use Rattle.graph.specs.Labels.{texts}
use Rattle.edgelist.proofs.GuessLemmas.{told-blank}
use Rattle.edgelist.proofs.numbering.Numbering.new.Goals as goal

pub invariant_of-result : goal.invariant_of-result
invariant_of-result c = rw c.in_ok-entries.ensures (told-blank (texts c.with_hasher-labels.result) 131072)

pub returns : goal.returns
returns c = rw c.with_hasher-labels.ensures.empty refl
