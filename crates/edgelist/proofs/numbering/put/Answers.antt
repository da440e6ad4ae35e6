use Rattle.edgelist.proofs.GuessLemmas.{told-set}
use Rattle.edgelist.proofs.numbering.put.Goals as goal

pub returns-then-place-entries : goal.returns-then-place-entries
returns-then-place-entries c = λ labels told tells. told-set labels c.args.entries.now c.entry_place-place.result c.args.entry c.if-place-entries.true told tells
