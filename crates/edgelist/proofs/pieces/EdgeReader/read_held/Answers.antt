use Rattle.std.proofs.Common.{refl}
use Rattle.edgelist.proofs.GivenLemmas.{given-read, given-refused, one-line}
use Rattle.edgelist.proofs.pieces.EdgeReader.read_held.Goals as goal

pub returns-in-Ok-clause-ok : goal.returns-in-Ok-clause-ok
returns-in-Ok-clause-ok c = λ limits delimiter text g ends.
    given-read limits delimiter text c.args.self.now _ g ends c.requires.some c.requires.none refl refl
    (rw c.truncate.ensures.items (one-line c.args.self.now.lines.items c.requires.some)) (rw c.deref.ensures.value at c.in-Ok.ensures.ok)

pub returns-in-Err-clause-refused : goal.returns-in-Err-clause-refused
returns-in-Err-clause-refused c = λ limits delimiter text more g ends plain.
    given-refused limits delimiter text more c.args.self.now c.in-Err.error g ends (rw c.deref.ensures.value at c.in-Err.ensures.refused) plain
