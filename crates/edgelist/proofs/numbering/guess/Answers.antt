use Rattle.std.proofs.Common.{◌∙◌, sym, refl, arith}
use Rattle.edgelist.proofs.GuessLemmas.{told-at}
use Rattle.edgelist.proofs.numbering.guess.Goals as goal

pub returns-then-eq : goal.returns-then-eq
returns-then-eq c = λ labels label told short is.
    told-at labels c.args.entries.now label c.args.key c.loop-i.i _ _ refl (omega (arith, c.loop-i-test.true, c.min-i-end.ensures)) told short is
    (rw c.key.ensures at (sym c.eq.ensures ∙ c.if-eq.true))
