use Rattle.std.proofs.Common.{◌≡◌, sym, subst}
use Rattle.graph.specs.Finding.{StandsAt}
use Rattle.edgelist.proofs.GuessLemmas.{tells-one}
use Rattle.edgelist.proofs.numbering.remember.Goals as goal

pub returns : goal.returns
returns c = λ labels label told short is stands.
    let held : c.in-Ok.number ≡ c.args.number = (c.in-Ok.ensures).1 in
    c.put.ensures labels told (tells-one labels label _ short (subst (λ n. StandsAt labels label n) (sym held) stands) is)
