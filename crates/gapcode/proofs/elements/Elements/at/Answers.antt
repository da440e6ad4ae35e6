use Rattle.std.proofs.Common.{◌∙◌, ap, sym, arith}
use Rattle.gapcode.specs.Lists.{elements_of, read_list}
use Rattle.gapcode.proofs.WordsLemmas.{at_rest}
use Rattle.gapcode.proofs.SteppingLemmas.{moved, list_moved}
use Rattle.gapcode.proofs.elements.Elements.at.Goals as goal

pub degree-left-requires-clause-placed : goal.degree-left-requires-clause-placed
degree-left-requires-clause-placed c = list_moved c.args.bytes.now _ c.args.place c.split_at.ensures.back c.requires

pub invariant_of-result : goal.invariant_of-result
invariant_of-result c = (omega arith, moved c.split_at.result.1.now _ c.degree-left.result.1 c.degree-left.result.0 0 c.behind.ensures c.degree-left.ensures.placed)

pub returns : goal.returns
returns c =
    ap (elements_of c.degree-left.result.0 0) (sym (at_rest c.split_at.result.1.now _ c.degree-left.result.1 c.behind.ensures))
    ∙ c.degree-left.ensures.first ∙ ap read_list (sym (at_rest c.args.bytes.now _ c.args.place c.split_at.ensures.back))
