use Rattle.std.proofs.Common.{Bool, List, Ok, ap, sym, ◌∙◌}
use Rattle.std.proofs.lemmas.Result.{err_from_is_err_and}
use Rattle.gapcode.specs.Bits.{gamma_at}
use Rattle.gapcode.proofs.WordsLemmas.{at_rest, move_rest}
use Rattle.gapcode.proofs.code.code_from.Goals as goal

pub returns-in_err-x-clause-exact : goal.returns-in_err-x-clause-exact
returns-in_err-x-clause-exact c =
    let p = err_from_is_err_and c.from_residual.result c.from_residual.ensures.1 in
    rw (p.1, p.2) (c.in_err-x.ensures.exact ∙ ap gamma_at (sym (at_rest c.args.bytes.now _ c.args.place c.split_at.ensures.back)))

pub returns-clause-exact : goal.returns-clause-exact
returns-clause-exact c =
    ap (λ (t : List Bool). Ok (c.in_ok-x.x, t)) (move_rest c.args.bytes.now _ c.args.place c.in_ok-x.end c.split_at.ensures.back)
    ∙ c.in_ok-x.ensures.exact ∙ ap gamma_at (sym (at_rest c.args.bytes.now _ c.args.place c.split_at.ensures.back))
