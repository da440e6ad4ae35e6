use Rattle.std.proofs.Common.{◌∙◌, drop, sym}
use Rattle.std.proofs.lemmas.Result.{err_from_is_err_and}
use Rattle.gapcode.specs.Bits.{bits_of}
use Rattle.gapcode.proofs.WalkLemmas.{check_fails, check_goes_on}
use Rattle.gapcode.proofs.check.check.Goals as goal

pub returns-in_err-end : goal.returns-in_err-end
returns-in_err-end c =
    let p = err_from_is_err_and c.from_residual.result c.from_residual.ensures.1 in
    rw (p.1, p.2) (check_fails c.args.bound c.args.count c.args.bytes.now c.in_err-end.field-0.0 (sym c.in_err-end.ensures.exact))

pub returns : goal.returns
returns c = c.pass_end.ensures ∙ check_goes_on c.args.bound c.args.count c.args.bytes.now (drop c.in_ok-end.end (bits_of c.args.bytes.now)) (sym c.in_ok-end.ensures.exact)
