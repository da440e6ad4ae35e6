use Rattle.std.proofs.Common.{◌∙◌, Ok, List, ℕ, ap, sym, arith}
use Rattle.std.proofs.lemmas.Result.{err_from_is_err_and}
use Rattle.gapcode.specs.Lists.{beyond}
use Rattle.gapcode.proofs.WholeLemmas.{checked, gives_err}
use Rattle.gapcode.proofs.lists.checked.Goals as goal

pub returns-in_err-check : goal.returns-in_err-check
returns-in_err-check c =
    let p = err_from_is_err_and c.from_residual.result c.from_residual.ensures.1 in
    rw (p.1, p.2) (gives_err c.args.bound c.args.count c.args.bytes.now c.in_err-check.field-0.0 c.in_err-check.ensures)

pub indexed-requires : goal.indexed-requires
indexed-requires c =
    let r = checked c.args.bound beyond c.args.count c.args.bytes.now (omega arith) c.in_ok-check.ensures in
    (r.0, r.1)

pub returns : goal.returns
returns c =
    let r = checked c.args.bound beyond c.args.count c.args.bytes.now (omega arith) c.in_ok-check.ensures in
    ap (λ (lists : List (List ℕ)). Ok lists) (c.in_ok-indexed.ensures r.0 r.1) ∙ sym r.2
