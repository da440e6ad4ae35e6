use Rattle.std.proofs.Common.{◌≡◌, ℕ, true, false, length, ap, sym, ◌∙◌}
use Rattle.std.specs.Prelude.{◌==◌}
use Rattle.std.proofs.lemmas.Result.{err_from_is_err_and}
use Rattle.stored.specs.Reading.{is_block}
use Rattle.stored.proofs.ReadBlockLemmas.{code_due, code_kind, code_passes, code_refused}
use Rattle.stored.proofs.read.block_of.Goals as goal

pub returns-in_err-lists-clause-refused : goal.returns-in_err-lists-clause-refused
returns-in_err-lists-clause-refused c =
    let p = err_from_is_err_and c.from_residual.result c.from_residual.ensures.1 in
    rw (p.1, p.2) (code_due c.args.vertices c.args.left c.args.count c.args.code.now c.in_err-lists.field-0.0 c.in_err-lists.ensures.exact)

pub returns-in_err-lists-clause-kind : goal.returns-in_err-lists-clause-kind
returns-in_err-lists-clause-kind c =
    let p = err_from_is_err_and c.from_residual.result c.from_residual.ensures.1 in
    rw (p.1, p.2) (code_kind c.in_err-lists.field-0.0)

pub returns-then-not-are_block-clause-refused : goal.returns-then-not-are_block-clause-refused
returns-then-not-are_block-clause-refused c = λ of.
    let left = c.args.left in
    let lists = c.in_ok-lists.lists in
    let other : is_block (length lists == left) lists ≡ false = ap (λ (k : ℕ). is_block (k == left) lists) c.in_ok-lists.ensures.found.count ∙ sym c.if-not-are_block.ensures in
    code_refused c.args.vertices left c.args.count c.args.code.now lists c.in_ok-lists.ensures.exact other

pub returns-clause-found : goal.returns-clause-found
returns-clause-found c =
    let left = c.args.left in
    let lists = c.in_ok-lists.lists in
    let block : is_block (length lists == left) lists ≡ true = ap (λ (k : ℕ). is_block (k == left) lists) c.in_ok-lists.ensures.found.count ∙ sym c.if-not-are_block.ensures in
    code_passes c.args.vertices left c.args.count c.args.code.now lists c.in_ok-lists.ensures.exact block
