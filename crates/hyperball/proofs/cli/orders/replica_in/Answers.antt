use Rattle.std.proofs.Common.{arith, sym, ◌∙◌, subst}
use Rattle.std.specs.Prelude.{decimal, ◌<◌, ◌^◌}
use Rattle.hyperball.specs.Orders.{Reads}
use Rattle.hyperball.proofs.OrderLemmas.{read-other, read-plain}
use Rattle.hyperball.proofs.cli.orders.replica_in.Goals as goal

pub returns-then-not-has_plain_digits : goal.returns-then-not-has_plain_digits
returns-then-not-has_plain_digits c = λ n small. read-other c.args.digits.now (sym c.has_plain_digits.ensures ∙ c.if-not-has_plain_digits.true) n (omega (arith, small))

pub returns : goal.returns
returns c = subst (Reads (λ n. n < 2 ^ 8) decimal c.args.digits.now) (sym c.ok.ensures.value) (read-plain 8 c.args.digits.now c.parse.result (omega arith) (sym c.has_plain_digits.ensures ∙ c.if-not-has_plain_digits.false) c.parse.ensures.value.0)
