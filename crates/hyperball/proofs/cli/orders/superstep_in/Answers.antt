use Rattle.std.proofs.Common.{arith, sym, ◌∙◌}
use Rattle.std.specs.Prelude.{Ok, Err, ℕ}
use Rattle.std.proofs.lemmas.Fmt.{decimal_injective}
use Rattle.hyperball.proofs.OrderLemmas.{read-other, read-plain}
use Rattle.hyperball.proofs.cli.orders.superstep_in.Goals as goal

pub returns-then-not-has_plain_digits : goal.returns-then-not-has_plain_digits
returns-then-not-has_plain_digits c = λ n small. read-other c.args.digits.now (sym c.has_plain_digits.ensures ∙ c.if-not-has_plain_digits.true) n (omega (arith, small))

pub returns-in-Ok : goal.returns-in-Ok
returns-in-Ok c = (c.if-superstep-lt1000000000.true, (read-plain {E = ℕ} 32 c.args.digits.now (Ok c.in-Ok.superstep) (omega arith) (sym c.has_plain_digits.ensures ∙ c.if-not-has_plain_digits.false) c.in-Ok.ensures.value.0).1)

pub returns-in_default : goal.returns-in_default
returns-in_default c = λ n small is.
    let read = read-plain {E = ℕ} 32 c.args.digits.now (Ok c.in-Ok.superstep) (omega arith) (sym c.has_plain_digits.ensures ∙ c.if-not-has_plain_digits.false) c.in-Ok.ensures.value.0 in
    let same = decimal_injective c.in-Ok.superstep n (omega (arith, read.0)) (omega (arith, small)) (sym read.1 ∙ is) in
    omega (arith, c.if-superstep-lt1000000000.false, same, small)

pub returns-in_default-2 : goal.returns-in_default-2
returns-in_default-2 c = λ n small is.
    read-plain {E = ℕ} 32 c.args.digits.now (Err 0) (omega arith) (sym c.has_plain_digits.ensures ∙ c.if-not-has_plain_digits.false) c.in_default.ensures.value.0 n (omega (arith, small)) is
