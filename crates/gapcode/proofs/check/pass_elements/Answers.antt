use Rattle.std.proofs.Common.{drop, sym, arith}
use Rattle.std.proofs.lemmas.Result.{err_from_is_err_and}
use Rattle.gapcode.specs.Bits.{bits_of}
use Rattle.gapcode.proofs.WalkLemmas.{element_goes_on, element_range, element_fails, elements_done}
use Rattle.gapcode.proofs.check.pass_elements.Goals as goal

pub returns-in_err-gap-clause-exact : goal.returns-in_err-gap-clause-exact
returns-in_err-gap-clause-exact c =
    let p = err_from_is_err_and c.from_residual.result c.from_residual.ensures.1 in
    rw (p.1, p.2) (element_fails c.args.bound c.args.count c.loop.counter c.loop.least (drop c.loop.end (bits_of c.args.bytes.now)) c.in_err-gap.field-0.0 _ c.loop-test.true (sym c.in_err-gap.ensures.exact) c.loop.invariant.so_far)

pub returns-then-gap-bound-clause-exact : goal.returns-then-gap-bound-clause-exact
returns-then-gap-bound-clause-exact c =
    element_range c.args.bound c.args.count c.loop.counter c.loop.least c.in_ok-gap.gap (drop c.loop.end (bits_of c.args.bytes.now)) (drop c.in_ok-gap.next (bits_of c.args.bytes.now)) _ c.loop-test.true (sym c.in_ok-gap.ensures.exact) (omega arith) c.loop.invariant.so_far

pub loop-preserved : goal.loop-preserved
loop-preserved c = record {
  so_far = element_goes_on c.args.bound c.args.count c.loop.counter c.loop.least c.in_ok-gap.gap (drop c.loop.end (bits_of c.args.bytes.now)) (drop c.in_ok-gap.next (bits_of c.args.bytes.now)) _ c.loop-test.true (sym c.in_ok-gap.ensures.exact) (omega arith) c.loop.invariant.so_far;
  fits = omega arith;
  inside = c.in_ok-gap.ensures.inside;
}

pub returns-clause-exact : goal.returns-clause-exact
returns-clause-exact c = elements_done c.args.bound c.args.count c.loop.counter c.loop.least (drop c.loop.end (bits_of c.args.bytes.now)) _ c.loop-test.false c.loop.invariant.so_far
