use Rattle.std.proofs.Common.{drop, sym}
use Rattle.std.proofs.lemmas.Result.{err_from_is_err_and}
use Rattle.gapcode.specs.Bits.{bits_of}
use Rattle.gapcode.proofs.WalkLemmas.{list_goes_on, list_fails, lists_done}
use Rattle.gapcode.proofs.check.pass_lists.Goals as goal

pub returns-in_err-place-clause-exact : goal.returns-in_err-place-clause-exact
returns-in_err-place-clause-exact c =
    let p = err_from_is_err_and c.from_residual.result c.from_residual.ensures.1 in
    rw (p.1, p.2) (list_fails c.args.bound c.args.count c.loop.counter (drop c.loop.place (bits_of c.args.bytes.now)) c.in_err-place.field-0.0 _ c.loop-test.true (sym c.in_err-place.ensures.exact) c.loop.invariant.so_far)

pub loop-preserved : goal.loop-preserved
loop-preserved c = record {
  so_far = list_goes_on c.args.bound c.args.count c.loop.counter (drop c.loop.place (bits_of c.args.bytes.now)) (drop c.in_ok-place.place (bits_of c.args.bytes.now)) _ c.loop-test.true (sym c.in_ok-place.ensures.exact) c.loop.invariant.so_far;
  inside = c.in_ok-place.ensures.inside;
}

pub returns-clause-exact : goal.returns-clause-exact
returns-clause-exact c = lists_done c.args.bound c.args.count c.loop.counter (drop c.loop.place (bits_of c.args.bytes.now)) _ c.loop-test.false c.loop.invariant.so_far
