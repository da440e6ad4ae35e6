use Rattle.std.proofs.Common.{arith}
use Rattle.gapcode.specs.Bits.{bits_of}
use Rattle.gapcode.proofs.IndexLemmas.{goes, goes_on, goes_done}
use Rattle.gapcode.proofs.lists.places.Goals as goal

pub loop-init : goal.loop-init
loop-init c = record {
  goes = λ x read. rw c.in_ok-places.ensures (goes (bits_of c.args.bytes.now) c.args.count x read);
  inside = omega arith;
}

pub push-requires-clause-order : goal.push-requires-clause-order
push-requires-clause-order c = (c.loop.invariant.goes c.requires.0 c.requires.1).order

pub loop-preserved : goal.loop-preserved
loop-preserved c = record {
  goes = λ x read. rw c.in_ok-places-2.ensures (goes_on (bits_of c.args.bytes.now) c.loop.places c.loop.place c.list_end-place.result c.loop.counter c.args.count x.0 c.loop-test.true (c.loop.invariant.goes x read) c.list_end-place.ensures.end c.list_end-place.ensures.rest);
  inside = c.list_end-place.ensures.inside;
}

pub returns : goal.returns
returns c = λ x read. goes_done (bits_of c.args.bytes.now) c.loop.places c.loop.place c.loop.counter c.args.count x.0 c.loop-test.false (c.loop.invariant.goes x read)
