use Rattle.std.proofs.Common.{◌≡◌, [], arith, refl, true, false}
use Rattle.std.proofs.lemmas.Result.{err_from_is_err_and}
use Rattle.edgelist.specs.Reading.{limits_of}
use Rattle.edgelist.proofs.PieceLemmas.{part-read-start}
use Rattle.edgelist.proofs.reading.Reading.read_more.Goals as goal

pub loop-turn-init : goal.loop-turn-init
loop-turn-init g c = record {
  turns = omega arith;
  in_range = c.requires.number;
  within = c.requires.within;
  part = λ d text at before t. part-read-start g.R.Read.remaining d (limits_of c.args.how.now.limits) c.args.number before text c.args.reader.now c.args.self.now.labels c.args.self.now.edges.items at t;
}

pub returns-then-not-more-clause-ok : goal.returns-then-not-more-clause-ok
returns-then-not-more-clause-ok g c = λ d text at before t.
    let none : c.in_ok-so_far.more ≡ false = search c.if-not-more.true in
    (c.in_ok-so_far.ensures.reads d text before (c.loop-turn.invariant.part d text at before t)).end none

pub returns-then-not-more-clause-last : goal.returns-then-not-more-clause-last
returns-then-not-more-clause-last g c = λ before t d text at.
    let none : c.in_ok-so_far.more ≡ false = search c.if-not-more.true in
    (c.in_ok-so_far.ensures.reads d text before (c.loop-turn.invariant.part d text at before t)).last none

pub returns-in_err-so_far-clause-refused : goal.returns-in_err-so_far-clause-refused
returns-in_err-so_far-clause-refused g c = λ d text at before more t.
    let p = err_from_is_err_and c.from_residual.result c.from_residual.ensures.1 in
    rw (p.1, p.2) ((c.in_err-so_far.ensures.reads d text before (c.loop-turn.invariant.part d text at before t)).refused more)

pub returns-in_err-so_far-clause-ends : goal.returns-in_err-so_far-clause-ends
returns-in_err-so_far-clause-ends g c = λ t d text at.
    let p = err_from_is_err_and c.from_residual.result c.from_residual.ensures.1 in
    rw (p.1, p.2) ((c.in_err-so_far.ensures.reads d text [] (c.loop-turn.invariant.part d text at [] t)).ends refl)

pub loop-turn-preserved : goal.loop-turn-preserved
loop-turn-preserved g c =
    let more : c.in_ok-so_far.more ≡ true = search c.if-not-more.false in
    let later = c.in_ok-so_far.ensures.later more in
    let turns = c.loop-turn.invariant.turns in
    record {
      turns = omega (arith, later, turns);
      in_range = c.in_ok-so_far.ensures.number;
      within = c.in_ok-so_far.ensures.within;
      part = λ d text at before t. (c.in_ok-so_far.ensures.reads d text before (c.loop-turn.invariant.part d text at before t)).goes more;
    }
