use Rattle.std.proofs.Common.{◌∙◌, ◌+◌, ◌++◌, ◌∷◌, [], ℕ, ap, arith}
use Rattle.gapcode.proofs.JoinLemmas.{moving, next_moved, moves_on, all_moved}
use Rattle.gapcode.proofs.places.moved_behind.Goals as goal

pub loop-i-init : goal.loop-i-init
loop-i-init c = record {
  moving = rw c.in_ok-joined.ensures (moving c.args.places c.args.others.now c.args.by c.requires.last c.requires.others);
}

pub overflow_add-at : goal.overflow_add-at
overflow_add-at c =
    let next = next_moved c.args.places c.args.others.now c.loop-i.joined c.args.by c.loop-i.i (omega (arith, c.loop-i-test.true, c.len-i-end.ensures)) c.loop-i.invariant.moving in
    omega (arith, c.at.ensures, next.1, c.requires.by)

pub push-requires-clause-order : goal.push-requires-clause-order
push-requires-clause-order c =
    let next = next_moved c.args.places c.args.others.now c.loop-i.joined c.args.by c.loop-i.i (omega (arith, c.loop-i-test.true, c.len-i-end.ensures)) c.loop-i.invariant.moving in
    omega (arith, c.at.ensures, next.0)

pub push-requires-clause-small : goal.push-requires-clause-small
push-requires-clause-small c =
    let next = next_moved c.args.places c.args.others.now c.loop-i.joined c.args.by c.loop-i.i (omega (arith, c.loop-i-test.true, c.len-i-end.ensures)) c.loop-i.invariant.moving in
    omega (arith, c.at.ensures, next.1, c.requires.by)

pub loop-i-preserved : goal.loop-i-preserved
loop-i-preserved c = record {
  moving = moves_on c.args.places c.args.others.now c.loop-i.joined c.in_ok-joined-2.joined c.args.by c.loop-i.i (omega (arith, c.loop-i-test.true, c.len-i-end.ensures)) c.loop-i.invariant.moving
      (c.in_ok-joined-2.ensures ∙ ap (λ (n : ℕ). c.loop-i.joined ++ (n + c.args.by) ∷ []) c.at.ensures);
}

pub returns : goal.returns
returns c = all_moved c.args.places c.args.others.now c.loop-i.joined c.args.by c.loop-i.i (omega (arith, c.loop-i-test.false, c.len-i-end.ensures)) c.loop-i.invariant.moving
