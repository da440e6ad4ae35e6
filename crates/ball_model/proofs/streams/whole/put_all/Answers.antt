use Rattle.std.proofs.Common.{◌≡◌, ℕ, ◌-◌, ◌<◌, ◌≤◌, length, take, drop, refl, ap, ◌∙◌, arith, rules, length-drop}
use Rattle.std.proofs.lemmas.List.{take_rest}
use Rattle.ball_model.proofs.StreamLemmas.{put_none, put_more, put_fewer, put_front, put_goes, room_less, after_none, after_more, after_fewer}
use Rattle.ball_model.proofs.streams.whole.put_all.Goals as goal

pub loop-rest-init : goal.loop-rest-init
loop-rest-init g c = record {
  put = put_none _ _;
  counted = refl;
  sure = after_fewer 0 _ _ _ (after_none _) (omega arith);
  room = omega arith;
}

pub loop-rest-preserved : goal.loop-rest-preserved
loop-rest-preserved g c =
    let all = c.args.bytes.now in
    let rest = c.loop-rest.rest.now in
    let n : ℕ = c.in-Some.n in
    let inv = c.loop-rest.invariant in
    let fewer : length rest ≤ length all = put_fewer all rest _ _ inv.put in
    let size : length (take (length rest - n) (drop n rest)) ≡ length rest - n = ap length (take_rest rest n) ∙ length-drop n rest in
    record {
      put = put_more all rest _ _ _ n inv.put c.in-Some.ensures.bytes.0;
      counted = c.in-Some.ensures.counted ∙ inv.counted;
      sure = rw (size, c.in-Some.ensures.sure) (after_more (length all - length rest) (length all - (length rest - n)) _ _ inv.sure (omega (arith, fewer, c.in-Some.ensures.some, c.in-Some.ensures.within)));
      room = rw size (room_less (length all) (length rest) n _ _ _ inv.room c.in-Some.ensures.taken fewer c.in-Some.ensures.within);
    }

pub returns-in-None-clause-front : goal.returns-in-None-clause-front
returns-in-None-clause-front g c = λ is.
    let some : 0 < length c.loop-rest.rest.now = search rules in
    put_front _ c.loop-rest.rest.now _ _ _ c.loop-rest.invariant.put some c.in-None.ensures.bytes.1

pub returns-in-None-clause-only : goal.returns-in-None-clause-only
returns-in-None-clause-only g c = λ sure fits.
    let inv = c.loop-rest.invariant in
    let some : 0 < length c.loop-rest.rest.now = search rules in
    absurd (put_goes _ (length c.loop-rest.rest.now) _ _ _ _ sure inv.sure inv.room (put_fewer _ _ _ _ inv.put) some fits c.in-None.ensures.only)
