use Rattle.std.proofs.Common.{◌≡◌, ℕ, ◌+◌, ◌-◌, ◌<◌, ◌≤◌, List, ◌++◌, rules, arith, length, take, drop, sym, ap, ◌∙◌, subst, le_refl, drop_at, length-take-le}
use Rattle.std.proofs.lemmas.List.{take_all}
use Rattle.std.proofs.lemmas.Slice.{take-put_mid_below}
use Rattle.std.specs.Prelude.{Option}
use Rattle.std.specs.Io.KnownBytes.{Consumes, IsAtEnd}
use Rattle.std.proofs.KnownBytes.{Consumes-kept, Consumes-trans}
use borrow.Rule.Slice.PartMut.{put_mid, post_of}
use lib.Seq.{take-add, take-append-le}
use Rattle.ball_model.specs.Streams.{EndsAfter}
use Rattle.ball_model.proofs.StreamLemmas.{after_fewer, after_more, read_few, read_none, sure_goes}
use Rattle.ball_model.proofs.streams.whole.fill.Goals as goal

-- what was read stands behind what was there
take_part : (a k n : ℕ) (xs ys : List ℕ) → a ≤ length xs → n ≤ length ys → take (a + n) (put_mid a k xs ys) ≡ take a xs ++ take n ys
take_part a k n xs ys within fits =
    let all = put_mid a k xs ys in
    let front : take a all ≡ take a xs = take-put_mid_below a k xs ys a (le_refl a) within in
    let part : take n (drop a all) ≡ take n ys = ap (take n) (drop_at (take a xs) (ys ++ post_of a k xs) a (length-take-le a xs within)) ∙ take-append-le n ys (post_of a k xs) fits in
    take-add a n all ∙ ap (λ l. l ++ take n (drop a all)) front ∙ ap (λ l. take a xs ++ l) part

-- the input ended once that many bytes were read
ends_after : (at n k : ℕ) (buf part : List ℕ) (a b : Option (List ℕ)) → at ≡ n → at < length (put_mid at k buf part) → at ≤ length buf → Consumes a b (take at buf) → IsAtEnd b → EndsAfter n a b (put_mid at k buf part)
ends_after at n k buf part a b same fewer within read last = record {
  fewer = subst (λ (m : ℕ). m < length (put_mid at k buf part)) same fewer;
  consumed = subst (λ (m : ℕ). Consumes a b (take m (put_mid at k buf part))) same (subst (Consumes a b) (sym (take-put_mid_below at k buf part at (le_refl at) within)) read);
  last = last;
}

pub loop-at-preserved : goal.loop-at-preserved
loop-at-preserved g c =
    let at : ℕ = c.loop-at.at in
    let n : ℕ = c.in-Some.n in
    let room = length c.loop-at.buf - at in
    let inv = c.loop-at.invariant in
    let joined = take_part at room n c.loop-at.buf c.get.new.buf inv.within c.in-Some.ensures.within in
    record {
      within = search rules;
      size = search rules;
      read = subst (Consumes _ _) (sym joined) (Consumes-trans _ _ _ _ _ inv.read c.in-Some.ensures.bytes.0.0);
      counted = c.in-Some.ensures.counted ∙ inv.counted;
      sure = rw c.in-Some.ensures.sure (after_more at (at + n) _ _ inv.sure (omega arith));
    }

pub returns-in-Some-eq0-clause-ended : goal.returns-in-Some-eq0-clause-ended
returns-in-Some-eq0-clause-ended g c = λ n e.
    let at : ℕ = c.loop-at.at in
    let buf = c.loop-at.buf in
    let inv = c.loop-at.invariant in
    let got = c.in-Some-eq0 in
    let read = read_none _ _ _ _ _ _ got.field-0-test inv.read got.ensures.bytes.0.0 in
    let room : 0 < length c.get.new.buf = search rules in
    ends_after at n (length buf - at) buf c.get.new.buf _ _ (cc) (search rules) inv.within read (got.ensures.bytes.0.1 got.field-0-test room)

pub returns-in-Some-eq0-clause-few : goal.returns-in-Some-eq0-clause-few
returns-in-Some-eq0-clause-few g c =
    let inv = c.loop-at.invariant in
    let got = c.in-Some-eq0 in
    read_few c.loop-at.at _ c.loop-at.buf _ _ inv.within inv.size (read_none _ _ _ _ _ _ got.field-0-test inv.read got.ensures.bytes.0.0)

pub returns-in-Some-eq0-clause-sure : goal.returns-in-Some-eq0-clause-sure
returns-in-Some-eq0-clause-sure g c =
    let inv = c.loop-at.invariant in
    rw c.in-Some-eq0.ensures.sure (after_more c.loop-at.at _ _ _ inv.sure (omega (arith, c.loop-at-test.true, inv.size)))

pub returns-in-None-clause-few : goal.returns-in-None-clause-few
returns-in-None-clause-few g c =
    let inv = c.loop-at.invariant in
    read_few c.loop-at.at _ c.loop-at.buf _ _ inv.within inv.size (Consumes-kept _ _ _ _ inv.read c.in-None.ensures.bytes.1)

pub returns-in-None-clause-only : goal.returns-in-None-clause-only
returns-in-None-clause-only g c = λ s e.
    let inv = c.loop-at.invariant in
    sure_goes c.loop-at.at _ _ _ s inv.sure (omega (arith, c.loop-at-test.true, inv.size)) c.in-None.ensures.only

pub returns-in-None-clause-sure : goal.returns-in-None-clause-sure
returns-in-None-clause-sure g c =
    let inv = c.loop-at.invariant in
    rw c.in-None.ensures.sure (after_more c.loop-at.at _ _ _ inv.sure (omega (arith, c.loop-at-test.true, inv.size)))

pub returns-clause-full : goal.returns-clause-full
returns-clause-full g c = λ e. subst (Consumes _ _) (take_all c.loop-at.at c.loop-at.buf c.loop-at-test.false) c.loop-at.invariant.read

pub returns-clause-few : goal.returns-clause-few
returns-clause-few g c =
    let inv = c.loop-at.invariant in
    read_few c.loop-at.at _ c.loop-at.buf _ _ inv.within inv.size inv.read

pub returns-clause-sure : goal.returns-clause-sure
returns-clause-sure g c =
    let inv = c.loop-at.invariant in
    after_fewer c.loop-at.at _ _ _ inv.sure (omega (arith, inv.within, inv.size))
