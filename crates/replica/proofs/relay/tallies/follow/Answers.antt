use Rattle.std.proofs.Common.{◌≡◌, ℕ, ◌+◌, ◌<◌, ◌≤◌, Bool, List, length, map, get_or, ap, sym, ◌∙◌, arith}
use Rattle.replica.proofs.Names.{length-map, length-set, map-set, get_or-map, get_or_default, same_lists, TallyValue, no_figures, value_of, Tally, IsNextMarked, passed}
use Rattle.replica.specs.Relay.{DifferAt}
use Rattle.replica.proofs.LevelLemmas.Step.{step_done, step_rest}
use Rattle.replica.proofs.relay.tallies.follow.Goals as goal

-- as many as are ahead
as_many : (xs ys : List Tally) → length (map value_of xs) ≡ length (map value_of ys) → length xs ≡ length ys
as_many xs ys same = sym (length-map xs value_of) ∙ same ∙ length-map ys value_of

-- the value of a tally that is read
read : (xs : List Tally) (i : ℕ) (found : Tally) → i < length xs → found ≡ get_or xs i found → value_of found ≡ get_or (map value_of xs) i no_figures
read xs i found lt is = ap value_of is ∙ sym (get_or-map value_of xs i found no_figures lt)

-- up to the next stale one they are those ahead
stay : (stale : List Bool) (a b : List TallyValue) (from next : ℕ) → DifferAt stale a b → IsNextMarked stale from next →
    (k : ℕ) → from ≤ k → k < next → get_or a k no_figures ≡ get_or b k no_figures
stay stale a b from next differ is k low lt = differ.same k (omega (arith, is.high, differ.marked)) (is.blank k low lt)

pub loop-i-preserved : goal.loop-i-preserved
loop-i-preserved c =
    let i = c.loop-i.i in
    let a = map value_of c.args.tallies.now in
    let b = map value_of c.args.ahead.now in
    let next = c.next_marked-i-in-loop-i.result in
    let is = c.next_marked-i-in-loop-i.ensures in
    let new = c.index-ahead-i.result in
    let written = map-set value_of c.loop-i.tallies i new in
    let count : length c.args.tallies.now ≡ length c.args.ahead.now = as_many c.args.tallies.now c.args.ahead.now c.requires.count in
    let lt : i < length c.args.tallies.now = omega (arith, c.loop-i-test.true, c.requires.marked, length-map c.args.tallies.now value_of) in
    let long : i < length (map value_of c.loop-i.tallies) = omega (arith, lt, c.loop-i.invariant.long, length-map c.loop-i.tallies value_of) in
    let inside : i < length c.args.ahead.now = omega (arith, lt, count) in
    let value : value_of new ≡ get_or b i no_figures = read c.args.ahead.now i new inside c.index-ahead-i.is in
    record {
      in_range = is.high;
      long = length-set c.loop-i.tallies i new ∙ c.loop-i.invariant.long;
      done = rw written (passed (λ k. get_or b k no_figures) (λ k. get_or a k no_figures) _ no_figures (i + 1) next
          (step_done (λ k. get_or b k no_figures) (map value_of c.loop-i.tallies) no_figures (value_of new) i long value c.loop-i.invariant.done)
          (step_rest (λ k. get_or a k no_figures) (map value_of c.loop-i.tallies) no_figures (value_of new) i c.loop-i.invariant.rest)
          (stay c.args.stale.now a b (i + 1) next c.requires is));
      rest = λ k low. rw written (step_rest (λ j. get_or a j no_figures) (map value_of c.loop-i.tallies) no_figures (value_of new) i c.loop-i.invariant.rest k (omega (arith, is.low, low)));
    }

pub returns : goal.returns
returns c =
    let a = map value_of c.loop-i.tallies in
    let b = map value_of c.args.ahead.now in
    let count : length a ≡ length b = length-map c.loop-i.tallies value_of ∙ c.loop-i.invariant.long ∙ as_many c.args.tallies.now c.args.ahead.now c.requires.count ∙ sym (length-map c.args.ahead.now value_of) in
    same_lists a b count (λ k d lt. get_or_default a k d no_figures lt
    ∙ c.loop-i.invariant.done k (omega (arith, c.loop-i-test.false, c.requires.marked, c.requires.count, count))
    ∙ sym (get_or_default b k d no_figures (omega (arith, count))))
