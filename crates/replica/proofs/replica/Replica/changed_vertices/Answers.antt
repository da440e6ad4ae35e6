use Rattle.std.proofs.Common.{◌≡◌, ◌+◌, ◌++◌, ◌∷◌, [], ℕ, Bool, false, true, List, length, get_or, take, ap, sym, subst, ◌∙◌, arith}
use Rattle.replica.proofs.Names.{count_by, filter, take_all, State, length-filter, count_by-le-length, IsNextMarked}
use Rattle.replica.specs.Seen.{IsState, state_of}
use Rattle.replica.specs.Sent.{changed_first}
use Rattle.replica.proofs.HearingLemmas.Accumulator.{state_is}
use Rattle.replica.proofs.SeenLemmas.Read.{few}
use Rattle.replica.proofs.SentLemmas.Changed.{first_count, first_none, first_over, first_push}
use Rattle.replica.proofs.replica.Replica.changed_vertices.Goals as goal
use Rattle.replica.proofs.replica.Replica.changed_vertices.Goals.{After-marks-marks}

is : (c : After-marks-marks) → state_of c.s.inside ≡ c.args.self.now
is c = state_is c.s.view_is ∙ c.shown-s.ensures

state : (c : After-marks-marks) → IsState c.args.self.now
state c = subst (λ (u : State). IsState u) (is c) c.s.invariant.state

marks : (c : After-marks-marks) → c.marks-marks.result.now ≡ c.args.self.now.marks
marks c = c.marks-marks.ensures ∙ ap (λ (u : State). u.marks) (is c)

pub loop-i-init : goal.loop-i-init
loop-i-init c =
    let v = c.args.self.now in
    let i = c.next_marked-i.result in
    let next : IsNextMarked v.marks 0 i = subst (λ (l : List Bool). IsNextMarked l 0 i) (marks (goal.at.loop-i-init c).After-marks-marks) c.next_marked-i.ensures in
    record { in_range = next.high; changed = next.marked; list = first_over v 0 i c.in_ok-vertices.vertices.items next (c.in_ok-vertices.ensures.items ∙ sym (first_none v)) }

pub overflow_cast-i : goal.overflow_cast-i
overflow_cast-i c =
    let v = c.args.self.now in
    let s = state (goal.at.overflow_cast-i c).After-marks-marks in
    omega (arith, c.loop-i-test.true, ap (length {A = Bool}) (marks (goal.at.overflow_cast-i c).After-marks-marks), s.marks, few v s)

pub loop-i-preserved : goal.loop-i-preserved
loop-i-preserved c =
    let v = c.args.self.now in
    let i = c.loop-i.i in
    let after = c.next_marked-i-in-loop-i.result in
    let same = marks (goal.at.loop-i-preserved c).After-marks-marks in
    let next : IsNextMarked v.marks (i + 1) after = subst (λ (l : List Bool). IsNextMarked l (i + 1) after) same c.next_marked-i-in-loop-i.ensures in
    let on : get_or v.marks i false ≡ true = c.loop-i.invariant.changed (omega (arith, c.loop-i-test.true, ap (length {A = Bool}) same)) in
    record {
      in_range = next.high;
      changed = next.marked;
      list = first_over v (i + 1) after c.push.new.self.items next (c.in_ok-push.ensures.items ∙ ap (λ (l : List ℕ). l ++ i ∷ []) c.loop-i.invariant.list ∙ sym (first_push v i on));
    }

pub returns : goal.returns
returns c =
    let v = c.args.self.now in
    let s = state (goal.at.returns c).After-marks-marks in
    let all : c.loop-i.i ≡ length v.part.preds = omega (arith, c.loop-i-test.false, c.loop-i.invariant.in_range, ap (length {A = Bool}) (marks (goal.at.returns c).After-marks-marks), s.marks) in
    let list = c.loop-i.invariant.list ∙ ap (changed_first v) all in
    let n : ℕ = length v.part.preds in
    let whole : take n v.marks ≡ v.marks = take_all n v.marks (omega (arith, s.marks)) in
    let counted : length c.loop-i.vertices.items ≡ count_by (λ mark. mark) v.marks =
    ap (length {A = ℕ}) list ∙ first_count v n (omega (arith, s.marks)) ∙ ap (λ (l : List Bool). length (filter (λ mark. mark) l)) whole ∙ length-filter (λ mark. mark) v.marks in
    record {
      marks = s.marks;
      list = list;
      count = counted;
      few = omega (arith, counted, count_by-le-length (λ mark. mark) v.marks, s.marks, few v s);
    }
