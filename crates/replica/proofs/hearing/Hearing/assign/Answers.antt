use Rattle.std.proofs.Common.{◌≡◌, arith, Bool, List, length, ap, sym, ◌∙◌, subst}
use Rattle.replica.proofs.Names.{with_items, with_items_is, Table}
use Rattle.replica.specs.Hearing.{HearingValue, accumulators_of}
use Rattle.replica.specs.Spread.{AreTouched}
use Rattle.replica.proofs.HearingLemmas.Hearing.{accumulators_are, marked_from}
use Rattle.replica.proofs.hearing.Hearing.assign.Goals as goal
use Rattle.replica.proofs.hearing.Hearing.assign.Goals.{After-accumulators, After-deref_mut, After-mark_differences}

-- as many as before
size : (c : After-accumulators) → length c.accumulators.result.now.rows ≡ length c.args.rows.now.rows
size c = grind (arith, accumulators_are, c.accumulators.ensures.rows, c.requires.kept)

-- a mark for each row
mark_for_each : (c : After-deref_mut) → length c.deref_mut.result.now ≡ length c.args.rows.now.rows
mark_for_each c = ap (length {A = Bool}) c.deref_mut.ensures.value ∙ c.self.invariant ∙ ap (λ (a : HearingValue). length a.accumulated.rows) c.self.view_is ∙ sym c.requires.count

pub copy_from-requires-clause-count : goal.copy_from-requires-clause-count
copy_from-requires-clause-count c = ap (λ (a : HearingValue). length a.accumulated.rows) c.self.view_is ∙ sym c.requires.count ∙ sym (size (goal.at.copy_from-requires-clause-count c).After-accumulators)

pub mark_differences-requires : goal.mark_differences-requires
mark_differences-requires c =
    let at = goal.at.mark_differences-requires c in
    let marks = sym (mark_for_each at.After-deref_mut) in
    record { old = marks; new = ap (λ (t : Table). length t.rows) c.copy_from.ensures ∙ size at.After-accumulators ∙ marks }

-- the marks
marks : (c : After-mark_differences) → (with_items c.self.inside.touched c.mark_differences.new.marks).items ≡ c.mark_differences.new.marks
marks c = with_items_is c.self.inside.touched c.mark_differences.new.marks (c.mark_differences.auto.marks ∙ c.deref_mut.ensures.len)

pub invariant_of-self : goal.invariant_of-self
invariant_of-self c =
    let at = goal.at.invariant_of-self c in
    ap (length {A = Bool}) (marks at.After-mark_differences) ∙ c.mark_differences.auto.marks ∙ mark_for_each at.After-deref_mut ∙ sym (size at.After-accumulators) ∙ sym (ap (λ (t : Table). length t.rows) c.copy_from.ensures)

pub returns : goal.returns
returns c =
    let at = goal.at.returns c in
    let rows = c.args.rows.now.rows in
    let new = c.copy_from.new.self in
    let taken : new.rows ≡ accumulators_of rows c.args.other.now.accumulated.rows = ap (λ (t : Table). t.rows) c.copy_from.ensures ∙ c.accumulators.ensures.rows in
    record {
      heard = ap (λ (a : HearingValue). a.heard) c.other.view_is;
      change = ap (λ (a : HearingValue). a.change) c.other.view_is;
      width = ap (λ (t : Table). t.width) c.copy_from.ensures ∙ c.accumulators.ensures.width;
      accumulated = taken;
      kept = subst (λ (l : List Bool). AreTouched rows new.rows l) (sym (marks at.After-mark_differences)) (marked_from rows c.args.other.now new.rows c.mark_differences.new.marks (length c.deref_mut.result.now) c.requires.kept taken (mark_for_each at.After-deref_mut) c.mark_differences.ensures);
    }
