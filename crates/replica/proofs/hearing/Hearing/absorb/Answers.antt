use Rattle.std.proofs.Common.{◌≡◌, Bool, length, refl, ap, sym, ◌∙◌}
use Rattle.replica.proofs.Names.{Result, Ok, Err, IsOk, OnOk, with_items_is, Table}
use Rattle.registers.specs.Joined.{maximum_of_rows}
use Rattle.replica.specs.Hearing.{HearingValue}
use Rattle.replica.proofs.MergedLemmas.Merge.{length-maxima}
use Rattle.replica.proofs.hearing.Hearing.absorb.Goals as goal
use Rattle.replica.proofs.hearing.Hearing.absorb.Goals.{After-deref_mut}

ok_gives : {A E : Type 0} {P : Type 0} (r : Result A E) → IsOk r → OnOk r P → P
ok_gives (Ok a) given p = p
ok_gives (Err e) given p = absurd (cc)

-- as many as before
size : (c : After-deref_mut) → length c.join-raised.new.self.rows ≡ length c.self.inside.accumulated.rows
size c =
    let joined : c.join-raised.new.self ≡ maximum_of_rows c.self.inside.accumulated c.args.theirs.now = ok_gives c.join-raised.result (c.join-raised.ensures.settled refl) c.join-raised.ensures.joined in
    ap (λ (t : Table). length t.rows) joined
    ∙ length-maxima c.self.inside.accumulated.rows c.args.theirs.now.rows (ap (λ (a : HearingValue). length a.accumulated.rows) c.self.view_is ∙ c.requires.count)

-- a mark for each accumulator
mark_for_each : (c : After-deref_mut) → length c.deref_mut.result.now ≡ length c.self.inside.accumulated.rows
mark_for_each c = ap (length {A = Bool}) c.deref_mut.ensures.value ∙ c.self.invariant

pub mark_differences-requires : goal.mark_differences-requires
mark_differences-requires c =
    let at = (goal.at.mark_differences-requires c).After-deref_mut in
    record { old = c.requires.rows ∙ sym (ap (λ (a : HearingValue). length a.accumulated.rows) c.self.view_is) ∙ sym (mark_for_each at); new = size at ∙ sym (mark_for_each at) }

pub invariant_of-self : goal.invariant_of-self
invariant_of-self c =
    let at = (goal.at.invariant_of-self c).After-deref_mut in
    ap (length {A = Bool}) (with_items_is c.self.inside.touched c.mark_differences.new.marks (c.mark_differences.auto.marks ∙ c.deref_mut.ensures.len)) ∙ c.mark_differences.auto.marks ∙ mark_for_each at ∙ sym (size at)
