use Rattle.std.proofs.Common.{◌≡◌, true, refl, sym, subst, ◌∙◌}
use Rattle.replica.proofs.Names.{Table}
use Rattle.registers.specs.Differ.{DifferWhere}
use Rattle.replica.specs.Hearing.{KeepsAll, caught_up}
use Rattle.replica.specs.Spread.{AreTouched}
use Rattle.replica.proofs.LevelLemmas.Level.{touched_again}
use Rattle.replica.proofs.hearing.Hearing.change_places.Goals as goal

pub returns-clause-begins : goal.returns-clause-begins
returns-clause-begins c =
    let rows = c.change_places.new.self in
    let ahead = c.change_places.new.ahead in
    let begun = c.begin.new.self in
    let quiet = c.begin.ensures.quiet in
    let moved = c.change_places.ensures.ahead in
    let marks : c.begin.new.marks ≡ c.deref.result.now = c.begin.ensures.touched ∙ sym c.deref.ensures.value in
    let kept : KeepsAll rows.rows (caught_up true rows begun) = touched_again ahead.rows rows.rows begun.touched (subst (λ (t : Table). AreTouched ahead.rows t.rows begun.touched) quiet.accumulated quiet.kept) (sym moved.count) in
    let differ : DifferWhere c.begin.new.marks begun.accumulated rows = rw (marks, quiet.accumulated) moved in
    record {
      stale = record { differ = differ; kept = kept };
      quiet = record { heard = quiet.heard; change = quiet.change; accumulated = refl; kept = kept };
    }
