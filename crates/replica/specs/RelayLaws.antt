-- What rows and tallies have to keep to be handed out.
use Rattle.std.proofs.Common.{◌≡◌, ◌∙◌, Bool, false, List, length, slice_index_or, refl, arith}
use Rattle.std.specs.Prelude.{◌||◌}
use Rattle.ball_model.specs.Figures.{TallyValue}
use Rattle.ball_model.specs.Table.{Table}
use Rattle.registers.specs.Joined.{AreSameShape}
use Rattle.registers.specs.Differ.{DifferWhere, room_for}
use Rattle.replica.specs.Relay.{AreAsMany, AreEither, DifferAt}

-- one of two is not set, and so neither is
neither : (a b both : Bool) → both ≡ (a || b) → both ≡ false → (a ≡ false) × (b ≡ false)
neither a b both is unset = grind arith

pub rows_marked : (ms : List Bool) (a b : Table) → DifferWhere ms a b → length ms ≡ length a.rows
rows_marked ms a b d = d.marked

pub rows_alike : (ms : List Bool) (a b : Table) → DifferWhere ms a b → AreSameShape a b
rows_alike ms a b d = record { width = d.width; count = d.count }

pub rows_room : (a b : Table) → AreSameShape a b → room_for a ≡ room_for b
rows_room a b s = rw (s.width, s.count) refl

pub rows_both : (stale ms both : List Bool) (a b c : Table) → DifferWhere stale a b → DifferWhere ms b c → AreEither stale ms both → DifferWhere both a c
rows_both stale ms both a b c first then either = record {
  width = first.width ∙ then.width;
  count = first.count ∙ then.count;
  marked = either.long ∙ first.marked;
  same = λ i lt unset.
      let each = neither (slice_index_or stale i false) (slice_index_or ms i false) (slice_index_or both i false) (either.set i) unset in
      first.same i lt each.0 ∙ then.same i (omega (arith, lt, first.count)) each.1;
}

pub tallies_marked : (ms : List Bool) (a b : List TallyValue) → DifferAt ms a b → length ms ≡ length a
tallies_marked ms a b d = d.marked

pub tallies_alike : (ms : List Bool) (a b : List TallyValue) → DifferAt ms a b → AreAsMany a b
tallies_alike ms a b d = d.count

pub tallies_room : (a b : List TallyValue) → AreAsMany a b → length a ≡ length b
tallies_room a b s = s

pub tallies_both : (stale ms both : List Bool) (a b c : List TallyValue) → DifferAt stale a b → DifferAt ms b c → AreEither stale ms both → DifferAt both a c
tallies_both stale ms both a b c first then either = record {
  count = first.count ∙ then.count;
  marked = either.long ∙ first.marked;
  same = λ i lt unset.
      let each = neither (slice_index_or stale i false) (slice_index_or ms i false) (slice_index_or both i false) (either.set i) unset in
      first.same i lt each.0 ∙ then.same i (omega (arith, lt, first.count)) each.1;
}
