use Rattle.std.proofs.Common.{◌≡◌, refl, rules}
use Rattle.replica.proofs.Names.{arc_value}
use Rattle.replica.specs.declared.stage.Stage.TheInside as stage
use Rattle.replica.proofs.StartLemmas.Made.{copied}
use Rattle.replica.proofs.stage.Stage.copied.Goals as goal

pub invariant_of-result : goal.invariant_of-result
invariant_of-result c =
    let part : arc_value c.in_ok-part.part ≡ arc_value c.self.inside.part = search rules in
    let copy : stage.Inside = record { part = c.in_ok-part.part; superstep = c.self.inside.superstep; tables = c.in_ok-tables.tables; hearing = c.in_ok-hearing.hearing; spare = c.in_ok-spare.spare; early = c.in_ok-early.early } in
    (copied c.self.inside copy c.self.invariant part refl c.in_ok-tables.ensures.copy (c.in_ok-hearing.ensures c.self.inside.tables.rows.rows c.self.invariant.kept) c.in_ok-early.ensures (rw (← c.rows.ensures) c.in_ok-spare.ensures)).limits
