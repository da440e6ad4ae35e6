-- What a batch has in memory: its vertices, and registers of its own or in a table that others share.
use Rattle.std.specs.Prelude.{ℕ, ◌+◌, ◌*◌, ◌^◌, ◌≤◌, List, length}
use Rattle.std.specs.List.{All}
use Rattle.std.specs.Arc.{arc_value}
use Rattle.ball_model.specs.declared.names.BatchName.{BatchName}
use Rattle.ball_model.specs.PlanValue.{PlanValue}
use Rattle.ball_model.specs.Batches.{BatchValue}
use Rattle.batches.specs.declared.registers.Registers.{Registers}
use Rattle.batches.specs.declared.registers.Registers.TheVariants.{Own, Shared}
use Rattle.batches.specs.Kept.{flat_at, batch_of, IsKept}

-- the registers, m to a row, one row after another
abbrev pub flat_of : ℕ → Registers → List ℕ
flat_of m (Own own) = own.items
flat_of m (Shared table places) = flat_at m (arc_value table).items places.items

-- each row of m registers lies in its table
abbrev pub LieIn : ℕ → Registers → Type 0
LieIn m (Own own) = Unit {0}
LieIn m (Shared table places) =
    All (λ p. (p + 1) * m ≤ length (arc_value table).items) places.items

-- the batch of these fields
abbrev pub held_of : PlanValue → BatchName → ℕ → List ℕ → Registers → BatchValue
held_of plan name changed ids registers =
    batch_of plan name changed ids (flat_of (2 ^ plan.log2m) registers)

-- a batch is held so: its registers are kept, and lie in their table
pub record IsHeld (b : BatchValue) (ids : List ℕ) (registers : Registers) : Type 0 where
  pub kept : IsKept b ids (flat_of (2 ^ b.plan.log2m) registers)
  pub lie : LieIn (2 ^ b.plan.log2m) registers
