-- Rows of registers, as they lie in memory and in bytes.
use Rattle.std.specs.Prelude.{◌≡◌, ℕ, zero, suc, ◌+◌, ◌*◌, ◌^◌, List, [], ◌∷◌, ◌++◌, length, take, drop}
use Rattle.std.specs.Int.{Width, w32, byte_len, from_be_bytes}
use Rattle.ball_model.specs.declared.names.BatchName.{BatchName}
use Rattle.ball_model.specs.PlanValue.{PlanValue}
use Rattle.ball_model.specs.Batches.{BatchValue, IsBatch}

-- the rows of some vertices, whose registers lie one row after another, m to a row
unfoldable pub paired_rows : ℕ → List ℕ → List ℕ → List (ℕ × List ℕ)
paired_rows m [] registers = []
paired_rows m (id ∷ ids) registers = (id, take m registers) ∷ paired_rows m ids (drop m registers)

-- the rows of some vertices, whose registers are those at some places of a table, m to a place
unfoldable pub rows_at : ℕ → List ℕ → List ℕ → List ℕ → List (ℕ × List ℕ)
rows_at m table [] places = []
rows_at m table (id ∷ ids) [] = []
rows_at m table (id ∷ ids) (place ∷ places) =
    (id, take m (drop (place * m) table)) ∷ rows_at m table ids places

-- the registers at some places of a table, m to a place, one row after another
unfoldable pub flat_at : ℕ → List ℕ → List ℕ → List ℕ
flat_at m table [] = []
flat_at m table (place ∷ places) = take m (drop (place * m) table) ++ flat_at m table places

-- the batch of these fields, whose rows are kept as vertices and registers
abbrev pub batch_of : PlanValue → BatchName → ℕ → List ℕ → List ℕ → BatchValue
batch_of plan name changed ids registers =
    record {
      plan = plan;
      name = name;
      changed = changed;
      rows = paired_rows (2 ^ plan.log2m) ids registers;
    }

-- a batch is kept so: it is within the limits, and each row has its registers
pub record IsKept (b : BatchValue) (ids registers : List ℕ) : Type 0 where
  pub batch : IsBatch b
  pub room : length registers ≡ length ids * 2 ^ b.plan.log2m

-- the number of that width at a place, most significant byte first
abbrev pub field : Width → ℕ → List ℕ → ℕ
field w at bytes = from_be_bytes w (take (byte_len w) (drop at bytes))

-- the row of m registers at the front of bytes
abbrev pub row_at : ℕ → List ℕ → ℕ × List ℕ
row_at m bytes = (field w32 0 bytes, take m (drop 4 bytes))

-- the first n rows of m registers of bytes
unfoldable pub first_rows : ℕ → ℕ → List ℕ → List (ℕ × List ℕ)
first_rows m zero bytes = []
first_rows m (suc n) bytes = row_at m bytes ∷ first_rows m n (drop (4 + m) bytes)
