-- Rows of comma-separated values in memory.
use Rattle.std.specs.Prelude.{◌≡◌, ℕ, List, ◌++◌, false, true, Vec}
use Rattle.std.specs.Global.{Global}
use Rattle.csv.specs.Writing.{default_writer, fields_written, has_written, with_flexible, writer_pending, writer_setup, writer_under}
use Rattle.csv.specs.declared.writer.Writer.{Writer}

-- the text so far: what the buffer underneath holds, and what is still on its way there
abbrev pub text_in : Writer (Vec ℕ Global) → List ℕ
text_in w = (writer_under w).items ++ writer_pending w

-- the writer writes rows of any length in the form of a report, and is at the start of a row
pub record AtRow (w : Writer (Vec ℕ Global)) : Type 0 where
  pub setup : writer_setup w ≡ with_flexible default_writer true
  pub fields : fields_written w ≡ 0
  pub empty : has_written w ≡ false

-- the writer has written this text more
abbrev pub Adds : Writer (Vec ℕ Global) → Writer (Vec ℕ Global) → List ℕ → Type 0
Adds old new text = text_in new ≡ text_in old ++ text
