-- What a call did to its reader and to its writer, as these tell it.
use Rattle.std.specs.Prelude.{◌≡◌, ℕ, [], List, Option, ◌≢◌, ◌⊎◌}
use Rattle.std.specs.Io.KnownBytes.{Appends, Keeps}
use Rattle.ball_model.specs.Streams.{RisesByOne}

-- something before a call and after it
pub record Change (A : Type 0) : Type 0 where
  pub old : A
  pub new : A

-- of a reader: the bytes that are to be read, how many calls have failed, and how many are sure to go well
pub record Reads : Type 0 where
  pub bytes : Change (Option (List ℕ))
  pub failed : Change ℕ
  pub sure : Option ℕ

-- of a writer: its contents, and how many calls have failed
pub record Writes : Type 0 where
  pub contents : Change (Option (List ℕ))
  pub failed : Change ℕ

abbrev pub reads_of : {R : Type 0} → (R → Option (List ℕ)) → (R → ℕ) → (R → Option ℕ) →
    R → R → Reads
reads_of bytes failed sure old new = record {
  bytes = record { old = bytes old; new = bytes new };
  failed = record { old = failed old; new = failed new };
  sure = sure old;
}

abbrev pub writes_of : {W : Type 0} → (W → Option (List ℕ)) → (W → ℕ) → W → W → Writes
writes_of contents failed old new = record {
  contents = record { old = contents old; new = contents new };
  failed = record { old = failed old; new = failed new };
}

-- nothing was read, and no call failed
pub record Unread (r : Reads) : Type 0 where
  pub bytes : r.bytes.new ≡ r.bytes.old
  pub failed : r.failed.new ≡ r.failed.old

-- nothing was written, and no call failed
pub record Unwritten (w : Writes) : Type 0 where
  pub contents : w.contents.new ≡ w.contents.old
  pub failed : w.failed.new ≡ w.failed.old

-- nothing was read or written, and no call failed
pub record Untouched (r : Reads) (w : Writes) : Type 0 where
  pub unread : r.bytes.new ≡ r.bytes.old
  pub reads : r.failed.new ≡ r.failed.old
  pub unwritten : w.contents.new ≡ w.contents.old
  pub writes : w.failed.new ≡ w.failed.old

-- the writer has what it had, or a call of it failed
abbrev pub KeptOrFailed : Writes → Type 0
KeptOrFailed w = Keeps w.contents.old w.contents.new ⊎ RisesByOne w.failed.old w.failed.new

-- bytes, and not none, are appended to what a writer has
pub record AppendsSome (old new : Option (List ℕ)) : Type 0 where
  pub bytes : List ℕ
  pub some : bytes ≢ []
  pub appended : Appends old new bytes
