-- What is written, and digested as it is written.
use Rattle.std.specs.Prelude.{◌≡◌, ◌-◌, ◌≤◌, ℕ, List, Option, length}
use Rattle.std.specs.Io.KnownBytes.{Appends}
use Rattle.ball_model.specs.Streams.{AfterAtMost, AreSure, PutsFront, RisesByOne}

-- a writer with these contents, failed calls, sure calls and room took the bytes
pub record Writes {W : Type 0} (contents : W → Option (List ℕ)) (failed : W → ℕ)
    (sure : W → Option ℕ) (room : W → ℕ) (old new : W) (bytes : List ℕ) : Type 0 where
  pub appended : Appends (contents old) (contents new) bytes
  pub counted : failed new ≡ failed old
  pub calls : AfterAtMost (length bytes) (sure old) (sure new)
  pub taken : room new ≡ room old - length bytes

-- it failed before all of them were written: a beginning is, and a call failed that was not sure
pub record StopsWriting {W : Type 0} (contents : W → Option (List ℕ)) (failed : W → ℕ)
    (sure : W → Option ℕ) (room : W → ℕ) (old new : W) (bytes : List ℕ) : Type 0 where
  pub front : PutsFront (contents old) (contents new) bytes
  pub rises : RisesByOne (failed old) (failed new)
  pub unsure : AreSure (sure old) (length bytes) → length bytes ≤ room old → ⊥
