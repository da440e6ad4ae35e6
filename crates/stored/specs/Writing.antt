-- What is written, and digested as it is written.
use Rattle.std.specs.Prelude.{◌≡◌, ◌≢◌, ◌-◌, ◌≤◌, ℕ, List, Option, length}
use Rattle.std.specs.Io.KnownBytes.{Appends}
use Rattle.stored.specs.declared.error.StoreError.{StoreError}
use Rattle.stored.specs.declared.error.StoreError.TheVariants as errors
use Rattle.ball_model.specs.Streams.{AfterAtMost, AreSure, PutsFront, RisesByOne}

-- a writer whose bytes, failed calls and sure calls are known took the bytes
pub record Writes {W : Type 0} (contents : W → Option (List ℕ)) (failed : W → ℕ)
    (sure : W → Option ℕ) (room : W → ℕ) (old new : W) (bytes : List ℕ) : Type 0 where
  pub appended : Appends (contents old) (contents new) bytes
  pub counted : failed new ≡ failed old
  pub calls : AfterAtMost (length bytes) (sure old) (sure new)
  pub taken : room new ≡ room old - length bytes

-- it failed before all of them were written: a beginning is, and a call failed that was not sure
pub record StopsWriting {W : Type 0} (contents : W → Option (List ℕ)) (failed : W → ℕ)
    (sure : W → Option ℕ) (room : W → ℕ) (old new : W) (bytes : List ℕ) : Type 0 where
  pub front : PutsFront (contents old) (contents new) bytes
  pub rises : RisesByOne (failed old) (failed new)
  pub unsure : AreSure (sure old) (length bytes) → length bytes ≤ room old → ⊥

-- what is written stopped before its end: a beginning of the bytes is written, and a call failed that was not sure, or
-- memory was refused and no call failed
pub record Halts {W : Type 0} (contents : W → Option (List ℕ)) (failed : W → ℕ)
    (sure : W → Option ℕ) (room : W → ℕ) (old new : W) (bytes : List ℕ) (e : StoreError)
    : Type 0 where
  pub front : PutsFront (contents old) (contents new) bytes
  pub rises : e ≡ errors.Write → RisesByOne (failed old) (failed new)
  pub unsure : AreSure (sure old) (length bytes) → length bytes ≤ room old →
      e ≢ errors.Write
  pub counted : e ≡ errors.Memory → failed new ≡ failed old
  pub kind : e ≢ errors.Labels
