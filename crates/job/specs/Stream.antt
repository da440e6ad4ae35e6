-- Calls of a stream that failed.
use Rattle.std.specs.Prelude.{◌≡◌, ◌≢◌, ℕ}
use Rattle.ball_model.specs.Streams.{RisesByOne}

-- a call of the stream failed if the result is this fault, and none if it is another
pub record FailsAs {S A : Type 0} (failed : S → ℕ) (old new : S) (result fault : A) : Type 0 where
  pub some : result ≡ fault → RisesByOne (failed old) (failed new)
  pub none : result ≢ fault → failed new ≡ failed old
