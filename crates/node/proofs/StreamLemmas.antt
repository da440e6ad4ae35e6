-- What is read of a line and of a body, and calls that failed.
use Rattle.std.proofs.Common.{◌≡◌, ◌≢◌, ◌+◌, ◌-◌, ◌≤◌, ℕ, List, [], ◌∷◌, ◌++◌, length, take, ap, arith, length-append}
use Rattle.std.specs.Prelude.{Option, Result, Ok, Err}
use Rattle.std.specs.Io.KnownBytes.{Consumes}
use Rattle.std.proofs.KnownBytes.{Consumes-nil, Consumes-trans}
use Rattle.std.proofs.lemmas.List.{length-take}
use Rattle.std.proofs.lemmas.List.Elements.{All-push}
use Rattle.ball_model.specs.Job.{Job}
use Rattle.ball_model.specs.Join.{Holding}
use Rattle.ball_model.specs.State.{State}
use Rattle.ball_model.specs.Streams.{EndsAfter}
use Rattle.world.specs.Tell.{TellsOf}
use Rattle.world.specs.declared.tell.TellError.{TellError}
use Rattle.world.specs.declared.tell.TellError.TheVariants as untold
use Rattle.job.specs.Stream.{FailsAs}
use Rattle.node.specs.Stream.{CutsBody, HasNoEnd, ReadsBody, ReadsInLine}

-- all of so many bytes but the last n were read
pub record ReadsAllBut (size n : ℕ) (old new : Option (List ℕ)) : Type 0 where
  pub bytes : List ℕ
  pub consumed : Consumes old new bytes
  pub count : length bytes + n ≡ size

pub nothing_read : (size : ℕ) (a : Option (List ℕ)) → ReadsAllBut size size a a
nothing_read size a = record { bytes = []; consumed = Consumes-nil a; count = omega arith }

pub piece_read : (size left n : ℕ) (a b c : Option (List ℕ)) (piece : List ℕ) → ReadsAllBut size left a b → Consumes b c piece → length piece ≡ n → n ≤ left → ReadsAllBut size (left - n) a c
piece_read size left n a b c piece r more long within = record {
  bytes = r.bytes ++ piece;
  consumed = Consumes-trans a b c r.bytes piece r.consumed more;
  count = omega (arith, length-append r.bytes piece, r.count, long, within);
}

pub all_read : (size left : ℕ) (a b : Option (List ℕ)) → ReadsAllBut size left a b → left ≡ 0 → ReadsBody size a b
all_read size left a b r none = record { bytes = r.bytes; consumed = r.consumed; long = omega (arith, r.count, none) }

-- the input ended within the next piece
pub piece_cut : (size left n : ℕ) (a b c : Option (List ℕ)) (buf : List ℕ) → ReadsAllBut size left a b → length buf ≤ left → EndsAfter n b c buf → CutsBody size a c
piece_cut size left n a b c buf r within ends = record {
  bytes = r.bytes ++ take n buf;
  consumed = Consumes-trans a b c r.bytes (take n buf) r.consumed ends.consumed;
  fewer = let few = ends.fewer in omega (arith, length-append r.bytes (take n buf), length-take n buf, r.count);
  end = ends.last;
}

-- what is left was read, or was cut
pub rest_read : (size left : ℕ) (a b c : Option (List ℕ)) → ReadsAllBut size left a b → ReadsBody left b c → ReadsBody size a c
rest_read size left a b c r rest = record {
  bytes = r.bytes ++ rest.bytes;
  consumed = Consumes-trans a b c r.bytes rest.bytes r.consumed rest.consumed;
  long = omega (arith, length-append r.bytes rest.bytes, r.count, rest.long);
}

pub rest_cut : (size left : ℕ) (a b c : Option (List ℕ)) → ReadsAllBut size left a b → CutsBody left b c → CutsBody size a c
rest_cut size left a b c r cut = record {
  bytes = r.bytes ++ cut.bytes;
  consumed = Consumes-trans a b c r.bytes cut.bytes r.consumed cut.consumed;
  fewer = omega (arith, length-append r.bytes cut.bytes, r.count, cut.fewer);
  end = cut.end;
}

-- ---- a line
pub some_bytes : (line : List ℕ) (byte : ℕ) (more : List ℕ) → line ++ byte ∷ more ≡ [] → ⊥
some_bytes [] byte more is = absurd (cc)
some_bytes (c ∷ line) byte more is = absurd (cc)

-- the first byte of a line was read
pub byte_read : (a b c : Option (List ℕ)) (line : List ℕ) (byte : ℕ) → line ≡ [] → Consumes a b line → Consumes b c (byte ∷ []) → HasNoEnd line → byte ≢ 10 → ReadsInLine a c
byte_read a b c line byte empty some next none other = record {
  bytes = line ++ byte ∷ [];
  some = some_bytes line byte [];
  first = omega (arith, length-append line (byte ∷ []), ap length empty);
  consumed = Consumes-trans a b c line (byte ∷ []) some next;
  one_line = All-push (λ (x : ℕ). x ≢ 10) line byte none other;
}

-- ---- a text of a replica
pub fails_of : {W : Type 0} (contents : W → Option (List ℕ)) (failed : W → ℕ) (v : State) (f : Job → Holding → List ℕ) (old new : W) (r : Result (Unit {0}) TellError) →
    TellsOf contents failed v f old new r → FailsAs failed old new r (Err untold.Write)
fails_of contents failed v f old new (Ok u) told = record { some = λ is. absurd (cc); none = λ other. told.counted }
fails_of contents failed v f old new (Err e) told = record {
  some = λ is. told.failed_one (cc);
  none = λ other. told.counted (λ same. other (ap Err same));
}
