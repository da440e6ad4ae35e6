-- Commands as they are read.
use Rattle.std.proofs.Common.{◌≡◌, ◌≢◌, ℕ, List, [], ◌∷◌, refl, sym}
use Rattle.std.specs.Prelude.{None, Some}
use Rattle.ball_model.specs.Input.{fields}
use Rattle.world.specs.Script.{cut_of}
use Rattle.world.proofs.ScriptLemmas.{fields-cut, fields-some, fields-uncut}
use Rattle.node.specs.NodeText.{command_in, lone_command, sized_command}

-- a line of one word
pub command_lone : (line : List ℕ) → None ≡ cut_of 32 line → lone_command line ≡ command_in (fields 32 line)
unfolding command_in
command_lone line is = rw (fields-uncut 32 line (sym is)) refl

-- a line of two
pub command_sized : (line a b : List ℕ) → Some (a, b) ≡ cut_of 32 line → None ≡ cut_of 32 b → sized_command a b ≡ command_in (fields 32 line)
unfolding command_in
command_sized line a b is last = rw (fields-cut 32 line a b (sym is), fields-uncut 32 b (sym last)) refl

-- a line of more
pub command_many : (line a b x y : List ℕ) → Some (a, b) ≡ cut_of 32 line → Some (x, y) ≡ cut_of 32 b → None ≡ command_in (fields 32 line)
unfolding command_in
command_many line a b x y is more = rw (fields-cut 32 line a b (sym is), fields-cut 32 b x y (sym more)) (none (fields 32 y) (fields-some 32 y))
  where
    none : (rest : List (List ℕ)) → rest ≢ [] → None ≡ command_in (a ∷ x ∷ rest)
    none [] some = absurd (some refl)
    none (z ∷ rest) some = refl
