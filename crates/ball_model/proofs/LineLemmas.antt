-- Where lines end.
use Rattle.std.proofs.Common.{◌≡◌, ◌≢◌, ℕ, suc, false, List, [], ◌∷◌, ◌++◌, refl, arith}
use Rattle.std.proofs.lemmas.Bool.{ne_eqb}
use Rattle.ball_model.specs.Input.{has_mark, lines, records}
use Rattle.ball_model.specs.InputLaws.{IsBare}

-- a byte that ends no line stands at the front of the first
bare_byte : (c : ℕ) (rest line : List ℕ) (more : List (List ℕ)) → c ≢ 10 → c ≢ 13 → lines rest ≡ line ∷ more → lines (c ∷ rest) ≡ (c ∷ line) ∷ more
unfolding lines
bare_byte c rest line more no_lf no_cr e = rw (ne_eqb c 10 no_lf, ne_eqb c 13 no_cr, e) refl

bare_head : (c : ℕ) (line : List ℕ) → IsBare (c ∷ line) → (c ≢ 10) × (c ≢ 13)
bare_head c line bare = bare 0 0 (omega arith)

bare_tail : (c : ℕ) (line : List ℕ) → IsBare (c ∷ line) → IsBare line
bare_tail c line bare = λ k d below. bare (suc k) d (omega arith)

pub lf_ends : (line rest : List ℕ) → IsBare line → lines (line ++ 10 ∷ rest) ≡ line ∷ lines rest
unfolding lines
lf_ends [] rest bare = refl
lf_ends (c ∷ line) rest bare =
    let own = bare_head c line bare in
    bare_byte c (line ++ 10 ∷ rest) line (lines rest) own.0 own.1 (lf_ends line rest (bare_tail c line bare))

pub crlf_ends : (line rest : List ℕ) → IsBare line → lines (line ++ 13 ∷ 10 ∷ rest) ≡ line ∷ lines rest
unfolding lines
crlf_ends [] rest bare = refl
crlf_ends (c ∷ line) rest bare =
    let own = bare_head c line bare in
    bare_byte c (line ++ 13 ∷ 10 ∷ rest) line (lines rest) own.0 own.1 (crlf_ends line rest (bare_tail c line bare))

pub end_ends : (line : List ℕ) → IsBare line → lines line ≡ line ∷ []
unfolding lines
end_ends [] bare = refl
end_ends (c ∷ line) bare =
    let own = bare_head c line bare in
    bare_byte c line line [] own.0 own.1 (end_ends line (bare_tail c line bare))

pub mark_line : (d : ℕ) (text : List ℕ) → records d (239 ∷ 187 ∷ 191 ∷ text) ≡ records d (10 ∷ text)
unfolding lines
mark_line d [] = refl
mark_line d (x ∷ []) = refl
mark_line d (x ∷ y ∷ text) = refl

pub mark_none : (d : ℕ) (text : List ℕ) → has_mark text ≡ false → records d (239 ∷ 187 ∷ 191 ∷ text) ≡ records d text
mark_none d text none = rw none refl
