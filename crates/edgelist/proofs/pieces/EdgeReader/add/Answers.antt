use Rattle.std.proofs.Common.{ℕ, List, [], ◌∷◌, ◌++◌, ap, append_assoc, inr, refl, subst, sym}
use Rattle.std.specs.Prelude.{IfErr}
use Rattle.ball_model.specs.Input.{IsPlain}
use Rattle.edgelist.specs.Reading.{Refuses, meaning_under}
use Rattle.edgelist.proofs.GivenLemmas.{given-more}
use Rattle.edgelist.proofs.pieces.EdgeReader.add.Goals as goal

pub returns-then-len-ge-ENOUGH-clause-refused : goal.returns-then-len-ge-ENOUGH-clause-refused
returns-then-len-ge-ENOUGH-clause-refused c = λ limits delimiter text more g plain.
    let joined = append_assoc text (c.args.byte ∷ []) more in
    subst (λ (t : List ℕ). IfErr c.read_held.result (Refuses (meaning_under limits delimiter t))) joined
    (c.read_held.ensures.refused limits delimiter (text ++ c.args.byte ∷ []) more
    (given-more limits delimiter text c.args.byte c.args.self.now _ refl refl refl refl refl c.in-Ok.ensures.items g)
    (inr (text, ap (λ (b : ℕ). text ++ b ∷ []) c.if-byte-eq10.true))
    (subst IsPlain (sym joined) plain))

pub returns-then-len-ge-ENOUGH-clause-ok : goal.returns-then-len-ge-ENOUGH-clause-ok
returns-then-len-ge-ENOUGH-clause-ok c = λ limits delimiter text g.
    c.read_held.ensures.ok limits delimiter (text ++ c.args.byte ∷ [])
    (given-more limits delimiter text c.args.byte c.args.self.now _ refl refl refl refl refl c.in-Ok.ensures.items g)
    (inr (text, ap (λ (b : ℕ). text ++ b ∷ []) c.if-byte-eq10.true))

pub returns-clause-ok : goal.returns-clause-ok
returns-clause-ok c = λ limits delimiter text g.
    given-more limits delimiter text c.args.byte c.args.self.now _ refl refl refl refl refl c.in-Ok.ensures.items g
