-- Tallies as the definitions have them, at superstep 0 and one superstep later.
use Rattle.std.proofs.Common.{◌≡◌, ℕ, ◌+◌, ◌-◌, ◌*◌, ◌/◌, refl, ◌∙◌, sym}
use Rattle.ball_model.specs.Figures.{TallyValue, harmonic_of, distance_of, tally_of}
use Rattle.ball_model.proofs.TallyLemmas.{harmonic_more, distance_more}

-- a tally of three numbers
abbrev tally : ℕ → ℕ → ℕ → TallyValue
tally last harm dist = record { last = last; harm = harm; dist = dist }

-- tallies with the same numbers are the same
same_tally : (l h d l' h' d' : ℕ) → l ≡ l' → h ≡ h' → d ≡ d' → tally l h d ≡ tally l' h' d'
same_tally l h d l' h' d' last harm dist = rw (last, harm, dist) refl

-- the figures at superstep 0
pub tally_start : (e : ℕ → ℕ) (estimate : ℕ) → estimate ≡ e 0 → tally estimate 0 0 ≡ tally_of e 0
unfolding harmonic_of distance_of
tally_start e estimate is = rw is refl

-- the figures one superstep later
pub tally_more : (e : ℕ → ℕ) (before t estimate : ℕ) (old new : TallyValue) → t ≡ before + 1 → estimate ≡ e t → old ≡ tally_of e before →
    new.last ≡ estimate → new.harm ≡ old.harm + (estimate - old.last) / t → new.dist ≡ old.dist + t * (estimate - old.last) → new ≡ tally_of e t
tally_more e before t estimate old new next is was last harm dist =
    same_tally new.last new.harm new.dist (e t) (harmonic_of e t) (distance_of e t)
    (last ∙ is)
    (harm ∙ rw (is, was, next) (sym (harmonic_more e before)))
    (dist ∙ rw (is, was, next) (sym (distance_more e before)))
