-- One superstep more, over plain data.
use Rattle.std.proofs.Common.{◌≡◌, ℕ, ◌+◌, ◌-◌, ◌<◌, ◌≤◌, ◌==◌, Bool, false, not, ◌&&◌, List, get_or, replicate, refl, ap, arith, ◌∙◌, subst, is_some, IfSome}
use Rattle.replica.proofs.Names.{Option, range_with_len, find, eq-eqb, mixing_of, Job, BatchValue, true_batch, missing_of, State, StandsFor, early_at, holds_in, rows_of, end_of}
use Rattle.replica.specs.Change.{Advances}
use Rattle.replica.specs.Index.{targets_of}
use Rattle.replica.proofs.LevelLemmas.Level.{Ready, next_rows_are, differing_is, size_is}
use Rattle.replica.proofs.LevelLemmas.Figure.{next_tallies_are, next_sums_are}
use Rattle.replica.proofs.HearingLemmas.Hear.{none_heard, if_some_as}

-- ---- what is held

-- of the superstep: what is heard
pub holds_now : (t : ℕ) (heard : List Bool) (early : List (List (Option BatchValue))) (q : ℕ) → holds_in t heard early t q ≡ get_or heard q false
holds_now t heard early q = rw (eq-eqb t t refl) refl

-- of an earlier one: nothing
pub holds_before : (t : ℕ) (heard : List Bool) (early : List (List (Option BatchValue))) (s q : ℕ) → s < t → holds_in t heard early s q ≡ false
holds_before t heard early s q lt = grind arith

-- of a later one: what is kept
pub holds_later : (t : ℕ) (heard : List Bool) (early : List (List (Option BatchValue))) (s q : ℕ) → t < s → holds_in t heard early s q ≡ is_some (early_at early (s - (t + 1)) q)
holds_later t heard early s q lt = grind arith

-- what is missing from the level is what is not heard
pub missing_is : (parts p t : ℕ) (heard : List Bool) (early : List (List (Option BatchValue))) →
    find (λ q. not (q == p) && not (get_or heard q false)) (range_with_len 0 parts) ≡ missing_of parts p (record { superstep = t; holds = λ s k. holds_in t heard early s k })
unfolding missing_of
missing_is parts p t heard early = grind arith

-- what is kept, seen from another place
pub same_early : (early : List (List (Option BatchValue))) (i k q : ℕ) → i ≡ k → early_at early i q ≡ early_at early k q
same_early early i k q e = ap (λ n. early_at early n q) e

-- ---- one superstep more

-- what is true of a place is true of the same superstep at another
pub true_at : (j : Job) (p s r q : ℕ) (o : Option BatchValue) → s ≡ r → IfSome o (λ b. b ≡ true_batch j (record { superstep = s; source = q; target = p })) → IfSome o (λ b. b ≡ true_batch j (record { superstep = r; source = q; target = p }))
true_at j p s r q o e h = subst (λ n. IfSome o (λ b. b ≡ true_batch j (record { superstep = n; source = q; target = p }))) e h

-- a replica that is ready and advances stands for the next superstep
pub advance_stands : (j : Job) (p t : ℕ) (v w : State) → Ready j p t v → Advances v w → t + 1 ≤ end_of (mixing_of j.plan) j.graph j.plan.limit → StandsFor j p (t + 1) w
advance_stands j p t v w r a time =
    let h = r.stands in
    let rows : w.rows ≡ rows_of j p (t + 1) = a.gathers j p t h ∙ next_rows_are j p t v r in
    let zero_on : t + 1 + 0 ≡ t + 1 = omega arith in
    let hearing = a.hears.stands j p (t + 1) h.job (ap targets_of h.part)
    (λ q. true_at j p (t + 1 + 0) (t + 1) q (early_at v.early 0 q) zero_on (h.early.true_of 0 q))
    (none_heard j p (t + 1) 64 (replicate 64 false) false w.rows h.job refl refl rows) in
    grind (arith, differing_is, size_is, next_tallies_are, next_sums_are, if_some_as, true_at)
