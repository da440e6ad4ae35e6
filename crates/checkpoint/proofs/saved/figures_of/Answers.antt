use Rattle.std.proofs.Common.{◌≡◌, ◌++◌, ◌∷◌, ℕ, List, ◌∙◌, length, get_or, refl, ap, sym, subst, arith, inl, inr}
use Rattle.std.specs.Int.{w64, w128, to_be_bytes}
use Rattle.std.proofs.lemmas.Result.{err_from_is_err_and}
use Rattle.ball_model.specs.Checkpoint.{entry_bytes}
use Rattle.ball_model.specs.Figures.{TallyValue}
use Rattle.checkpoint.proofs.RightLemmas.{entry_front, entry_right, never}
use Rattle.checkpoint.proofs.SavedLemmas.{entry_spelt}
use Rattle.checkpoint.proofs.saved.figures_of.Goals as goal

pub returns-in_err-entry-clause-right : goal.returns-in_err-entry-clause-right
returns-in_err-entry-clause-right c = λ mark tally more small is. absurd (never (c.in_err-entry.ensures.only (omega (arith, ap (λ (l : List ℕ). length l) is))))

pub returns-in_err-mark-clause-right : goal.returns-in_err-mark-clause-right
returns-in_err-mark-clause-right c = λ mark tally more small is.
    let bytes = c.args.bytes.now in
    let entry = c.in_ok-entry.entry.now in
    let rest = c.in_ok-entry.rest.now in
    let p = err_from_is_err_and c.from_residual-in_err-mark.result c.from_residual-in_err-mark.ensures.1 in
    rw (p.1, p.2) (c.in_err-mark.ensures.right mark (entry_front bytes entry rest mark tally more c.in_ok-entry.ensures.split c.in_ok-entry.ensures.length is))

pub returns-in-Some-clause-spelled : goal.returns-in-Some-clause-spelled
returns-in-Some-clause-spelled c =
    let bytes = c.args.bytes.now in
    let entry = c.in_ok-entry.entry.now in
    let rest = c.in_ok-entry.rest.now in
    let here = entry_spelt bytes entry rest c.u64_at-last.result c.u64_at-harm.result c.u128_at-dist.result c.in_ok-entry.ensures.split c.in_ok-entry.ensures.length (λ i. omega (arith, c.type_inv.bytes i)) c.u64_at-last.ensures c.u64_at-harm.ensures c.u128_at-dist.ensures in
    let behind : List ℕ = to_be_bytes w64 c.u64_at-last.result ++ (to_be_bytes w64 c.u64_at-harm.result ++ (to_be_bytes w128 c.u128_at-dist.result ++ rest)) in
    subst (λ (t : TallyValue). bytes ≡ entry_bytes c.in_ok-mark.mark t rest) (sym c.in-Some.ensures.value) (here ∙ ap (λ (x : ℕ). x ∷ behind) c.in_ok-mark.ensures.spelled)

pub returns-in-Some-clause-right : goal.returns-in-Some-clause-right
returns-in-Some-clause-right c = λ mark tally more small is.
    let bytes = c.args.bytes.now in
    let entry = c.in_ok-entry.entry.now in
    let rest = c.in_ok-entry.rest.now in
    let here = entry_spelt bytes entry rest c.u64_at-last.result c.u64_at-harm.result c.u128_at-dist.result c.in_ok-entry.ensures.split c.in_ok-entry.ensures.length (λ i. omega (arith, c.type_inv.bytes i)) c.u64_at-last.ensures c.u64_at-harm.ensures c.u128_at-dist.ensures in
    let same = entry_right bytes rest (get_or entry 0 0) c.u64_at-last.result c.u64_at-harm.result c.u128_at-dist.result mark tally more small (omega arith) (omega arith) (omega arith) here is in
    (c.in_ok-mark.ensures.right mark (entry_front bytes entry rest mark tally more c.in_ok-entry.ensures.split c.in_ok-entry.ensures.length is), c.in-Some.ensures.value ∙ (λ i. record { last = same.0 i; harm = same.1 i; dist = same.2 i }), same.3)

pub returns-in-None-clause-right : goal.returns-in-None-clause-right
returns-in-None-clause-right c = λ mark tally more small is.
    let bytes = c.args.bytes.now in
    let entry = c.in_ok-entry.entry.now in
    let rest = c.in_ok-entry.rest.now in
    let here = entry_spelt bytes entry rest c.u64_at-last.result c.u64_at-harm.result c.u128_at-dist.result c.in_ok-entry.ensures.split c.in_ok-entry.ensures.length (λ i. omega (arith, c.type_inv.bytes i)) c.u64_at-last.ensures c.u64_at-harm.ensures c.u128_at-dist.ensures in
    let same = entry_right bytes rest (get_or entry 0 0) c.u64_at-last.result c.u64_at-harm.result c.u128_at-dist.result mark tally more small (omega arith) (omega arith) (omega arith) here is in
    elim (c.in-None.ensures.none.0 refl) [
      | inl above ↦ absurd (omega (arith, above, same.0, same.1, small.figures.harm))
      | inr above ↦ absurd (omega (arith, above, same.0, same.2, small.figures.dist))
    ]
