-- A replica whose run is over hears nothing any more.
use Rattle.std.proofs.Common.{◌≡◌, ℕ, true, false, List, get_or, refl, ap, sym, ◌∙◌, subst, inl, inr}
use Rattle.replica.proofs.Names.{Option, None, Some, Ok, BatchValue, IsBatch, close_unless, missing_of, take_of, State, content_of, holds_in}
use Rattle.ball_model.specs.declared.names.Verdict.{Verdict}
use Rattle.ball_model.specs.declared.names.Verdict.TheVariants as verdict
use Rattle.ball_model.specs.declared.names.Taken.TheVariants as taken
use Rattle.replica.specs.Index.{targets_of}
use Rattle.replica.specs.Level.{is_finished, is_over, level_verdict}
use Rattle.replica.specs.Seen.{HasIndex}
use Rattle.replica.proofs.ChangeLemmas.Advance.{holds_now, missing_is}
use Rattle.replica.proofs.LevelLemmas.Level.{level_there}
use Rattle.replica.proofs.KeptLemmas.Take.{fresh, take_of-new}

finished_says : (o : Option ℕ) (w : Verdict) (t : ℕ) → is_finished (close_unless o w t) ≡ true → (o ≡ None) × (w ≡ verdict.GoOn → ⊥)
finished_says None verdict.GoOn t e = absurd (cc)
finished_says None verdict.Stable t e = (refl, λ on. absurd (cc))
finished_says None verdict.Limit t e = (refl, λ on. absurd (cc))
finished_says (Some q) w t e = absurd (cc)

-- a batch of the superstep is not new to a replica whose run is over
pub over_later : (v : State) (b : BatchValue) → IsBatch b → take_of v.part.plan v.part.number (content_of v) b.plan b.name ≡ Ok taken.New → is_over v ≡ true → b.name.superstep ≡ v.superstep → ⊥
over_later v b ok new over now =
    let f = fresh v b ok new in
    let none : missing_of v.part.plan.parts v.part.number (content_of v) ≡ None = (finished_says (missing_of v.part.plan.parts v.part.number (content_of v)) (level_verdict v) v.superstep over).0 in
    let heard : get_or v.heard b.name.source false ≡ true = level_there v.part.plan.parts v.part.number v.superstep b.name.source v.heard v.early none f.below f.other in
    let held : holds_in v.superstep v.heard v.early v.superstep b.name.source ≡ true = holds_now v.superstep v.heard v.early b.name.source ∙ heard in
    let unknown : holds_in v.superstep v.heard v.early b.name.superstep b.name.source ≡ false = (take_of-new v.part.plan v.part.number (content_of v) b.plan b.name new).unknown in
    let same : holds_in v.superstep v.heard v.early v.superstep b.name.source ≡ false = subst (λ t. holds_in v.superstep v.heard v.early t b.name.source ≡ false) now unknown in
    cc

pub hearing_index : (v : State) (b : BatchValue) (targets : List (List ℕ)) → HasIndex v targets → IsBatch b → take_of v.part.plan v.part.number (content_of v) b.plan b.name ≡ Ok taken.New → b.name.superstep ≡ v.superstep → targets ≡ targets_of v.part
hearing_index v b targets has ok new now =
    elim has [
      | inl index ↦ index
      | inr gone ↦ absurd (over_later v b ok new gone.1 now)
    ]

-- what is kept of later supersteps does not matter
pub kept_over : (v : State) (early : List (List (Option BatchValue))) → is_over (record v { early = early }) ≡ is_over v
kept_over v early =
    ap (λ o. is_finished (close_unless o (level_verdict v) v.superstep))
    (sym (missing_is v.part.plan.parts v.part.number v.superstep v.heard early) ∙ missing_is v.part.plan.parts v.part.number v.superstep v.heard v.early)

pub kept_index : (v : State) (early : List (List (Option BatchValue))) (targets : List (List ℕ)) → HasIndex v targets → HasIndex (record v { early = early }) targets
kept_index v early targets has = elim has [ inl is ↦ inl is | inr gone ↦ inr (gone.0, kept_over v early ∙ gone.1) ]
