use Rattle.std.proofs.Common.{◌≡◌, ◌+◌, ◌∙◌, ap, refl, sym, subst, inl, inr}
use Rattle.std.specs.Prelude.{Some}
use Rattle.std.proofs.lemmas.Result.{err_from_is_err_and}
use Rattle.ball_model.specs.Checkpoint.{checkpoint_bytes, without_names}
use Rattle.ball_model.specs.Job.{PartValue}
use Rattle.replica.specs.Saved.{IsRebuilt}
use Rattle.checkpoint.specs.declared.error.KeepError.TheVariants as errors
use Rattle.checkpoint.specs.Reading.{Ends, HasHead, RefusesAs, TakesWithin, allowed, most_checkpoint_bytes, sealed_form}
use Rattle.checkpoint.proofs.ReaderLemmas.{whatever_it_is}
use Rattle.checkpoint.proofs.LawLemmas.{text_is_one, versions_differ}
use Rattle.checkpoint.proofs.RefusalLemmas.{body_refuses, first_wants, memory_not_shape, second_wants, unnamed_keepable}
use Rattle.checkpoint.proofs.read.read_checkpoint.Goals as goal

pub returns-clause-spelling : goal.returns-clause-spelling
returns-clause-spelling g c = λ bytes known.
    let r = c.in_ok-rebuild.field-0 in
    let made = c.in_ok-rebuild.ensures in
    let fields = subst (λ (p : PartValue). IsRebuilt p c.in_ok-saved.saved r) (sym c.deref.ensures) made.fields in
    elim (c.in_ok-saved.ensures.spelled r fields made.keepable.state bytes known) [
      | inl second ↦ inl second
      | inr first ↦
          let unnamed = c.in_ok-saved.ensures.first r made.keepable (made.fields.part_is ∙ sym c.deref.ensures) (known ∙ ap Some first) in
          inr (first, made.same (without_names r) (unnamed_keepable r made.keepable).state (subst (λ (p : PartValue). IsRebuilt p c.in_ok-saved.saved (without_names r)) c.deref.ensures unnamed))
    ]

pub returns-in_err-rebuild-clause-refused : goal.returns-in_err-rebuild-clause-refused
returns-in_err-rebuild-clause-refused g c =
    let e = err_from_is_err_and c.from_residual-in_err-rebuild.result c.from_residual-in_err-rebuild.ensures.1 in
    rw (e.1, e.2) (subst (λ (p : PartValue). RefusesAs g.R.Read.remaining g.R.CountedRead.failed_calls g.R.CountedRead.sure_calls p (most_checkpoint_bytes p p.plan.limit + 1) c.args.reader.now c.read_saved.new.reader errors.Memory)
    c.deref.ensures (body_refuses g.R.CountedRead.sure_calls errors.Memory c.in_ok-saved.ensures.done (inl refl) (λ shape. absurd (memory_not_shape errors.Memory refl shape))))

pub returns-clause-back : goal.returns-clause-back
returns-clause-back g c = λ v keepable part known.
    let r = c.in_ok-rebuild.field-0 in
    let made = c.in_ok-rebuild.ensures in
    let fields = subst (λ (p : PartValue). IsRebuilt p c.in_ok-saved.saved r) (sym c.deref.ensures) made.fields in
    elim (c.in_ok-saved.ensures.spelled r fields made.keepable.state (checkpoint_bytes v) known) [
      | inl second ↦ text_is_one r v made.keepable keepable (made.fields.part_is ∙ sym part) (sym second)
      | inr first ↦ absurd (versions_differ r v (sym first))
    ]

pub returns-in_err-saved-clause-back : goal.returns-in_err-saved-clause-back
returns-in_err-saved-clause-back g c = λ v keepable part known.
    let p = err_from_is_err_and c.from_residual.result c.from_residual.ensures.1 in
    rw (p.1, p.2) (second_wants v keepable (part ∙ sym c.deref.ensures) known c.in_err-saved.ensures.refused)

pub returns-in_err-saved-clause-first : goal.returns-in_err-saved-clause-first
returns-in_err-saved-clause-first g c = λ v keepable part known.
    let p = err_from_is_err_and c.from_residual.result c.from_residual.ensures.1 in
    rw (p.1, p.2) (first_wants v keepable (part ∙ sym c.deref.ensures) known c.in_err-saved.ensures.refused)

pub returns-clause-first : goal.returns-clause-first
returns-clause-first g c = λ v keepable part known.
    let unnamed = unnamed_keepable v keepable in
    let fields = c.in_ok-saved.ensures.first v keepable (part ∙ sym c.deref.ensures) known in
    c.in_ok-rebuild.ensures.same (without_names v) unnamed.state (subst (λ (p : PartValue). IsRebuilt p c.in_ok-saved.saved (without_names v)) c.deref.ensures fields)

pub returns-clause-front : goal.returns-clause-front
returns-clause-front g c = λ bytes known.
    subst (λ (p : PartValue). HasHead p bytes) c.deref.ensures (c.in_ok-saved.ensures.front bytes known)

pub returns-in_err-saved-clause-within : goal.returns-in_err-saved-clause-within
returns-in_err-saved-clause-within g c =
    subst (λ (p : PartValue). TakesWithin (allowed p) (g.R.Read.remaining c.args.reader.now) (g.R.Read.remaining c.read_saved.new.reader)) c.deref.ensures c.in_err-saved.ensures.within

pub returns-in_err-saved-clause-refused : goal.returns-in_err-saved-clause-refused
returns-in_err-saved-clause-refused g c =
    let e = err_from_is_err_and c.from_residual.result c.from_residual.ensures.1 in
    rw (e.1, e.2) (subst (λ (p : PartValue). RefusesAs g.R.Read.remaining g.R.CountedRead.failed_calls g.R.CountedRead.sure_calls p (most_checkpoint_bytes p p.plan.limit + 1) c.args.reader.now c.read_saved.new.reader c.in_err-saved.field-0.0)
    c.deref.ensures c.in_err-saved.ensures.refused)

pub returns-in_err-rebuild-clause-within : goal.returns-in_err-rebuild-clause-within
returns-in_err-rebuild-clause-within g c =
    subst (λ (p : PartValue). TakesWithin (allowed p) (g.R.Read.remaining c.args.reader.now) (g.R.Read.remaining c.read_saved.new.reader)) c.deref.ensures c.in_ok-saved.ensures.within

pub returns-in_err-rebuild-clause-front : goal.returns-in_err-rebuild-clause-front
returns-in_err-rebuild-clause-front g c = λ bytes known.
    whatever_it_is _ (subst (λ (p : PartValue). HasHead p bytes) c.deref.ensures (c.in_ok-saved.ensures.front bytes known))

pub returns-in_err-saved-clause-whole : goal.returns-in_err-saved-clause-whole
returns-in_err-saved-clause-whole g c =
    let e = err_from_is_err_and c.from_residual.result c.from_residual.ensures.1 in
    rw (e.1, e.2) (subst (λ (p : PartValue). c.in_err-saved.field-0.0 ≡ errors.Memory → Ends g.R.Read.remaining g.R.CountedRead.failed_calls (sealed_form p) (most_checkpoint_bytes p p.plan.limit + 1) c.args.reader.now c.read_saved.new.reader)
    c.deref.ensures c.in_err-saved.ensures.done)

pub returns-in_err-rebuild-clause-whole : goal.returns-in_err-rebuild-clause-whole
returns-in_err-rebuild-clause-whole g c =
    whatever_it_is _ (subst (λ (p : PartValue). Ends g.R.Read.remaining g.R.CountedRead.failed_calls (sealed_form p) (most_checkpoint_bytes p p.plan.limit + 1) c.args.reader.now c.read_saved.new.reader) c.deref.ensures c.in_ok-saved.ensures.done)

pub returns-clause-whole : goal.returns-clause-whole
returns-clause-whole g c =
    subst (λ (p : PartValue). Ends g.R.Read.remaining g.R.CountedRead.failed_calls (sealed_form p) (most_checkpoint_bytes p p.plan.limit + 1) c.args.reader.now c.read_saved.new.reader) c.deref.ensures c.in_ok-saved.ensures.done

pub returns-clause-within : goal.returns-clause-within
returns-clause-within g c =
    subst (λ (p : PartValue). TakesWithin (allowed p) (g.R.Read.remaining c.args.reader.now) (g.R.Read.remaining c.read_saved.new.reader)) c.deref.ensures c.in_ok-saved.ensures.within

pub returns-in_err-saved-clause-only : goal.returns-in_err-saved-clause-only
returns-in_err-saved-clause-only g c = λ sure.
    let e = err_from_is_err_and c.from_residual.result c.from_residual.ensures.1 in
    let refused = subst (λ (p : PartValue). RefusesAs g.R.Read.remaining g.R.CountedRead.failed_calls g.R.CountedRead.sure_calls p (most_checkpoint_bytes p p.plan.limit + 1) c.args.reader.now c.read_saved.new.reader c.in_err-saved.field-0.0) c.deref.ensures c.in_err-saved.ensures.refused in
    rw (e.1, e.2) (refused.unsure sure)

pub returns-in_err-saved-clause-few : goal.returns-in_err-saved-clause-few
returns-in_err-saved-clause-few g c =
    let refused = subst (λ (p : PartValue). RefusesAs g.R.Read.remaining g.R.CountedRead.failed_calls g.R.CountedRead.sure_calls p (most_checkpoint_bytes p p.plan.limit + 1) c.args.reader.now c.read_saved.new.reader c.in_err-saved.field-0.0) c.deref.ensures c.in_err-saved.ensures.refused in
    refused.few

pub returns-in_err-rebuild-clause-only : goal.returns-in_err-rebuild-clause-only
returns-in_err-rebuild-clause-only g c = λ sure.
    let e = err_from_is_err_and c.from_residual-in_err-rebuild.result c.from_residual-in_err-rebuild.ensures.1 in
    rw (e.1, e.2) (λ no. no)

pub returns-in_err-rebuild-clause-few : goal.returns-in_err-rebuild-clause-few
returns-in_err-rebuild-clause-few g c =
    let ends = subst (λ (p : PartValue). Ends g.R.Read.remaining g.R.CountedRead.failed_calls (sealed_form p) (most_checkpoint_bytes p p.plan.limit + 1) c.args.reader.now c.read_saved.new.reader) c.deref.ensures c.in_ok-saved.ensures.done in
    ends.few

pub returns-in_err-rebuild-clause-back : goal.returns-in_err-rebuild-clause-back
returns-in_err-rebuild-clause-back g c = λ v keepable part known.
    let e = err_from_is_err_and c.from_residual-in_err-rebuild.result c.from_residual-in_err-rebuild.ensures.1 in
    rw (e.1, e.2) (inl refl)

pub returns-in_err-rebuild-clause-first : goal.returns-in_err-rebuild-clause-first
returns-in_err-rebuild-clause-first g c = λ v keepable part known.
    let e = err_from_is_err_and c.from_residual-in_err-rebuild.result c.from_residual-in_err-rebuild.ensures.1 in
    rw (e.1, e.2) (inl refl)

pub returns-clause-part : goal.returns-clause-part
returns-clause-part g c = c.in_ok-rebuild.ensures.fields.part_is

pub returns-clause-keepable : goal.returns-clause-keepable
returns-clause-keepable g c = c.in_ok-rebuild.ensures.keepable

pub returns-clause-counted : goal.returns-clause-counted
returns-clause-counted g c = c.in_ok-saved.ensures.done.counted

pub returns-clause-only : goal.returns-clause-only
returns-clause-only g c = λ sure. tt

pub returns-clause-few : goal.returns-clause-few
returns-clause-few g c =
    let ends = subst (λ (p : PartValue). Ends g.R.Read.remaining g.R.CountedRead.failed_calls (sealed_form p) (most_checkpoint_bytes p p.plan.limit + 1) c.args.reader.now c.read_saved.new.reader) c.deref.ensures c.in_ok-saved.ensures.done in
    ends.few
