use Rattle.std.proofs.Common.{◌≡◌, ◌≤◌, ◌<◌, ◌∙◌, ℕ, List, Ok, length, get_or, take, drop, arith, ap, sym, subst, refl, inl, inr}
use Rattle.ball_model.specs.Checkpoint.{first_checkpoint_bytes, front_bytes, sealed, without_names}
use Rattle.checkpoint.specs.declared.header.CheckpointHeader.{CheckpointHeader}
use Rattle.std.proofs.lemmas.List.{length-take, take-append-drop, take-take}
use Rattle.ball_model.specs.Job.{PartValue}
use Rattle.replica.specs.Saved.{Fits, IsRebuilt}
use Rattle.replica.specs.declared.saved.Saved.{Saved}
use Rattle.replica.proofs.SavedLemmas.Keepable.{keepable_fits}
use Rattle.std.specs.Prelude.{Err, IfErr, OnErr, Result, Some}
use Rattle.checkpoint.specs.Reading.{check_checkpoint_head, checkpoint_head_at, TellNone}
use Rattle.checkpoint.proofs.FrontLemmas.{front_is, one_or_two}
use Rattle.checkpoint.proofs.HeldLemmas.{front_fits}
use Rattle.std.proofs.lemmas.Result.{IfOk-weaker, err_from_is_err_and}
use Rattle.checkpoint.specs.declared.error.KeepError.{KeepError}
use Rattle.checkpoint.specs.declared.error.KeepError.TheVariants as errors
use Rattle.checkpoint.proofs.RefusalLemmas.{body_refuses, fails_refuse, first_told, memory_not_shape, second_told, unnamed_keepable}
use Rattle.checkpoint.proofs.SpelledLemmas.{content_is, first_content_is, first_sealed_is, sealed_is}
use Rattle.checkpoint.proofs.ReaderLemmas.{whatever_it_is}
use Rattle.checkpoint.proofs.read.read_saved.Goals as goal

pub returns-in_err-header-clause-refused : goal.returns-in_err-header-clause-refused
returns-in_err-header-clause-refused g c =
    let r = err_from_is_err_and c.from_residual.result c.from_residual.ensures.1 in
    rw (r.1, r.2) (fails_refuse c.in_err-header.ensures.fails)

pub returns-in_err-saved-clause-refused : goal.returns-in_err-saved-clause-refused
returns-in_err-saved-clause-refused g c =
    let text = c.in_ok-bytes.bytes.now in
    let e = c.in_err-saved.field-0.0 in
    let head = (c.in_ok-header.ensures.text c.in_ok-bytes.ensures.whole).head ∙ ap (λ (l : List ℕ). checkpoint_head_at (take 54 l)) (sym c.in_ok-bytes.ensures.bytes) in
    let none : e ≡ errors.Shape → (bytes : List ℕ) → g.R.Read.remaining c.args.reader.now ≡ Some bytes → TellNone c.args.part.now bytes = λ shape bytes known.
    let whole = subst (λ (l : List ℕ). bytes ≡ sealed l) (sym c.in_ok-bytes.ensures.bytes) ((c.in_ok-header.ensures.text c.in_ok-bytes.ensures.whole).is_sealed bytes known) in
    record {
      second = λ v k part is.
          let told = second_told v bytes text k.state whole is in
          memory_not_shape e (c.in_err-saved.ensures.right (ap (λ (h : CheckpointHeader). h.version) head ∙ told.version_is) v k part (told.step ∙ sym (ap (λ (h : CheckpointHeader). h.superstep) head)) told.body_is) shape;
      first = λ v k part is.
          let told = first_told v bytes text k.state whole is in
          memory_not_shape e (c.in_err-saved.ensures.first (ap (λ (h : CheckpointHeader). h.version) head ∙ told.version_is) v k part (told.step ∙ sym (ap (λ (h : CheckpointHeader). h.superstep) head)) told.body_is) shape;
    } in
    let r = err_from_is_err_and c.from_residual-in_err-saved.result c.from_residual-in_err-saved.ensures.1 in
    rw (r.1, r.2) (body_refuses g.R.CountedRead.sure_calls e c.in_ok-header.ensures.done c.in_err-saved.ensures.kind none)

-- what does not fit is refused for its shape
refuse_by : {part : PartValue} {saved : Saved} (r : Result Saved KeepError) (P : KeepError → Type 0) → IfErr r (λ e. e ≡ errors.Shape) → OnErr r (Fits part saved → ⊥) → ((Fits part saved → ⊥) → P errors.Shape) → IfErr r P
refuse_by (Ok s) P kind unfit refused = tt
refuse_by (Err e) P kind unfit refused = subst P (sym kind) (refused unfit)

pub returns-clause-refused : goal.returns-clause-refused
returns-clause-refused g c =
    let text = c.in_ok-bytes.bytes.now in
    let saved = c.in_ok-saved.saved in
    let head = (c.in_ok-header.ensures.text c.in_ok-bytes.ensures.whole).head ∙ ap (λ (l : List ℕ). checkpoint_head_at (take 54 l)) (sym c.in_ok-bytes.ensures.bytes) in
    refuse_by {part = c.args.part.now} {saved = saved} c.fitting.result _ c.fitting.ensures.kind c.fitting.ensures.refused (λ no_fit.
    let none : errors.Shape ≡ errors.Shape → (bytes : List ℕ) → g.R.Read.remaining c.args.reader.now ≡ Some bytes → TellNone c.args.part.now bytes = λ shape bytes known.
    let whole = subst (λ (l : List ℕ). bytes ≡ sealed l) (sym c.in_ok-bytes.ensures.bytes) ((c.in_ok-header.ensures.text c.in_ok-bytes.ensures.whole).is_sealed bytes known) in
    record {
      second = λ v k part is.
          let told = second_told v bytes text k.state whole is in
          no_fit (keepable_fits c.args.part.now saved v k
          (c.in_ok-saved.ensures.right (ap (λ (h : CheckpointHeader). h.version) head ∙ told.version_is) v k part (told.step ∙ sym (ap (λ (h : CheckpointHeader). h.superstep) head)) told.body_is)
          c.in_ok-saved.ensures.shape.rows c.in_ok-saved.ensures.shape.accumulated);
      first = λ v k part is.
          let told = first_told v bytes text k.state whole is in
          no_fit (keepable_fits c.args.part.now saved (without_names v) (unnamed_keepable v k)
          (c.in_ok-saved.ensures.first (ap (λ (h : CheckpointHeader). h.version) head ∙ told.version_is) v k part (told.step ∙ sym (ap (λ (h : CheckpointHeader). h.superstep) head)) told.body_is)
          c.in_ok-saved.ensures.shape.rows c.in_ok-saved.ensures.shape.accumulated);
    } in
    body_refuses g.R.CountedRead.sure_calls errors.Shape c.in_ok-header.ensures.done (inr refl) none)

pub returns-clause-first : goal.returns-clause-first
returns-clause-first g c = IfOk-weaker c.fitting.result _ _ (λ s same. λ v k part known.
    let text = c.in_ok-bytes.bytes.now in
    let head = (c.in_ok-header.ensures.text c.in_ok-bytes.ensures.whole).head ∙ ap (λ (l : List ℕ). checkpoint_head_at (take 54 l)) (sym c.in_ok-bytes.ensures.bytes) in
    let whole = subst (λ (l : List ℕ). first_checkpoint_bytes v ≡ sealed l) (sym c.in_ok-bytes.ensures.bytes) ((c.in_ok-header.ensures.text c.in_ok-bytes.ensures.whole).is_sealed (first_checkpoint_bytes v) known) in
    let told = first_told v (first_checkpoint_bytes v) text k.state whole refl in
    subst (λ (x : Saved). IsRebuilt c.args.part.now x (without_names v)) (sym same) (c.in_ok-saved.ensures.first (ap (λ (h : CheckpointHeader). h.version) head ∙ told.version_is) v k part (told.step ∙ sym (ap (λ (h : CheckpointHeader). h.superstep) head)) told.body_is)) c.fitting.ensures.same

pub returns-clause-spelled : goal.returns-clause-spelled
returns-clause-spelled g c = IfOk-weaker c.fitting.result _ _ (λ s same. λ v told_of is bytes known.
    let r = subst (λ (x : Saved). IsRebuilt c.args.part.now x v) same told_of in
    let text = c.in_ok-bytes.bytes.now in
    let whole = subst (λ (l : List ℕ). bytes ≡ sealed l) (sym c.in_ok-bytes.ensures.bytes) ((c.in_ok-header.ensures.text c.in_ok-bytes.ensures.whole).is_sealed bytes known) in
    let long = subst (λ (l : List ℕ). 54 ≤ length l) (sym c.in_ok-bytes.ensures.bytes) ((c.in_ok-header.ensures.text c.in_ok-bytes.ensures.whole).long) in
    let head = (c.in_ok-header.ensures.text c.in_ok-bytes.ensures.whole).head ∙ ap (λ (l : List ℕ). checkpoint_head_at (take 54 l)) (sym c.in_ok-bytes.ensures.bytes) in
    let short = length-take 54 text in
    let passed = ap (check_checkpoint_head c.args.part.now) (sym head) ∙ c.in_ok-header.ensures.checked in
    let checked = subst (λ (p : PartValue). check_checkpoint_head p (checkpoint_head_at (take 54 text)) ≡ Ok tt) (sym r.part_is) passed in
    let step = sym (r.superstep ∙ c.in_ok-saved.ensures.shape.superstep ∙ ap (λ (h : CheckpointHeader). h.superstep) head) in
    let fits : (i : ℕ) → get_or (take 54 text) i 0 < 256 =
    front_fits text (take 54 text) (drop 54 text) (sym (take-append-drop 54 text)) c.in_ok-saved.ensures.bytes in
    let front : (n : ℕ) → (checkpoint_head_at (take 54 text)).version ≡ n → take 54 text ≡ front_bytes n v =
    λ n version. sym (take-take 54 54 text (omega arith)) ∙ front_is n v (take 54 text) fits (omega (arith, short, long)) checked version step is.part.plan.digest in
    elim (one_or_two c.args.part.now (checkpoint_head_at (take 54 text)) passed) [
      | inl one ↦ inr (first_sealed_is v bytes text whole (first_content_is c.args.part.now c.in_ok-saved.saved v text r is (front 1 one) (c.in_ok-saved.ensures.first_spelled (ap (λ (h : CheckpointHeader). h.version) head ∙ one))))
      | inr two ↦ inl (sealed_is v bytes text whole (content_is c.args.part.now c.in_ok-saved.saved v text r is (front 2 two) (c.in_ok-saved.ensures.spelled (ap (λ (h : CheckpointHeader). h.version) head ∙ two))))
    ]) c.fitting.ensures.same

pub returns-in_err-bytes-clause-refused : goal.returns-in_err-bytes-clause-refused
returns-in_err-bytes-clause-refused g c =
    let e = err_from_is_err_and c.from_residual-in_err-bytes.result c.from_residual-in_err-bytes.ensures.1 in
    rw (e.1, e.2) (body_refuses g.R.CountedRead.sure_calls errors.Memory c.in_ok-header.ensures.done (inl refl) (λ shape. absurd (memory_not_shape errors.Memory refl shape)))

pub returns-in_err-header-clause-within : goal.returns-in_err-header-clause-within
returns-in_err-header-clause-within g c = c.in_err-header.ensures.within

pub returns-in_err-header-clause-done : goal.returns-in_err-header-clause-done
returns-in_err-header-clause-done g c =
    let r = err_from_is_err_and c.from_residual.result c.from_residual.ensures.1 in
    rw (r.1, r.2) (λ is. absurd (c.in_err-header.ensures.fails.wanting is))

pub returns-in_err-header-clause-front : goal.returns-in_err-header-clause-front
returns-in_err-header-clause-front g c = λ bytes known.
    let r = err_from_is_err_and c.from_residual.result c.from_residual.ensures.1 in
    rw (r.1, r.2) (λ is. absurd (c.in_err-header.ensures.fails.wanting is))

pub returns-in_err-bytes-clause-within : goal.returns-in_err-bytes-clause-within
returns-in_err-bytes-clause-within g c = c.in_ok-header.ensures.within

pub returns-in_err-bytes-clause-done : goal.returns-in_err-bytes-clause-done
returns-in_err-bytes-clause-done g c = whatever_it_is _ c.in_ok-header.ensures.done

pub returns-in_err-bytes-clause-front : goal.returns-in_err-bytes-clause-front
returns-in_err-bytes-clause-front g c = λ bytes known. whatever_it_is _ (c.in_ok-header.ensures.front bytes known)

pub returns-in_err-saved-clause-within : goal.returns-in_err-saved-clause-within
returns-in_err-saved-clause-within g c = c.in_ok-header.ensures.within

pub returns-in_err-saved-clause-done : goal.returns-in_err-saved-clause-done
returns-in_err-saved-clause-done g c = whatever_it_is _ c.in_ok-header.ensures.done

pub returns-in_err-saved-clause-front : goal.returns-in_err-saved-clause-front
returns-in_err-saved-clause-front g c = λ bytes known. whatever_it_is _ (c.in_ok-header.ensures.front bytes known)

pub returns-clause-fits : goal.returns-clause-fits
returns-clause-fits g c = c.fitting.ensures.fits

pub returns-clause-done : goal.returns-clause-done
returns-clause-done g c = whatever_it_is c.fitting.result c.in_ok-header.ensures.done

pub returns-clause-within : goal.returns-clause-within
returns-clause-within g c = c.in_ok-header.ensures.within

pub returns-clause-front : goal.returns-clause-front
returns-clause-front g c = λ bytes known. whatever_it_is c.fitting.result (c.in_ok-header.ensures.front bytes known)
