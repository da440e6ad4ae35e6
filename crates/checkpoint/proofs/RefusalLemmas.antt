-- What is refused is the spelling of no replica.
use Rattle.std.proofs.Common.{◌≡◌, ℕ, zero, suc, ◌+◌, ◌<◌, List, [], ◌++◌, length, get_or, take, drop, refl, ap, sym, ◌∙◌, subst, arith, append_assoc, inl, inr, replicate}
use Rattle.std.specs.Prelude.{Option, Some, None, ⊤, ◌⊎◌, IfSome}
use Rattle.std.proofs.Math.Seq.{drop-append_seam}
use Rattle.std.proofs.lemmas.List.{take_at, length-replicate}
use Rattle.ball_model.specs.Batches.{BatchValue}
use Rattle.ball_model.specs.Checkpoint.{front_bytes, table_bytes, held_bytes, sealed, checkpoint_bytes, first_checkpoint_bytes, without_names}
use Rattle.ball_model.specs.Job.{PartValue}
use Rattle.ball_model.specs.State.{State, early_at}
use Rattle.replica.specs.Kept.{IsOfName}
use Rattle.replica.specs.Saved.{IsKeepable}
use Rattle.replica.specs.Seen.{IsState}
use Rattle.replica.proofs.KeptLemmas.Rise.{all_stay}
use Rattle.replica.proofs.SeenLemmas.State.{no_sources}
use Rattle.graph.proofs.RangeLemmas.{copies-at}
use Rattle.checkpoint.specs.declared.header.CheckpointHeader.{CheckpointHeader}
use Rattle.checkpoint.specs.declared.error.KeepError.{KeepError}
use Rattle.checkpoint.specs.declared.error.KeepError.TheVariants as errors
use Rattle.checkpoint.specs.Reading.{checkpoint_head_at, sealed_form, Ends, Fails, RefusesAs, TellNone, IsOfBytes, IsOfBody}
use Rattle.checkpoint.proofs.FormLemmas.{head_is_in, second_fine, first_fine}
use Rattle.checkpoint.proofs.LawLemmas.{unsealed}
use Rattle.checkpoint.proofs.LengthLemmas.{front_long}
use Rattle.checkpoint.proofs.ReaderLemmas.{body_unread}

-- ---- what the content of a spelling is
pub record IsWritten (version : ℕ) (v : State) (text body : List ℕ) : Type 0 where
  pub version_is : (checkpoint_head_at (take 54 text)).version ≡ version
  pub step : v.superstep ≡ (checkpoint_head_at (take 54 text)).superstep
  pub body_is : drop 54 text ≡ body

told : (version : ℕ) (v : State) (text body : List ℕ) → IsState v → text ≡ front_bytes version v ++ body → IsWritten version v text body
told version v text body s is =
    let front = front_bytes version v in
    let long = front_long version v s in
    let head : checkpoint_head_at (take 54 text) ≡ checkpoint_head_at front = ap checkpoint_head_at (ap (take 54) is ∙ take_at front body 54 long) in
    let fields = head ∙ head_is_in version v s in
    record {
      version_is = ap (λ (h : CheckpointHeader). h.version) fields;
      step = sym (ap (λ (h : CheckpointHeader). h.superstep) fields);
      body_is = ap (drop 54) is ∙ subst (λ (n : ℕ). drop n (front ++ body) ≡ body) long (drop-append_seam front body);
    }

pub second_told : (v : State) (bytes text : List ℕ) → IsState v → bytes ≡ sealed text → bytes ≡ checkpoint_bytes v → IsWritten 2 v text (table_bytes v ++ held_bytes v)
unfolding checkpoint_bytes
second_told v bytes text s split is =
    told 2 v text (table_bytes v ++ held_bytes v) s
    (unsealed text ((front_bytes 2 v ++ table_bytes v) ++ held_bytes v) (sym split ∙ is) ∙ append_assoc (front_bytes 2 v) (table_bytes v) (held_bytes v))

pub first_told : (v : State) (bytes text : List ℕ) → IsState v → bytes ≡ sealed text → bytes ≡ first_checkpoint_bytes v → IsWritten 1 v text (table_bytes v)
unfolding first_checkpoint_bytes
first_told v bytes text s split is = told 1 v text (table_bytes v) s (unsealed text (front_bytes 1 v ++ table_bytes v) (sym split ∙ is))

-- ---- a replica that has forgotten what it held
pub nothing_at : (parts i q : ℕ) → early_at (replicate 3 (replicate parts None)) i q ≡ None
nothing_at parts zero q = copies-at parts q None
nothing_at parts (suc zero) q = copies-at parts q None
nothing_at parts (suc (suc zero)) q = copies-at parts q None
nothing_at parts (suc (suc (suc i))) q = refl

pub unnamed_keepable : (v : State) → IsKeepable v → IsKeepable (without_names v)
unnamed_keepable v k =
    let s = k.state in
    let parts = v.part.plan.parts in
    record {
      state = record {
        part = s.part;
        superstep = s.superstep;
        count = s.count;
        rows = s.rows;
        marks = s.marks;
        lasts = s.lasts;
        sums = s.sums;
        heard = no_sources parts v.part.number;
        accumulated = all_stay v.part.plan.log2m v.rows s.rows;
        early = record {
          table = record { levels = refl; sources = level };
          kept = λ i q. subst (λ (o : Option BatchValue). IfSome o (IsOfName v.part.plan (record { superstep = v.superstep + 1 + i; source = q; target = v.part.number }))) (sym (nothing_at parts i q)) tt;
          own = λ i. nothing_at parts i v.part.number;
        };
      };
      figures = k.figures;
    }
  where
    slots : List (Option BatchValue)
    slots = replicate v.part.plan.parts None

    level : (i : ℕ) → i < 3 → length (get_or (replicate 3 slots) i []) ≡ v.part.plan.parts
    level zero lt = length-replicate v.part.plan.parts None
    level (suc zero) lt = length-replicate v.part.plan.parts None
    level (suc (suc zero)) lt = length-replicate v.part.plan.parts None
    level (suc (suc (suc i))) lt = absurd (omega (arith, lt))

-- ---- refusals
-- what was read whole is of no replica, or memory for it was refused
pub body_refuses : {R : Type 0} {remaining : R → Option (List ℕ)} {failed : R → ℕ} {part : PartValue} {most : ℕ} {a b : R} (sure : R → Option ℕ) (e : KeepError)
    → Ends remaining failed (sealed_form part) most a b → IsOfBody e → (e ≡ errors.Shape → (bytes : List ℕ) → remaining a ≡ Some bytes → TellNone part bytes) → RefusesAs remaining failed sure part most a b e
body_refuses sure e p of none = record {
  few = p.few;
  rises = λ is. absurd (body_unread e of is);
  counted = λ _. p.counted;
  unsure = λ _ is. body_unread e of is;
  due = λ bytes known told. elim of [
    | inl memory ↦ absurd (subst IsOfBytes memory told)
    | inr shape ↦ inr (shape, p.is_form bytes known, none shape bytes known)
  ];
}

-- what was not read whole
pub fails_refuse : {R : Type 0} {remaining : R → Option (List ℕ)} {failed : R → ℕ} {sure : R → Option ℕ} {part : PartValue} {most : ℕ} {a b : R} {e : KeepError}
    → Fails remaining failed sure (sealed_form part) most a b e → RefusesAs remaining failed sure part most a b e
fails_refuse p = record { few = p.few; rises = p.rises; counted = p.counted; unsure = p.unsure; due = λ bytes known of. inl (p.due bytes known of) }

-- what is not of the bytes
pub want_of : (e : KeepError) → (IsOfBytes e → ⊥) → (e ≡ errors.Memory) ⊎ (e ≡ errors.Read)
want_of errors.Memory not_so = inl refl
want_of errors.Read not_so = inr refl
want_of errors.Write not_so = absurd (not_so tt)
want_of errors.Short not_so = absurd (not_so tt)
want_of errors.Magic not_so = absurd (not_so tt)
want_of errors.Version not_so = absurd (not_so tt)
want_of errors.OtherJob not_so = absurd (not_so tt)
want_of errors.OtherPart not_so = absurd (not_so tt)
want_of errors.Shape not_so = absurd (not_so tt)
want_of errors.Digest not_so = absurd (not_so tt)
want_of errors.Trailing not_so = absurd (not_so tt)

pub second_wants : {R : Type 0} {remaining : R → Option (List ℕ)} {failed : R → ℕ} {sure : R → Option ℕ} {part : PartValue} {most : ℕ} {a b : R} {e : KeepError} (v : State) → IsKeepable v → v.part ≡ part
    → remaining a ≡ Some (checkpoint_bytes v) → RefusesAs remaining failed sure part most a b e → (e ≡ errors.Memory) ⊎ (e ≡ errors.Read)
second_wants {part} {e} v k same known p = want_of e (λ of. elim (p.due (checkpoint_bytes v) known of) [
  | inl refused ↦ second_fine v k.state e (ap (λ (q : PartValue). sealed_form q (checkpoint_bytes v)) same ∙ refused)
  | inr none ↦ none.2.second v k same refl
])

pub first_wants : {R : Type 0} {remaining : R → Option (List ℕ)} {failed : R → ℕ} {sure : R → Option ℕ} {part : PartValue} {most : ℕ} {a b : R} {e : KeepError} (v : State) → IsKeepable v → v.part ≡ part
    → remaining a ≡ Some (first_checkpoint_bytes v) → RefusesAs remaining failed sure part most a b e → (e ≡ errors.Memory) ⊎ (e ≡ errors.Read)
first_wants {part} {e} v k same known p = want_of e (λ of. elim (p.due (first_checkpoint_bytes v) known of) [
  | inl refused ↦ first_fine v k.state e (ap (λ (q : PartValue). sealed_form q (first_checkpoint_bytes v)) same ∙ refused)
  | inr none ↦ none.2.first v k same refl
])

pub memory_not_shape : (e : KeepError) → e ≡ errors.Memory → e ≡ errors.Shape → ⊥
memory_not_shape e memory shape = subst is_memory (sym memory ∙ shape) tt
  where
    is_memory : KeepError → Type 0
    is_memory errors.Memory = ⊤
    is_memory other = ⊥
