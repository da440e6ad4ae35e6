-- A replica that receives a batch: one of its superstep is heard, a later one is kept.
use Rattle.std.proofs.Common.{◌≡◌, ℕ, ◌+◌, ◌-◌, ◌<◌, ◌≤◌, ◌==◌, ◌&&◌, List, refl, ap, sym, ◌∙◌, subst, arith, if◌then◌else◌}
use Rattle.replica.proofs.Names.{Option, Some, Ok, arc_value, PlanValue, BatchValue, IsBatch, take_of, State, content_of, early_at, BatchName}
use Rattle.ball_model.specs.declared.names.Taken.TheVariants as taken
use Rattle.replica.specs.declared.stage.Stage.TheInside as stage
use Rattle.replica.specs.Ahead.{IsTable}
use Rattle.replica.specs.Change.{Receives}
use Rattle.replica.specs.Hearing.{HearingValue, HearsAlso, HearsByIndex, KeepsAll, batch_by}
use Rattle.replica.specs.Index.{targets_of}
use Rattle.replica.specs.Stage.{CanGoOn, StageValue}
use Rattle.replica.specs.Seen.{HasIndex, IsStage, stage_of, state_of}
use Rattle.replica.proofs.HearingLemmas.Accumulator.{Keeps, NoneSpare, Whole, fields_of, fields_are, hearing_keeps, kept_stage, none_spare, state_is}
use Rattle.replica.proofs.HearingLemmas.Hear.{hears_as}
use Rattle.replica.proofs.LevelLemmas.Level.{number_is}
use Rattle.replica.proofs.LevelLemmas.Over.{hearing_index, kept_over}
use Rattle.replica.proofs.KeptLemmas.Rise.{all_on}
use Rattle.replica.proofs.SeenLemmas.State.{ready_at}
use Rattle.replica.proofs.KeptLemmas.Take.{IsFresh, fresh, names_heard, names_kept, stands_heard, sources_heard, early_kept}

-- ---- a batch of the superstep

-- what is known where it is new
pub record Hearable (r : stage.Inside) (v : State) (b : BatchValue) (targets : List (List ℕ)) : Type 0 where
  pub keeps : Keeps r v
  pub now : b.name.superstep ≡ r.superstep
  pub is_fresh : IsFresh (fields_of r) b
  pub index : targets ≡ targets_of (arc_value r.part)
  pub ready : HearsByIndex b.plan.log2m targets r.hearing

pub hearable : (r : stage.Inside) (l : StageValue) (b : BatchValue) (targets : List (List ℕ)) (name : BatchName) → IsStage r → NoneSpare r → CanGoOn l → stage_of r ≡ l → IsBatch b →
    take_of l.state.part.plan l.state.part.number (content_of l.state) b.plan b.name ≡ Ok taken.New → HasIndex l.state targets → name ≡ b.name → name.superstep ≡ r.superstep → Hearable r l.state b targets
hearable r l b targets name ok spare can is batch new has named here =
    let now : b.name.superstep ≡ r.superstep = ap (λ (n : BatchName). n.superstep) (sym named) ∙ here in
    let k = hearing_keeps r l b ok spare can is batch new (now ∙ ap (λ (u : State). u.superstep) (state_is is)) in
    let mine = subst (λ (u : State). take_of u.part.plan u.part.number (content_of u) b.plan b.name ≡ Ok taken.New) (sym k.view_is) new in
    let index = hearing_index (fields_of r) b targets (subst (λ (u : State). HasIndex u targets) (sym k.view_is) has) batch mine now in
    let is_fresh = fresh (fields_of r) b batch mine in
    grind (arith, ready_at, fields_of)

-- once stale accumulators are taken back
pub hearable_whole : (r : stage.Inside) (l : StageValue) (b : BatchValue) (targets : List (List ℕ)) (name : BatchName) → Whole r l.state (CanGoOn l) → CanGoOn l → IsBatch b →
    take_of l.state.part.plan l.state.part.number (content_of l.state) b.plan b.name ≡ Ok taken.New → HasIndex l.state targets → name ≡ b.name → name.superstep ≡ r.superstep → Hearable r l.state b targets
hearable_whole r l b targets name whole can batch new has named here =
    subst (λ (u : State). Hearable r u b targets) whole.same
    (hearable r (stage_of r) b targets name whole.limits whole.spare (whole.goes_on can) refl batch
    (subst (λ (u : State). take_of u.part.plan u.part.number (content_of u) b.plan b.name ≡ Ok taken.New) (sym whole.same) new)
    (subst (λ (u : State). HasIndex u targets) (sym whole.same) has) named here)

pub record Heard (r : stage.Inside) (v : State) (b : BatchValue) : Type 0 where
  pub limits : IsStage r
  pub kept : KeepsAll r.tables.rows.rows r.hearing
  pub receives : Receives b v (state_of r)

pub heard_now : (r : stage.Inside) (v : State) (b : BatchValue) (targets : List (List ℕ)) (after : HearingValue) → IsStage r → Hearable r v b targets → HearsAlso b.plan.log2m targets (batch_by b.name.source (Some b)) r.hearing after → Heard (record r { hearing = after }) v b
heard_now r v b targets after ok h also =
    let s = fields_of r in
    let w = fields_of (record r { hearing = after }) in
    let st = h.keeps.state in
    let own = hears_as (ap (λ (a : PlanValue). a.log2m) h.is_fresh.plan_is) h.index refl refl also.hears in
    let rise = all_on s.part.plan.log2m s.rows s.accumulated after.accumulated.rows st.rows st.accumulated own.rise in
    let kept = also.touched r.tables.rows.rows h.keeps.kept in
    record {
      limits = kept_stage (record r { hearing = after })
          (grind (arith, sources_heard s w b h.is_fresh st also.hears.count also.hears.sources)) ok.width (also.width ∙ ok.accumulated_width) kept (none_spare r ok h.keeps.kept.count);
      kept = kept;
      receives = subst (λ (u : State). Receives b v u) (fields_are (record r { hearing = after }) rise.count)
          (subst (λ (u : State). Receives b u w) h.keeps.view_is (record {
            shown = (record { part = refl; superstep = refl; rows = refl; marks = refl; tallies = refl; sums = refl });
            names = names_heard s w b h.now refl refl also.hears.sources;
            stands = λ j p t at. stands_heard s w b s.part.plan.log2m (record { part = refl; superstep = refl; rows = refl; marks = refl; tallies = refl; sums = refl }) h.now h.is_fresh.target refl own j p t (number_is j p t s at) at;
          }));
    }

-- ---- a batch of a later superstep

later_than : (t n : ℕ) → t ≤ n → (n ≡ t → ⊥) → t < n
later_than t n le ne = omega (arith, ne)

-- it has a place
pub record Placed (r : stage.Inside) (name : BatchName) : Type 0 where
  pub above : r.superstep < name.superstep
  pub near : name.superstep < r.superstep + 4
  pub source : (parts : ℕ) → IsTable parts r.early → name.source < parts

pub placed : (r : stage.Inside) (v : State) (b : BatchValue) (name : BatchName) → IsStage r → state_of r ≡ v → IsBatch b →
    take_of v.part.plan v.part.number (content_of v) b.plan b.name ≡ Ok taken.New → name ≡ b.name → (name.superstep ≡ r.superstep → ⊥) → Placed r name
placed r v b name ok is batch new named other = grind (arith, fresh)

pub record Kept (r : stage.Inside) (v : State) (b : BatchValue) : Type 0 where
  pub limits : IsStage r
  pub can : CanGoOn (stage_of r)
  pub receives : Receives b v (state_of r)

pub kept_later : (r : stage.Inside) (v : State) (b : BatchValue) (name : BatchName) (after : List (List (Option BatchValue))) → IsStage r → CanGoOn (stage_of r) → state_of r ≡ v → IsBatch b →
    take_of v.part.plan v.part.number (content_of v) b.plan b.name ≡ Ok taken.New → name ≡ b.name → (name.superstep ≡ r.superstep → ⊥) → ((parts : ℕ) → IsTable parts r.early → IsTable parts after) →
    ((i k : ℕ) → early_at after i k ≡ (if (i == name.superstep - r.superstep - 1) && (k == name.source) then Some b else early_at r.early i k)) → Kept (record r { early = after }) v b
kept_later r v b name after ok goes is batch new named other table at =
    let s = state_of r in
    let st = ok.state in
    let f = fresh s b batch (subst (λ (u : State). take_of u.part.plan u.part.number (content_of u) b.plan b.name ≡ Ok taken.New) (sym is) new) in
    let level = name.superstep - r.superstep - 1 in
    let later : s.superstep < b.name.superstep = later_than s.superstep b.name.superstep f.low (λ e. other (ap (λ (n : BatchName). n.superstep) named ∙ e)) in
    let level_is : level ≡ b.name.superstep - s.superstep - 1 = ap (λ (n : BatchName). n.superstep - s.superstep - 1) named in
    let kept : (i k : ℕ) → early_at after i k ≡ (if (i == level) && (k == b.name.source) then Some b else early_at s.early i k) =
    λ i k. at i k ∙ ap (λ (n : BatchName). if (i == level) && (k == n.source) then Some b else early_at s.early i k) named in
    grind (
      arith,
      early_kept s after b level f later level_is st.early (table s.part.plan.parts st.early.table) kept,
      kept_over s after,
      names_kept s (state_of (record r { early = after })) b level later level_is refl refl kept,
      number_is,
    )
