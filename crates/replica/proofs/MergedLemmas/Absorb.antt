-- A replica that takes over what another one knows: which is further, behind, or at the same superstep.
use Rattle.std.proofs.Common.{◌≡◌, ℕ, ◌+◌, ◌-◌, ◌^◌, ◌<◌, ◌≤◌, ◌||◌, List, length, refl, ap, ap₂, sym, ◌∙◌, subst, arith, inl, inr}
use Rattle.replica.proofs.Names.{Option, arc_value, BatchValue, PlanValue, State, early_at, Table}
use Rattle.registers.specs.Joined.{maximum_of_rows, union_of_flags}
use Rattle.replica.specs.declared.stage.Stage.TheInside as stage
use Rattle.replica.specs.Ahead.{IsTable, either}
use Rattle.replica.specs.Hearing.{CanHear, Fills, HearingValue, HearsEarly, KeepsAll}
use Rattle.replica.specs.Index.{targets_of}
use Rattle.replica.specs.Level.{differences}
use Rattle.replica.specs.Merged.{Absorbs, CanAbsorb, CanTakeIn, CanTakeOver, TakesIn, TakesOver}
use Rattle.replica.specs.Stage.{CanGoOn, IsWhole, StageValue}
use Rattle.replica.specs.Seen.{IsStage, IsState, stage_of, state_of}
use Rattle.replica.specs.Tables.{TablesValue}
use Rattle.replica.proofs.HearingLemmas.Accumulator.{Keeps, NoneSpare, fields_are, fields_of, kept_stage, none_spare, whole_keeps}
use Rattle.replica.proofs.HearingLemmas.Hear.{hears_as, hears_same}
use Rattle.replica.proofs.HearingLemmas.Hearing.{hears_said}
use Rattle.replica.proofs.MergedLemmas.Merge.{Gathers, Meets, Raises, Unites, absorbs_further, absorbs_lesser, absorbs_level, gathers_state, raises, touched_from, unites_state}
use Rattle.replica.proofs.KeptLemmas.Rise.{all_on}
use Rattle.replica.proofs.SeenLemmas.State.{ready_beside}
use Rattle.replica.proofs.TablesLemmas.{can_hear}

-- what is known of the two, and of the batches of the other one
pub record Merging (r o : stage.Inside) (v u : State) (shared : List (List (Option BatchValue))) : Type 0 where
  pub keeps : Keeps r v
  pub limits : IsStage r
  pub others : IsStage o
  pub other_is : state_of o ≡ u
  pub meets : Meets (fields_of r) (state_of o) shared
  pub room : (arc_value r.part).plan.limit + 1 ≤ r.tables.room

pub merging : (r o : stage.Inside) (k l : StageValue) (shared : List (List (Option BatchValue))) → IsStage r → IsStage o → stage_of r ≡ k → stage_of o ≡ l → IsWhole k → CanAbsorb k.state l.state shared → Merging r o k.state l.state shared
merging r o k l shared ok also is other whole two = grind (arith, whole_keeps)

-- the index is that of its part
pub own_index : (r o : stage.Inside) (v u : State) (shared : List (List (Option BatchValue))) (targets : List (List ℕ)) → Merging r o v u shared → targets ≡ targets_of v.part → targets ≡ targets_of (arc_value r.part)
own_index r o v u shared targets m index = index ∙ ap (λ (w : State). targets_of w.part) (sym m.keeps.view_is)

-- the batches of the other one can be heard
pub hear_from_other : (r o : stage.Inside) (v u : State) (plan : PlanValue) (targets : List (List ℕ)) (shared : List (List (Option BatchValue))) → Merging r o v u shared → plan ≡ (arc_value r.part).plan → targets ≡ targets_of v.part → CanHear plan targets shared r.hearing
hear_from_other r o v u plan targets shared g own index = grind (arith, can_hear)

-- ---- what it is then

pub record Absorbed (r : stage.Inside) (v u : State) : Type 0 where
  pub limits : IsStage r
  pub absorbs : Absorbs v u (state_of r)
  pub whole : IsWhole (stage_of r)

absorbed : (r : stage.Inside) (s o v u : State) → s ≡ v → o ≡ u → IsState (fields_of r) → r.tables.rows.width ≡ 2 ^ (arc_value r.part).plan.log2m → r.hearing.accumulated.width ≡ 2 ^ (arc_value r.part).plan.log2m → KeepsAll r.tables.rows.rows r.hearing → NoneSpare r → (arc_value r.part).plan.limit + 1 ≤ r.tables.room → Absorbs s o (fields_of r) → Absorbed r v u
absorbed r s o v u is other st width accumulated kept spare room made =
    let whole : fields_of r ≡ state_of r = fields_are r kept.count in
    record {
      limits = kept_stage r st width accumulated kept spare;
      absorbs = subst (λ (w : State). Absorbs v u w) whole (rw (← is, ← other) made);
      whole = record { kept = kept.count; spare = spare.none.0; room = room };
    }

-- it is further
pub lesser_taken : (r o : stage.Inside) (v u : State) (plan : PlanValue) (targets : List (List ℕ)) (shared left early : List (List (Option BatchValue))) (next : HearingValue) → Merging r o v u shared → o.superstep < r.superstep → plan ≡ (arc_value r.part).plan → targets ≡ targets_of (arc_value r.part) →
    HearsEarly plan.log2m targets (r.superstep - o.superstep - 1) shared left r.hearing next →
    ((i q : ℕ) → early_at early i q ≡ either (early_at r.early i q) (early_at left i q)) → ((parts : ℕ) → IsTable parts r.early → IsTable parts early) → Absorbed (record r { hearing = next; early = early }) v u
lesser_taken r o v u plan targets shared left early next g lt same index hears kept table =
    let s = fields_of r in
    let l = state_of o in
    let m = g.meets in
    let after = record r { hearing = next; early = early } in
    let gap = r.superstep - o.superstep - 1 in
    let made : Gathers s.part.plan.log2m s l (fields_of after) = record {
      lt = lt;
      shown = record { superstep = refl; rows = refl; marks = refl; tallies = refl; sums = refl };
      hears = hears_as (ap (λ (a : PlanValue). a.log2m) same) index refl refl
          (hears_same plan.log2m targets (λ q. early_at shared gap q) (λ q. early_at l.early gap q) _ _ (λ q. ap (λ e. early_at e gap q) m.early) hears.also.hears);
      early = λ i q. inl (kept i q ∙ ap (either (early_at s.early i q)) (hears.kept i q ∙ ap (λ e. early_at e (i + 1 + gap) q) m.early));
      table = table s.part.plan.parts m.mine.early.table;
    } in
    absorbed after s l v u g.keeps.view_is g.other_is
    (gathers_state s l (fields_of after) m.mine m.theirs made (sym m.plan) (sym m.number) refl refl refl m.mine.part)
    g.limits.width (hears.also.width ∙ g.limits.accumulated_width) (hears.also.touched r.tables.rows.rows g.keeps.kept) (none_spare r g.limits g.keeps.kept.count) g.room
    (absorbs_lesser s.part.plan.log2m s l (fields_of after) made refl)

-- the other one is: then its own batches can be heard beside what that one has
pub can_hear_beside : (r o : stage.Inside) (v u : State) (plan : PlanValue) (targets : List (List ℕ)) (shared : List (List (Option BatchValue))) (taken : HearingValue) → Merging r o v u shared → plan ≡ (arc_value r.part).plan → targets ≡ targets_of v.part → Fills o.tables.rows o.hearing taken → CanHear plan targets r.early taken
can_hear_beside r o v u plan targets shared taken g same index fills = grind (arith, ready_beside)

pub overtaken : (r o : stage.Inside) (v u : State) (plan : PlanValue) (targets : List (List ℕ)) (shared left early : List (List (Option BatchValue))) (b : TablesValue) (taken next : HearingValue) → Merging r o v u shared → r.superstep < o.superstep → plan ≡ (arc_value r.part).plan → targets ≡ targets_of (arc_value r.part) →
    b ≡ record o.tables { room = r.tables.room } → Fills o.tables.rows o.hearing taken → HearsEarly plan.log2m targets (o.superstep - r.superstep - 1) r.early left taken next →
    ((i q : ℕ) → early_at early i q ≡ either (early_at left i q) (early_at shared i q)) → ((parts : ℕ) → IsTable parts left → IsTable parts early) → Absorbed (record r { superstep = o.superstep; tables = b; hearing = next; early = early }) v u
overtaken r o v u plan targets shared left early b taken next g lt same index is fills hears kept table =
    let s = fields_of r in
    let l = state_of o in
    let m = g.meets in
    let after = record r { superstep = o.superstep; tables = b; hearing = next; early = early } in
    let width : o.tables.rows.width ≡ 2 ^ s.part.plan.log2m = g.others.width ∙ ap (λ (a : PlanValue). 2 ^ a.log2m) (sym m.plan) in
    let made : Gathers l.part.plan.log2m l s (fields_of after) = record {
      lt = lt;
      shown = grind arith;
      hears = hears_said (ap (λ (a : PlanValue). a.log2m) (same ∙ m.plan)) index fills.heard fills.change fills.accumulated hears.also.hears;
      early = λ i q. inr (kept i q ∙ ap₂ either (hears.kept i q) (ap (λ e. early_at e i q) m.early));
      table = subst (λ n. IsTable n early) (ap (λ (a : PlanValue). a.parts) m.plan) (table s.part.plan.parts (hears.table s.part.plan.parts m.mine.early.table));
    } in
    absorbed after s l v u g.keeps.view_is g.other_is
    (gathers_state l s (fields_of after) m.theirs m.mine made m.plan m.number m.plan m.number m.size m.mine.part)
    (ap (λ (t : TablesValue). t.rows.width) is ∙ width) (hears.also.width ∙ fills.width ∙ width)
    (subst (λ (t : TablesValue). KeepsAll t.rows.rows next) (sym is) (hears.also.touched o.tables.rows.rows fills.kept))
    (none_spare r g.limits g.keeps.kept.count)
    (subst (λ (t : TablesValue). s.part.plan.limit + 1 ≤ t.room) (sym is) g.room)
    (absorbs_further l.part.plan.log2m s l (fields_of after) made refl)

-- neither is
pub united : (r o : stage.Inside) (v u : State) (shared early : List (List (Option BatchValue))) (theirs : Table) (next : HearingValue) → Merging r o v u shared → r.superstep ≡ o.superstep → theirs.rows ≡ (state_of o).accumulated →
    next ≡ record {
      heard = union_of_flags r.hearing.heard o.hearing.heard;
      change = r.hearing.change || o.hearing.change;
      accumulated = maximum_of_rows r.hearing.accumulated theirs;
      touched = differences r.tables.rows.rows (maximum_of_rows r.hearing.accumulated theirs).rows (length r.tables.rows.rows);
    } →
    ((i q : ℕ) → early_at early i q ≡ either (early_at r.early i q) (early_at shared i q)) → ((parts : ℕ) → IsTable parts r.early → IsTable parts early) → Absorbed (record r { hearing = next; early = early }) v u
united r o v u shared early theirs next g level are is kept table =
    let s = fields_of r in
    let l = state_of o in
    let m = g.meets in
    let after = record r { hearing = next; early = early } in
    let both : Raises s l next.accumulated = raises s l shared r.hearing.accumulated theirs next.accumulated m g.limits.accumulated_width refl are (ap (λ (a : HearingValue). a.accumulated) is) in
    let made : Unites s l (fields_of after) = record {
      level = level;
      shown = record { superstep = refl; rows = refl; marks = refl; tallies = refl; sums = refl };
      heard = ap (λ (a : HearingValue). a.heard) is;
      change = ap (λ (a : HearingValue). a.change) is;
      accumulated = both.rows;
      early = λ i q. inl (kept i q ∙ ap (λ e. either (early_at s.early i q) (early_at e i q)) m.early);
      table = table s.part.plan.parts m.mine.early.table;
    } in
    absorbed after s l v u g.keeps.view_is g.other_is
    (unites_state s l (fields_of after) m.mine m.theirs made m.plan m.number refl)
    g.limits.width both.width
    (touched_from s.part.plan.log2m (length s.rows) s.rows next.accumulated.rows next.touched m.mine.rows (all_on s.part.plan.log2m s.rows s.accumulated next.accumulated.rows m.mine.rows m.mine.accumulated both.rise) refl
    (ap (λ (a : HearingValue). a.touched) is ∙ ap (λ (a : HearingValue). differences s.rows a.accumulated.rows (length s.rows)) (sym is)))
    (none_spare r g.limits g.keeps.kept.count) g.room
    (absorbs_level s l (fields_of after) m.mine m.theirs made refl)

-- ---- once the accumulators are kept again

pub record TookIn (k l new : StageValue) : Type 0 where
  pub taken : TakesIn k.state l.state new.state
  pub goes_on : CanGoOn new

-- it can take over then
pub can_take_over : (k now l : StageValue) (shared : List (List (Option BatchValue))) (targets : List (List ℕ)) → now.state ≡ k.state → IsWhole now → CanTakeIn k l shared targets → CanTakeOver now l shared targets
can_take_over k now l shared targets same whole can = record {
  two = subst (λ (v : State). CanAbsorb v l.state shared) (sym same) can.two;
  whole = whole;
  index = can.index ∙ ap (λ (v : State). targets_of v.part) (sym same);
}

pub took_in : (k now l new : StageValue) → now.state ≡ k.state → IsState now.state → IsState l.state → TakesOver now l new → TookIn k l new
took_in k now l new same mine theirs over = record {
  taken = record {
    absorbs = subst (λ (v : State). Absorbs v l.state new.state) same over.absorbs;
    mine = subst (λ (v : State). IsState v) same mine;
    theirs = theirs;
  };
  goes_on = record { kept = inl (omega (arith, over.whole.kept, ap length over.whole.spare)); room = over.whole.room };
}
