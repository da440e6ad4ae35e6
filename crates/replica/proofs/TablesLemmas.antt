-- A replica's tables, and what is heard beside them, one superstep further.
use Rattle.std.proofs.Common.{◌≡◌, ℕ, ◌+◌, ◌^◌, ◌<◌, ◌≤◌, ◌++◌, ◌∷◌, List, [], length, refl, ap, ap₂, sym, ◌∙◌, subst, arith, inl}
use Rattle.replica.proofs.Names.{Option, PartValue, arc_value, sum_by, BatchValue, TallyValue, Measure, PlanValue, measure_of, State, is_heard, Table}
use Rattle.ball_model.specs.declared.names.Verdict.TheVariants as verdict
use Rattle.replica.specs.declared.stage.Stage.TheInside as stage
use Rattle.replica.specs.Ahead.{IsTable}
use Rattle.replica.specs.Change.{Advances}
use Rattle.replica.specs.Hearing.{CanHear, HearingValue, HearsEarly}
use Rattle.replica.specs.Index.{targets_of}
use Rattle.replica.specs.Kept.{AreEarly, AreOfPlan}
use Rattle.replica.specs.Level.{differences, level_verdict, total_of, weights_of}
use Rattle.replica.specs.Stage.{CanGoOn, StageValue}
use Rattle.replica.specs.Seen.{HasIndex, HoldsTogether, IsStage, stage_of, state_of}
use Rattle.replica.specs.Tables.{AreAhead, CanBeStepped, CanGoFurther, CanHearOwn, CanStep, HearsOwn, NextTables, TablesValue}
use Rattle.replica.proofs.HearingLemmas.Accumulator.{Keeps, NoneSpare, Whole, can_go_on, fields_are, fields_of, going_keeps, kept_stage, none_spare}
use Rattle.replica.proofs.ChangeLemmas.Advance.{same_early}
use Rattle.replica.proofs.HearingLemmas.Hearing.{differ_where, hears_quiet}
use Rattle.replica.proofs.KeptLemmas.Rise.{rise_counters}
use Rattle.replica.proofs.LevelLemmas.Level.{differing_from}
use Rattle.replica.proofs.LevelLemmas.Next.{lasts_count, next_lasts, stepped_as}
use Rattle.replica.proofs.SeenLemmas.Read.{few}
use Rattle.replica.proofs.SeenLemmas.State.{inside_of, ready_at, ready_quiet, state_next}

-- ---- batches that are kept

-- those of a replica are of its plan
pub of_plan : (plan : PlanValue) (p t : ℕ) (early : List (List (Option BatchValue))) → AreEarly plan p t early → AreOfPlan plan early
of_plan plan p t early e = grind arith

-- two tables are of one number of sources
pub tables_alike : (n : ℕ) (a b : List (List (Option BatchValue))) → IsTable n a → IsTable n b → (parts : ℕ) → IsTable parts a → IsTable parts b
tables_alike n a b mine other parts is = grind arith

-- ---- what a replica can do

pub can_hear : (r : stage.Inside) (v : State) (plan : PlanValue) (targets : List (List ℕ)) (early : List (List (Option BatchValue))) → IsStage r → Keeps r v → plan ≡ (arc_value r.part).plan → targets ≡ targets_of (arc_value r.part) → AreOfPlan (arc_value r.part).plan early → CanHear plan targets early r.hearing
can_hear r v plan targets early ok k own index kept = rw own (record {
  ready = ready_at (fields_of r) targets r.hearing k.state index refl refl ok.accumulated_width;
  kept = kept;
})

-- figures, where the tables can go on to the accumulators
pub can_be_stepped : {m : Measure} {t : ℕ} {a : TablesValue} {h : HearingValue} {own : List ℕ} → CanStep m t a h own → CanBeStepped m (t + 1) a.rows h.accumulated h.touched own a.tallies
can_be_stepped {m} {t} {a} {h} {own} can =
    let rows = a.rows.rows in
    let new = h.accumulated.rows in
    let lasts = next_lasts m rows new a.tallies (length rows) can.ahead.counters can.ahead.rise can.lasts refl in
    record {
      from = omega arith;
      to = omega (arith, can.to);
      rows = can.ahead.counters;
      ahead = rise_counters m.log2m rows new can.ahead.rise;
      differ = differ_where a.rows h.accumulated h.touched can.ahead.width can.ahead.kept;
      weights = can.weights;
      count = lasts_count m rows a.tallies can.lasts ∙ sym can.ahead.rise.count;
      lasts = rw (differing_from rows new h.touched (length rows) can.ahead.kept refl) lasts;
    }

-- ---- one superstep more

-- what is known where it goes on
pub record Goes (r : stage.Inside) (v : State) (targets : List (List ℕ)) (m : Measure) (own : List ℕ) : Type 0 where
  pub keeps : Keeps r v
  pub limits : IsStage r
  pub index : targets ≡ targets_of (arc_value r.part)
  pub measure : m ≡ measure_of (arc_value r.part).plan
  pub below : r.superstep < (arc_value r.part).plan.limit
  pub weights : own ≡ weights_of r.tables.rows.rows
  pub room : (arc_value r.part).plan.limit + 1 ≤ r.tables.room

pub goes : (r : stage.Inside) (k : StageValue) (targets : List (List ℕ)) (m : Measure) (weights : List ℕ) → IsStage r → NoneSpare r → HoldsTogether k targets m weights → stage_of r ≡ k → level_verdict k.state ≡ verdict.GoOn → Goes r k.state targets m weights
goes r k targets m weights ok spare can is going = grind (arith, going_keeps)

-- so it does once stale accumulators are taken back
pub goes_whole : (r : stage.Inside) (k : StageValue) (targets : List (List ℕ)) (m : Measure) (weights : List ℕ) → Whole r k.state (CanGoOn k) → HoldsTogether k targets m weights → level_verdict k.state ≡ verdict.GoOn → Goes r k.state targets m weights
goes_whole r k targets m weights whole can going =
    let held : HoldsTogether (stage_of r) targets m weights = record {
      goes_on = whole.goes_on can.goes_on;
      index = subst (λ (u : State). HasIndex u targets) (sym whole.same) can.index;
      measure = can.measure ∙ ap (λ (u : State). measure_of u.part.plan) (sym whole.same);
      weights = can.weights ∙ ap (λ (u : State). weights_of u.rows) (sym whole.same);
    } in
    subst (λ (u : State). Goes r u targets m weights) whole.same (goes r (stage_of r) targets m weights whole.limits whole.spare held refl (ap level_verdict whole.same ∙ going))

pub can_hear_own : (r : stage.Inside) (v : State) (targets : List (List ℕ)) (m : Measure) (weights : List ℕ) → Goes r v targets m weights → CanHearOwn (arc_value r.part) targets r.tables r.hearing
can_hear_own r v targets m weights g = search (arith, inside_of)

pub can_step : (r : stage.Inside) (v : State) (targets : List (List ℕ)) (m : Measure) (own : HearingValue) (weights : List ℕ) → Goes r v targets m weights → AreAhead (arc_value r.part).plan.log2m r.tables.rows own → CanStep m r.superstep r.tables own weights
can_step r v targets m own weights g ahead =
    grind (arith, few (fields_of r) g.keeps.state)

-- both at once
pub can_go_further : (r : stage.Inside) (v : State) (targets : List (List ℕ)) (m : Measure) (weights : List ℕ) → Goes r v targets m weights → CanGoFurther (arc_value r.part) m r.superstep r.tables r.hearing weights
can_go_further r v targets m weights g =
    let hear = can_hear_own r v targets m weights g in
    record {
      hear = rw (← g.index) hear;
      step = can_step r v targets m r.hearing weights g hear.ahead;
      log2m = ap (λ (a : Measure). a.log2m) g.measure;
    }

-- and what it is then
pub record Advanced (r : stage.Inside) (v : State) (targets : List (List ℕ)) (m : Measure) (weights : List ℕ) : Type 0 where
  pub limits : IsStage r
  pub advances : Advances v (state_of r)
  pub goes_on : HoldsTogether (stage_of r) targets m weights

-- what is heard by the index of the part is heard by the index
pub by_index : {part : PartValue} {targets : List (List ℕ)} {a : TablesValue} {h own : HearingValue} → targets ≡ targets_of part → HearsOwn part (targets_of part) a h own → HearsOwn part targets a h own
by_index {part} {targets} {a} {h} {own} is heard = subst (λ (l : List (List ℕ)). HearsOwn part l a h own) (sym is) heard

-- before the batches of the new superstep are heard
pub can_hear_next : (r : stage.Inside) (v : State) (plan : PlanValue) (targets : List (List ℕ)) (m : Measure) (b : TablesValue) (own quiet : HearingValue) (before weights : List ℕ) → Goes r v targets m before → plan ≡ (arc_value r.part).plan →
    HearsOwn (arc_value r.part) targets r.tables r.hearing own → NextTables m r.superstep r.tables b own quiet weights → CanHear plan targets r.early quiet
can_hear_next r v plan targets m b own quiet before weights g same heard step =
    let s = fields_of r in
    rw same (record {
      ready = ready_quiet s targets b.rows quiet g.keeps.state g.index step.quiet (rw step.rows heard.ahead.rise) (ap (λ (t : Table). t.width) step.rows ∙ sym heard.ahead.width ∙ g.limits.width);
      kept = of_plan s.part.plan s.part.number s.superstep s.early g.keeps.state.early;
    })

pub advanced : (r : stage.Inside) (v : State) (plan : PlanValue) (targets : List (List ℕ)) (m : Measure) (b : TablesValue) (own quiet next : HearingValue) (before weights : List ℕ) (left : List (List (Option BatchValue))) → Goes r v targets m before → plan ≡ (arc_value r.part).plan →
    HearsOwn (arc_value r.part) targets r.tables r.hearing own → NextTables m r.superstep r.tables b own quiet weights → HearsEarly plan.log2m targets 0 r.early left quiet next →
    Advanced (record r { superstep = r.superstep + 1; tables = b; hearing = next; early = left }) v targets m weights
advanced r v plan targets m b own quiet next before weights left g same heard step hears =
    let s = fields_of r in
    let k = g.keeps in
    let after = record r { superstep = r.superstep + 1; tables = b; hearing = next; early = left } in
    let is : b.rows.rows ≡ own.accumulated.rows = ap (λ (t : Table). t.rows) step.rows in
    let width : b.rows.width ≡ 2 ^ s.part.plan.log2m = ap (λ (t : Table). t.width) step.rows ∙ sym heard.ahead.width ∙ g.limits.width in
    let made : Advances s (fields_of after) = record {
      part = refl;
      superstep = refl;
      rise = rw is heard.ahead.rise;
      gathers = λ j p t h. is ∙ heard.stands j p t (λ z. is_heard j.plan.parts s.heard z) h.job h.partition h.part g.index h.rows h.marks h.accumulated;
      marks = step.marks ∙ ap₂ (differences s.rows) (sym is) k.state.count;
      tallies = step.tallies ∙ stepped_as g.measure refl (sym is) refl k.state.count;
      sums = step.sums ∙ ap₂ (λ n l. s.sums ++ total_of n l ∷ []) g.measure (sym is);
      gains = subst (λ n. sum_by (λ (t : TallyValue). t.last) s.tallies ≤ n) (ap₂ total_of g.measure (sym is)) step.gains;
      hears = hears_quiet b.rows quiet next (ap (λ (a : PlanValue). a.log2m) same) g.index step.quiet hears.also.hears;
      early = λ i q. let at : i + 1 + 0 ≡ i + 1 = omega arith in hears.kept i q ∙ same_early r.early (i + 1 + 0) (i + 1) q at;
      table = hears.table s.part.plan.parts k.state.early.table;
    } in
    let whole : fields_of after ≡ state_of after = fields_are after made.hears.rise.count in
    let spare : NoneSpare r = none_spare r g.limits k.kept.count in
    record {
      limits = kept_stage after (state_next s (fields_of after) k.state made g.below) width
          (hears.also.width ∙ ap (λ (t : Table). t.width) step.quiet.accumulated ∙ width)
          (hears.also.touched b.rows.rows step.quiet.kept) spare;
      advances = subst (λ (u : State). Advances u (state_of after)) k.view_is (subst (λ (w : State). Advances s w) whole made);
      goes_on = record {
        goes_on = can_go_on after spare made.hears.rise.count (rw step.room g.room);
        index = inl g.index;
        measure = g.measure;
        weights = step.weights;
      };
    }
