-- A replica whose rows and accumulators have changed places in a walk: these are stale then, or are taken back at once.
use Rattle.std.proofs.Common.{◌≡◌, ℕ, ◌+◌, Bool, true, false, List, length, replicate, refl, ap, sym, ◌∙◌, subst, arith, inl, inr}
use Rattle.replica.proofs.Names.{None, Option, PartValue, arc_value, cases_lt, BatchValue, Measure, PlanValue, State, Table, early_at}
use Rattle.registers.proofs.TableLemmas.{same_table}
use Rattle.replica.specs.declared.stage.Stage.TheInside as stage
use Rattle.replica.specs.Ahead.{ComesNearer}
use Rattle.replica.specs.Change.{Advances}
use Rattle.replica.specs.Hearing.{HearingValue, HearsEarly, IsQuiet, IsSpare, IsStale, KeepsNone, SaysSame, TakesBack, caught_up}
use Rattle.replica.specs.Seen.{HasIndex, IsState, state_of}
use Rattle.replica.specs.Tables.{HearsOwn, NextTables, TablesValue}
use Rattle.replica.proofs.AheadLemmas.{no_source}
use Rattle.replica.proofs.ChangeLemmas.Advance.{same_early}
use Rattle.replica.proofs.HearingLemmas.Accumulator.{fields_of, said_same}
use Rattle.replica.proofs.HearingLemmas.Hearing.{all_kept, all_of, none_kept, silent}
use Rattle.replica.proofs.TablesLemmas.{Advanced, Goes, advanced, can_hear_next}

-- what is lent, and nothing heard where it was
pub record Bare (rows : Table) (a : HearingValue) : Type 0 where
  pub none : KeepsNone a
  pub heard : a.heard ≡ replicate 64 false
  pub change : a.change ≡ false
  pub width : a.accumulated.width ≡ rows.width

-- rows are as wide as before
pub as_wide : {part : PartValue} {targets : List (List ℕ)} {m : Measure} {t : ℕ} {a b : TablesValue} {h own g : HearingValue} {weights : List ℕ} → HearsOwn part targets a h own → NextTables m t a b own g weights → a.rows.width ≡ b.rows.width
as_wide {part} {targets} {m} {t} {a} {b} {h} {own} {g} {weights} heard step = heard.ahead.width ∙ sym (ap (λ (t : Table). t.width) step.rows)

-- ---- there are other partitions: stale accumulators are taken back at once

pub can_take_back : (rows : Table) (marks : List Bool) (a spare : HearingValue) → Bare rows a → IsStale rows marks spare → IsSpare rows marks a spare
can_take_back rows marks a spare bare stale = record {
  width = bare.width;
  spare_width = stale.differ.width;
  kept = inr bare.none;
  beside = inr (bare.none, stale);
}

-- then nothing is heard beside the rows
pub quiet_again : (rows : Table) (marks : List Bool) (a spare b left : HearingValue) → Bare rows a → IsStale rows marks spare → TakesBack rows a spare b left → IsQuiet rows b
quiet_again rows marks a spare b left bare stale back =
    let none : length a.accumulated.rows ≡ 0 = ap length bare.none.0 in
    let count : length b.accumulated.rows ≡ length rows.rows = omega (arith, back.count, none, stale.differ.count) in
    record {
      heard = back.same.heard ∙ bare.heard;
      change = back.same.change ∙ bare.change;
      accumulated = same_table b.accumulated rows (back.same.width ∙ bare.width)
          (sym (all_kept rows.rows b.accumulated.rows count) ∙ back.same.accumulated ∙ none_kept rows.rows a.accumulated.rows none);
      kept = all_of rows.rows b back.same.kept count;
    }

pub next_quiet : {m : Measure} {t : ℕ} {a b : TablesValue} {h g : HearingValue} {weights : List ℕ} (f : HearingValue) → NextTables m t a b h g weights → IsQuiet b.rows f → NextTables m t a b h f weights
next_quiet {m} {t} {a} {b} {h} {g} {weights} f step quiet = record {
  rows = step.rows;
  marks = step.marks;
  tallies = step.tallies;
  sums = step.sums;
  gains = step.gains;
  room = step.room;
  quiet = quiet;
  weights = step.weights;
}

-- ---- there is no other one: nothing is told, and they stay stale

none_told : (v : State) → IsState v → v.part.plan.parts ≡ 1 → (q : ℕ) → early_at v.early 0 q ≡ None
none_told v s one q = elim (cases_lt q 1) [
  | inl lt ↦
      let own : v.part.number ≡ q = omega (arith, s.part.number, one, lt) in
      subst (λ k. early_at v.early 0 k ≡ None) own (s.early.own 0)
  | inr le ↦ no_source v.part.plan.parts v.early 0 q s.early.table (omega (arith, one, le))
]

pub walked_on : (r : stage.Inside) (v : State) (plan : PlanValue) (targets : List (List ℕ)) (m : Measure) (b : TablesValue) (own spare bare : HearingValue) (before weights : List ℕ) (left : List (List (Option BatchValue))) → Goes r v targets m before → plan ≡ (arc_value r.part).plan → plan.parts ≡ 1 →
    HearsOwn (arc_value r.part) targets r.tables r.hearing own → NextTables m r.superstep r.tables b own (caught_up true b.rows spare) weights → IsStale b.rows b.marks spare → Bare b.rows bare → ComesNearer 1 r.early left →
    Advanced (record r { superstep = r.superstep + 1; tables = b; hearing = bare; spare = spare; early = left }) v targets m weights
walked_on r v plan targets m b own spare bare before weights left g same one heard step stale is near =
    let quiet = caught_up true b.rows spare in
    let can = can_hear_next r v plan targets m b own quiet before weights g same heard step in
    let told : (q : ℕ) → early_at r.early 0 q ≡ None = none_told (fields_of r) g.keeps.state (ap (λ (p : PlanValue). p.parts) (sym same) ∙ one) in
    let hears : HearsEarly plan.log2m targets 0 r.early left quiet quiet = record {
      also = silent plan.log2m targets (λ q. early_at r.early 0 q) quiet can.ready told;
      kept = λ i q. near.kept i q ∙ same_early r.early (i + 1) (i + 1 + 0) q (omega arith);
      table = near.table;
    } in
    let next = advanced r v plan targets m b own quiet quiet before weights left g same heard step hears in
    let whole = record r { superstep = r.superstep + 1; tables = b; hearing = quiet; early = left } in
    let after = record r { superstep = r.superstep + 1; tables = b; hearing = bare; spare = spare; early = left } in
    let none : length bare.accumulated.rows ≡ 0 = ap length is.none.0 in
    let says : SaysSame b.rows.rows quiet bare = record {
      heard = is.heard ∙ sym step.quiet.heard;
      change = is.change ∙ sym step.quiet.change;
      width = is.width;
      accumulated = none_kept b.rows.rows bare.accumulated.rows none ∙ sym (all_kept b.rows.rows b.rows.rows refl);
      kept = inr is.none;
    } in
    let said : state_of after ≡ state_of whole = said_same whole bare says in
    record {
      limits = record {
        state = subst (λ (u : State). IsState u) (sym said) next.limits.state;
        width = next.limits.width;
        accumulated_width = is.width ∙ next.limits.width;
        spare_width = stale.differ.width ∙ next.limits.width;
        kept = inr is.none;
        spare = inr (is.none, stale);
      };
      advances = subst (λ (u : State). Advances v u) (sym said) next.advances;
      goes_on = record {
        goes_on = record { kept = inl (omega (arith, none, stale.differ.count)); room = next.goes_on.goes_on.room };
        index = subst (λ (u : State). HasIndex u targets) (sym said) next.goes_on.index;
        measure = next.goes_on.measure;
        weights = next.goes_on.weights;
      };
    }
