-- All own rows that were walked over, and what is heard and stepped by that.
use Rattle.std.proofs.Common.{◌≡◌, ℕ, ◌+◌, ◌*◌, ◌<◌, ◌≤◌, Bool, true, false, List, [], length, get_or, refl, ap, ap₂, sym, ◌∙◌, arith, subst}
use Rattle.replica.proofs.Names.{estimate_with, get_or-map, get_or-map-range_with_len, IsPart, IsTrue, Measure, no_figures, PartValue, Table, TallyValue, take_all, weight_of}
use Rattle.ball_model.specs.Table.{pieces}
use Rattle.registers.proofs.TableLemmas.{length-pieces, same_table, with_all_cells}
use Rattle.registers.specs.Differ.{DifferWhere, room_for}
use Rattle.registers.specs.Joined.{AreSameShape}
use Rattle.registers.specs.Lending.{with_cells}
use Rattle.replica.specs.Hearing.{HearingValue, fresh_table}
use Rattle.replica.specs.Heard.{SpreadsOwn}
use Rattle.replica.specs.Index.{targets_of}
use Rattle.replica.specs.Kept.{AllRise}
use Rattle.replica.specs.Level.{next_tallies, next_tally}
use Rattle.replica.specs.Pull.{PullsRows}
use Rattle.replica.specs.Relay.{DifferAt}
use Rattle.replica.specs.Spread.{AreTouched}
use Rattle.replica.specs.Stepping.{StepsBlock}
use Rattle.replica.specs.Tables.{AreAhead, CanGoFurther, CanHearOwn, CanStep, HearsOwn, TablesValue}
use Rattle.replica.specs.Walk.{CanWalk, CanWalkBlock, Walks, WalksBlock, fresh_rows}
use Rattle.replica.proofs.KeptLemmas.Rise.{all_on, own_rises, same_registers}
use Rattle.replica.proofs.LevelLemmas.Next.{last_at, lasts_count}
use Rattle.replica.proofs.LevelLemmas.Weight.{weights_count}
use Rattle.replica.proofs.PullLemmas.{own_pulled}
use Rattle.replica.proofs.SteppingLemmas.{all_are_stepped}
use Rattle.replica.proofs.TalliesLemmas.{length-next_tallies, still}

-- ---- all own rows are one block

-- accumulators that may be stale, and are walked over
pub record WalksOver (m : Measure) (t : ℕ) (part : PartValue) (stale : Bool) (own : Table) (marks : List Bool) (accumulated : Table) (touched : List Bool) (weights : List ℕ) (tallies : List TallyValue) : Type 0 where
  pub can : CanWalk m t part own marks (fresh_table stale own accumulated) touched weights tallies
  pub shape : AreSameShape accumulated own
  pub differ : IsTrue stale → DifferWhere marks accumulated own

pub walks_over : (m : Measure) (t : ℕ) (part : PartValue) (stale : Bool) (own : Table) (marks : List Bool) (accumulated : Table) (touched : List Bool) (weights : List ℕ) (tallies : List TallyValue) → CanWalk m t part own marks (fresh_table stale own accumulated) touched weights tallies →
    (IsTrue stale → DifferWhere marks accumulated own) → WalksOver m t part stale own marks accumulated touched weights tallies
walks_over m t part true own marks accumulated touched weights tallies can differ =
    record { can = can; shape = record { width = (differ refl).width; count = (differ refl).count }; differ = differ }
walks_over m t part false own marks accumulated touched weights tallies can differ =
    record { can = can; shape = record { width = can.pull.width; count = can.pull.count ∙ sym can.pull.can.count }; differ = differ }

-- what is fresh of all rows
fresh_all : (stale : Bool) (own accumulated : Table) (n : ℕ) (cells : List ℕ) → length own.rows ≡ n → pieces own.width n cells ≡ accumulated.rows → fresh_rows stale own 0 n cells ≡ (fresh_table stale own accumulated).rows
fresh_all true own accumulated n cells count rows = take_all n own.rows (omega (arith, count))
fresh_all false own accumulated n cells count rows = rows

pub can_walk_all : (m : Measure) (t : ℕ) (part : PartValue) (stale : Bool) (own : Table) (marks : List Bool) (accumulated : Table) (cells : List ℕ) (touched : List Bool) (weights : List ℕ) (tallies : List TallyValue) → WalksOver m t part stale own marks accumulated touched weights tallies →
    pieces accumulated.width (length accumulated.rows) cells ≡ accumulated.rows → length cells ≡ room_for accumulated → CanWalkBlock m t part stale own marks 0 cells touched weights tallies
can_walk_all m t part stale own marks accumulated cells touched weights tallies over shown long =
    let can = over.can in
    let same : length own.rows ≡ length touched = can.pull.can.count ∙ sym can.pull.each in
    let count : length touched ≡ length accumulated.rows = sym same ∙ sym over.shape.count in
    let rows : pieces own.width (length touched) cells ≡ accumulated.rows = ap₂ (λ w n. pieces w n cells) (sym over.shape.width) count ∙ shown in
    let fresh = fresh_all stale own accumulated (length touched) cells same rows in
    let size : length cells ≡ length touched * own.width = long ∙ ap₂ (λ n w. n * w) (sym count) over.shape.width in
    record {
      low = can.low;
      high = can.high;
      counters = can.counters;
      pull = record { can = can.pull.can; inside = omega (arith, can.pull.each); filled = size };
      each = weights_count own.rows weights can.weights_are ∙ same;
      all = lasts_count m own.rows tallies can.lasts ∙ same;
      each_is = λ k lt.
          let at : 0 + k ≡ k = omega arith in
          rw (at, rows) (record {
            inside = omega (arith, same, lt);
            each = can.pull.can.each ∙ sym can.pull.can.count;
            same = λ on off. (over.differ on).same k (omega (arith, count, lt)) off;
          });
      ahead = λ k lt.
          let inside : k < length own.rows = omega (arith, same, lt) in
          let at : 0 + k ≡ k = omega arith in
          rw (at, fresh) (record {
            rise = can.rise.rises k inside;
            above = can.kept.above k inside;
            differ = can.kept.differ k inside;
            weight = ap (λ (l : List ℕ). get_or l k 0) can.weights_are ∙ get_or-map weight_of own.rows k [] 0 inside;
            last_is = last_at m own.rows tallies k can.lasts inside;
          });
    }

pub all_walked : (m : Measure) (t : ℕ) (part : PartValue) (stale : Bool) (own : Table) (marks : List Bool) (accumulated : Table) (cells last : List ℕ) (before after : List Bool) (weights moved : List ℕ) (tallies figures : List TallyValue) (gained : ℕ) → IsPart part → WalksOver m t part stale own marks accumulated before weights tallies →
    pieces accumulated.width (length accumulated.rows) cells ≡ accumulated.rows → length last ≡ room_for accumulated → length after ≡ length before → length moved ≡ length weights →
    WalksBlock m t part stale own marks 0 cells last before after tallies figures moved gained → Walks m t part own marks (fresh_table stale own accumulated) (with_cells accumulated last) before after tallies figures moved gained
all_walked m t part stale own marks accumulated cells last before after weights moved tallies figures gained is over shown long still wide walks =
    let can = over.can in
    let rows : length own.rows ≡ length before = can.pull.can.count ∙ sym can.pull.each in
    let count : length before ≡ length accumulated.rows = sym rows ∙ sym over.shape.count in
    let new = with_cells accumulated last in
    let olds : pieces own.width (length before) cells ≡ accumulated.rows = ap₂ (λ w n. pieces w n cells) (sym over.shape.width) count ∙ shown in
    let fresh = fresh_all stale own accumulated (length before) cells rows olds in
    let news : pieces own.width (length before) last ≡ new.rows = ap₂ (λ w n. pieces w n last) (sym over.shape.width) count ∙ sym (with_all_cells accumulated last long) in
    let same : record { width = own.width; rows = pieces own.width (length before) last } ≡ new = same_table (record { width = own.width; rows = pieces own.width (length before) last }) new (sym over.shape.width) news in
    let size : length new.rows ≡ length before = ap length (sym news) ∙ length-pieces own.width (length before) last in
    let pulls : PullsRows part own.rows marks 0 (fresh_table stale own accumulated).rows new.rows before after = subst (λ l. PullsRows part own.rows marks 0 (fresh_table stale own accumulated).rows l before after) news (subst (λ l. PullsRows part own.rows marks 0 l (pieces own.width (length before) last) before after) fresh walks.pulls) in
    record {
      spreads = own_pulled part own marks (fresh_table stale own accumulated) new before after is can.pull (over.shape.width ∙ sym can.pull.width) still pulls;
      steps = all_are_stepped m t new new tallies figures moved gained (lasts_count m own.rows tallies can.lasts ∙ rows ∙ sym size) (wide ∙ weights_count own.rows weights can.weights_are ∙ rows ∙ sym size) refl
          (subst (λ (table : Table). StepsBlock m t table 0 tallies figures moved gained) same walks.steps);
    }

-- figures of rows that are not marked are as they were
pub walked_differ : (m : Measure) (t : ℕ) (part : PartValue) (own : Table) (marks : List Bool) (table new : Table) (before after : List Bool) (weights moved : List ℕ) (tallies figures : List TallyValue) (gained : ℕ) → CanWalk m t part own marks table before weights tallies →
    Walks m t part own marks table new before after tallies figures moved gained → DifferAt after tallies figures
unfolding next_tallies
walked_differ m t part own marks table new before after weights moved tallies figures gained can walks =
    let rows = own.rows in
    let are : AreTouched rows new.rows after = walks.spreads.touched rows can.kept in
    let count : length tallies ≡ length rows = lasts_count m rows tallies can.lasts in
    let F : ℕ → TallyValue = λ i. next_tally t (get_or tallies i no_figures) (estimate_with m (get_or new.rows i [])) in
    record {
      count = count ∙ sym are.count ∙ sym (length-next_tallies m t new.rows tallies (length new.rows)) ∙ ap length (sym walks.steps.tallies);
      marked = are.marks ∙ sym count;
      same = λ i lt off.
          let inside : i < length rows = omega (arith, count, lt) in
          let stays : get_or new.rows i [] ≡ get_or rows i [] = same_registers (get_or new.rows i []) (get_or rows i []) (sym (are.differ i inside) ∙ off) in
          let last : (get_or tallies i no_figures).last ≡ estimate_with m (get_or new.rows i []) = last_at m rows tallies i can.lasts inside ∙ ap (estimate_with m) (sym stays) in
          sym (still t (estimate_with m (get_or new.rows i [])) (get_or tallies i no_figures) can.low last)
          ∙ sym (get_or-map-range_with_len F 0 (length new.rows) i i no_figures (omega (arith, are.count, inside)) (omega arith))
          ∙ ap (λ (l : List TallyValue). get_or l i no_figures) (sym walks.steps.tallies);
    }

-- ---- what is heard by it

-- rows that are spread are heard, as marks say
pub own_heard : (part : PartValue) (targets : List (List ℕ)) (a : TablesValue) (h g : HearingValue) → CanHearOwn part targets a h → SpreadsOwn targets part a.rows.rows a.marks h.accumulated g.accumulated h.touched g.touched → g.heard ≡ h.heard → g.change ≡ h.change → HearsOwn part targets a h g
own_heard part targets a h g can spreads heard change =
    let rows = a.rows.rows in
    let b = part.plan.log2m in
    let size : length a.marks ≤ length rows = omega (arith, can.marks, can.count) in
    let up : AllRise b h.accumulated.rows g.accumulated.rows = own_rises b part.plan.parts part.number (length a.marks) targets rows h.accumulated.rows g.accumulated.rows a.marks can.ahead.counters can.ahead.rise size (ap (λ (t : Table). t.rows) spreads.rows) in
    record {
      ahead = record {
        counters = can.ahead.counters;
        rise = all_on b rows h.accumulated.rows g.accumulated.rows can.ahead.counters can.ahead.rise up;
        width = can.ahead.width ∙ sym (ap (λ (t : Table). t.width) spreads.rows);
        kept = spreads.touched rows can.ahead.kept;
      };
      stands = spreads.stands;
      heard = heard;
      change = change;
    }

-- the walk can be done where tables go further
pub can_walk : {part : PartValue} {m : Measure} {t : ℕ} {a : TablesValue} {h : HearingValue} {own : List ℕ} → CanGoFurther part m t a h own → CanWalk m (t + 1) part a.rows a.marks h.accumulated h.touched own a.tallies
can_walk {part} {m} {t} {a} {h} {own} can =
    let ahead = can.step.ahead in
    record {
      low = omega arith;
      high = omega (arith, can.step.to);
      pull = record {
        can = record { count = can.hear.count; each = can.hear.marks };
        width = sym ahead.width;
        count = ahead.kept.count ∙ can.hear.count;
        each = ahead.kept.marks ∙ can.hear.count;
      };
      counters = ahead.counters;
      rise = ahead.rise;
      kept = ahead.kept;
      weights_are = can.step.weights;
      lasts = can.step.lasts;
    }

-- once it is heard the tables can go on
pub can_step_then : {part : PartValue} {m : Measure} {t : ℕ} {a : TablesValue} {h : HearingValue} {own : List ℕ} (g : HearingValue) → CanGoFurther part m t a h own → HearsOwn part (targets_of part) a h g → CanStep m t a g own
can_step_then {part} {m} {t} {a} {h} {own} g can heard = record {
  to = can.step.to;
  few = can.step.few;
  ahead = subst (λ b. AreAhead b a.rows g) (sym can.log2m) heard.ahead;
  lasts = can.step.lasts;
  sums = can.step.sums;
  room = can.step.room;
  weights = can.step.weights;
}
