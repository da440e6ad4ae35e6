-- The rows as they were before they went on.
use Rattle.std.proofs.Common.{◌≡◌, ℕ, ◌<◌, Bool, List, [], length, get_or, refl, ap, arith, sym, subst, Option, None, Some}
use Rattle.replica.proofs.Names.{IfSome, Measure, TallyValue, Table, get_or-map, no_figures}
use Rattle.registers.specs.Differ.{DifferWhere}
use Rattle.replica.specs.Relay.{IsRelay, Marked}
use Rattle.replica.specs.Tables.{CanBeStepped, CanStepMarked, CanStepRow, rows_before}

-- they are what was shown, whether that was handed out or stayed
pub before_is : (before : Option (Marked Table)) (rows shown : Table) (marks : List Bool) → IfSome before (λ b. b ≡ record { table = shown; stale = marks }) → (before ≡ None → rows ≡ shown) → rows_before rows before ≡ shown
unfolding rows_before
before_is None rows shown marks is stays = stays refl
before_is (Some b) rows shown marks is stays = ap (λ (m : Marked Table). m.table) is

-- what was handed out may be left behind the rows ahead
pub may_be_left : (before : Option (Marked Table)) (shown ahead : Table) (marks : List Bool) → IfSome before (λ b. b ≡ record { table = shown; stale = marks }) → DifferWhere marks shown ahead → IsRelay DifferWhere ahead before
may_be_left None shown ahead marks is differ = search
may_be_left (Some b) shown ahead marks is differ = subst (λ (m : Marked Table). DifferWhere m.stale m.table ahead) (sym is) differ

-- a row that was not put yet is what it was
pub before_at : (before : Option (Marked Table)) (rows first : Table) (i : ℕ) → get_or rows.rows i [] ≡ get_or first.rows i [] → get_or (rows_before rows before).rows i [] ≡ get_or (rows_before first before).rows i []
unfolding rows_before
before_at None rows first i same = same
before_at (Some b) rows first i same = refl

-- there are as many
pub before_count : (before : Option (Marked Table)) (rows first : Table) → length rows.rows ≡ length first.rows → length (rows_before rows before).rows ≡ length (rows_before first before).rows
unfolding rows_before
before_count None rows first same = same
before_count (Some b) rows first same = refl

-- they can be stepped row by row, whether they were handed out or stayed
pub step_by_row : {m : Measure} {t : ℕ} {shown new : Table} {marks : List Bool} {own : List ℕ} {tallies : List TallyValue} (before : Option (Marked Table)) (rows : Table) → CanBeStepped m t shown new marks own tallies → IfSome before (λ b. b ≡ record { table = shown; stale = marks }) → (before ≡ None → rows ≡ shown) →
    DifferWhere marks rows new → CanStepMarked m t rows before new marks own tallies
step_by_row before rows can is stays differ = record { differ = differ; can = rw (before_is before rows _ _ is stays) can }

-- and so can each of them
pub step_row_at : {m : Measure} {t weight last : ℕ} {old new : Table} {marks : List Bool} {own row ahead : List ℕ} {tallies : List TallyValue} (i : ℕ) → CanBeStepped m t old new marks own tallies → i < length tallies → row ≡ get_or old.rows i [] → ahead ≡ get_or new.rows i [] → weight ≡ get_or own i 0 →
    last ≡ (get_or tallies i no_figures).last → CanStepRow m t row ahead weight last
step_row_at i can lt row next weight last =
    rw (row, next, weight, last) (grind (arith, get_or-map, can.count, can.differ.count, can.weights))
