-- What is heard of a superstep, and the accumulators that are kept of it, beside the rows or none.
use Rattle.std.proofs.Common.{◌≡◌, ℕ, ◌+◌, ◌<◌, Bool, false, List, [], length, get_or, replicate, refl, ap, sym, ◌∙◌, subst, arith, ◌⊎◌}
use Rattle.replica.proofs.Names.{common_steps, None, Option, list_any, same_lists, get_or_default, get_or-map-range_with_len, false_from_ne_true, BatchValue, PlanValue, early_at, Table, list_any_at}
use Rattle.std.proofs.lemmas.Bool.{both_ways}
use Rattle.registers.specs.Differ.{DifferWhere}
use Rattle.registers.specs.Laws.{max_each-repeats}
use Rattle.replica.specs.Ahead.{ComesNearer}
use Rattle.replica.specs.Hearing.{CanHear, HeardState, HearingValue, Hears, HearsAlso, IsQuiet, HearsByIndex, hearing_of, KeepsAll, KeepsAllOrNone, SaysSame, accumulators_of, batch_by, hearing_kept}
use Rattle.replica.specs.Level.{differences}
use Rattle.replica.specs.Spread.{AreTouched, IsAbove}
use Rattle.replica.proofs.HearingLemmas.Hear.{batches_below, hears_as, hears_next, hears_same, if_some_as}
use Rattle.replica.proofs.LevelLemmas.Level.{length-differing}
use Rattle.replica.proofs.KeptLemmas.Rise.{same_registers}

-- ---- rows, and what is kept beside them

pub none_kept : (rows kept : List (List ℕ)) → length kept ≡ 0 → accumulators_of rows kept ≡ rows
unfolding accumulators_of
none_kept rows kept e = grind arith

pub some_kept : (rows kept : List (List ℕ)) → (length kept ≡ 0 → ⊥) → accumulators_of rows kept ≡ kept
unfolding accumulators_of
some_kept rows kept ne = grind arith

pub all_kept : (rows kept : List (List ℕ)) → length kept ≡ length rows → accumulators_of rows kept ≡ kept
unfolding accumulators_of
all_kept rows kept e = grind (arith, common_steps)

-- where there are as many as rows all are kept
pub all_of : (rows : List (List ℕ)) (a : HearingValue) → KeepsAllOrNone rows a → length a.accumulated.rows ≡ length rows → KeepsAll rows a
all_of rows a kept count = grind arith

-- all are kept, or the accumulators are the rows
pub accumulators_are : (rows : List (List ℕ)) (a : HearingValue) → KeepsAllOrNone rows a → (accumulators_of rows a.accumulated.rows ≡ a.accumulated.rows × KeepsAll rows a) ⊎ (accumulators_of rows a.accumulated.rows ≡ rows)
accumulators_are rows a kept = grind (arith, all_kept, none_kept)

-- the marks of those that differ
pub differing_marks : (rows accumulated : List (List ℕ)) (marks : List Bool) (n : ℕ) → ((i : ℕ) → i < length rows → IsAbove (get_or rows i []) (get_or accumulated i [])) → length accumulated ≡ length rows → n ≡ length rows → marks ≡ differences rows accumulated n → AreTouched rows accumulated marks
unfolding differences
differing_marks rows accumulated marks n above count size is =
    grind (arith, length-differing, get_or-map-range_with_len)

-- those of another one, with marks of their own
pub marked_from : (rows : List (List ℕ)) (a : HearingValue) (accumulated : List (List ℕ)) (marks : List Bool) (n : ℕ) → KeepsAllOrNone rows a → accumulated ≡ accumulators_of rows a.accumulated.rows → n ≡ length rows → marks ≡ differences rows accumulated n → AreTouched rows accumulated marks
marked_from rows a accumulated marks n kept same size is =
    grind (arith, common_steps, accumulators_are, differing_marks, max_each-repeats)

-- rows differ from what is accumulated for them at most where they are touched
pub differ_where : (rows accumulated : Table) (touched : List Bool) → rows.width ≡ accumulated.width → AreTouched rows.rows accumulated.rows touched →
    DifferWhere touched rows accumulated
differ_where rows accumulated touched width is = record {
  width = width;
  count = sym is.count;
  marked = is.marks;
  same = λ i lt unmarked. sym (same_registers (get_or accumulated.rows i []) (get_or rows.rows i []) (sym (is.differ i lt) ∙ unmarked));
}

-- ---- letting them go

no_mark : (marks : List Bool) (i : ℕ) → i < length marks → list_any (λ mark. mark) marks ≡ false → get_or marks i false ≡ false
no_mark marks i lt none = false_from_ne_true (get_or marks i false) (λ on. both_ways (list_any (λ mark. mark) marks) none (list_any_at (λ mark. mark) marks i false lt on))

-- where no row is marked, the accumulators are the rows
unmarked_same : (rows accumulated : List (List ℕ)) (touched : List Bool) → AreTouched rows accumulated touched → list_any (λ mark. mark) touched ≡ false → accumulated ≡ rows
unmarked_same rows accumulated touched are none =
    same_lists accumulated rows are.count
    (λ i d lt. get_or_default accumulated i d [] lt
    ∙ same_registers (get_or accumulated i []) (get_or rows i []) (sym (are.differ i (omega (arith, are.count))) ∙ no_mark touched i (omega (arith, are.count, are.marks)) none)
    ∙ sym (get_or_default rows i d [] (omega (arith, are.count))))

-- so it says the same without them
pub bare_same : (a b : HearingValue) (rows : List (List ℕ)) → list_any (λ mark. mark) a.touched ≡ false → KeepsAllOrNone rows a → b.heard ≡ a.heard → b.change ≡ a.change → b.accumulated ≡ record a.accumulated { rows = [] } → b.touched ≡ [] → SaysSame rows a b
bare_same a b rows none kept heard change accumulated touched =
    grind (arith, none_kept, all_kept, unmarked_same)

-- ---- hearing

-- where nothing is told, nothing more is heard
pub silent : (log2m : ℕ) (targets : List (List ℕ)) (told : ℕ → Option BatchValue) (a : HearingValue) → HearsByIndex log2m targets a → ((q : ℕ) → told q ≡ None) → HearsAlso log2m targets told a a
silent log2m targets told a ready none = record {
  hears = record {
    count = refl;
    sources = λ q. rw (none q) (grind arith);
    rise = record { count = refl; rises = λ i lt. record { row = ready.counters.row i lt; grew = λ k below. omega arith } };
    stands = λ j p t job index told is. is;
  };
  width = refl;
  touched = λ rows are. are;
}

-- one source more of those below a number
pub also_next : (log2m : ℕ) (targets : List (List ℕ)) (told : ℕ → Option BatchValue) (n : ℕ) (a b c : HearingValue) → HearsByIndex log2m targets a → HearsAlso log2m targets (batches_below told n) a b → HearsAlso log2m targets (batch_by n (told n)) b c →
    HearsAlso log2m targets (batches_below told (n + 1)) a c
also_next log2m targets told n a b c ready f g = record {
  hears = hears_next log2m targets told n (hearing_kept a) (hearing_kept b) (hearing_kept c) ready.counters f.hears g.hears;
  width = g.width ∙ f.width;
  touched = λ rows are. g.touched rows (f.touched rows are);
}

-- whoever hears what one tells hears another that tells the same
pub also_same : (log2m : ℕ) (targets : List (List ℕ)) (told other : ℕ → Option BatchValue) (a b : HearingValue) → ((q : ℕ) → told q ≡ other q) → HearsAlso log2m targets told a b → HearsAlso log2m targets other a b
also_same log2m targets told other a b same h = record { hears = hears_same log2m targets told other (hearing_kept a) (hearing_kept b) same h.hears; width = h.width; touched = h.touched }

-- batches that have come nearer can be heard as before
pub can_hear_later : (plan : PlanValue) (targets : List (List ℕ)) (n : ℕ) (early later : List (List (Option BatchValue))) (a : HearingValue) → CanHear plan targets early a → ComesNearer n early later → CanHear plan targets later a
can_hear_later plan targets n early later a can near = record {
  ready = can.ready;
  kept = record {
    table = near.table plan.parts can.kept.table;
    from = λ i q. if_some_as _ (early_at later i q) (early_at early (i + n) q) (near.kept i q) (can.kept.from (i + n) q);
  };
}

-- from equal plans, indexes and states, what is told is heard alike
pub hears_said : {m m' : ℕ} {targets targets' : List (List ℕ)} {told : ℕ → Option BatchValue} {heard heard' : List Bool} {change change' : Bool} {rows rows' : List (List ℕ)} {b : HeardState} → m ≡ m' → targets ≡ targets' → heard ≡ heard' → change ≡ change' → rows ≡ rows' →
    Hears m targets told (hearing_of heard change rows) b → Hears m' targets' told (hearing_of heard' change' rows') b
hears_said {m} {m'} {targets} {targets'} {told} {heard} {heard'} {change} {change'} {rows} {rows'} {b} p q r e s h =
    hears_as p q r s (subst (λ (f : Bool). Hears m targets told (hearing_of heard f rows) b) e h)

-- where nothing was heard before
pub hears_quiet : {m m' : ℕ} {targets targets' : List (List ℕ)} {told : ℕ → Option BatchValue} (rows : Table) (a b : HearingValue) → m ≡ m' → targets ≡ targets' → IsQuiet rows a → Hears m targets told (hearing_kept a) (hearing_kept b) →
    Hears m' targets' told (hearing_of (replicate 64 false) false rows.rows) (hearing_kept b)
hears_quiet {m} {m'} {targets} {targets'} {told} rows a b p q quiet h =
    hears_said p q quiet.heard quiet.change (ap (λ (t : Table). t.rows) quiet.accumulated) h
