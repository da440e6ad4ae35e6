use Rattle.std.proofs.Common.{◌≡◌, ◌+◌, Bool, true, ◌∷◌, ◌++◌, [], length, refl, ap, sym, ◌∙◌, arith, subst}
use Rattle.replica.proofs.Names.{sum_by, with_items, with_items_is, TallyValue, Table}
use Rattle.replica.specs.Hearing.{caught_up, fresh_table}
use Rattle.replica.specs.Index.{targets_of}
use Rattle.replica.specs.Level.{next_tallies, total_of, weights_of}
use Rattle.replica.specs.Seen.{tables_of}
use Rattle.replica.specs.Tables.{CanGoFurther, CanStep, GoFurther, HearsOwn, TablesValue}
use Rattle.replica.specs.Walk.{Walks}
use Rattle.replica.proofs.HearingLemmas.Hearing.{differ_where}
use Rattle.replica.proofs.LevelLemmas.Level.{differing_from}
use Rattle.replica.proofs.LevelLemmas.Next.{total_small}
use Rattle.replica.proofs.KeptLemmas.Rise.{rise_counters}
use Rattle.replica.proofs.SeenLemmas.State.{next_at}
use Rattle.replica.proofs.TalliesLemmas.{length-next_tallies}
use Rattle.replica.proofs.WalkedLemmas.{can_step_then, own_heard}
use Rattle.replica.proofs.tables.Tables.walk.Goals as goal
use Rattle.replica.proofs.tables.Tables.walk.Goals.{After-get-rows, After-hear_and_step-gain}

-- they can go further, as the fields stand
can : (g : _) (c : After-get-rows g) → CanGoFurther c.args.part.now c.args.closing.now.estimator.now c.args.closing.now.t (tables_of c.self.inside) (caught_up c.args.stale c.self.inside.rows c.args.hearing.now) c.args.weights.now
can g c = subst (λ (a : TablesValue). CanGoFurther c.args.part.now c.args.closing.now.estimator.now c.args.closing.now.t a (caught_up c.args.stale a.rows c.args.hearing.now) c.args.weights.now) (sym c.self.view_is) c.requires.can

-- what the walk has done, as the fields stood
walks : (g : _) (c : After-hear_and_step-gain g) → Walks c.args.closing.now.estimator.now (c.args.closing.now.t + 1) c.args.part.now c.self.inside.rows c.self.inside.marks.items (fresh_table c.args.stale c.self.inside.rows c.args.hearing.now.accumulated) c.hear_and_step-gain.new.self.accumulated c.args.hearing.now.touched c.hear_and_step-gain.new.self.touched c.self.inside.tallies c.hear_and_step-gain.new.tallies c.hear_and_step-gain.new.weights c.hear_and_step-gain.result
walks g c = rw (← c.get-rows.ensures, ← c.deref.ensures.value) c.hear_and_step-gain.ensures.walks

-- what is heard by it
heard : (g : _) (c : After-hear_and_step-gain g) → CanGoFurther c.args.part.now c.args.closing.now.estimator.now c.args.closing.now.t (tables_of c.self.inside) (caught_up c.args.stale c.self.inside.rows c.args.hearing.now) c.args.weights.now →
    HearsOwn c.args.part.now (targets_of c.args.part.now) (tables_of c.self.inside) (caught_up c.args.stale c.self.inside.rows c.args.hearing.now) c.hear_and_step-gain.new.self
heard g c ok = own_heard c.args.part.now (targets_of c.args.part.now) (tables_of c.self.inside) (caught_up c.args.stale c.self.inside.rows c.args.hearing.now) c.hear_and_step-gain.new.self ok.hear (walks g c).spreads c.hear_and_step-gain.ensures.heard c.hear_and_step-gain.ensures.change

-- so the tables can go on
then : (g : _) (c : After-hear_and_step-gain g) → CanGoFurther c.args.part.now c.args.closing.now.estimator.now c.args.closing.now.t (tables_of c.self.inside) (caught_up c.args.stale c.self.inside.rows c.args.hearing.now) c.args.weights.now →
    CanStep c.args.closing.now.estimator.now c.args.closing.now.t (tables_of c.self.inside) c.hear_and_step-gain.new.self c.args.weights.now
then g c ok = can_step_then c.hear_and_step-gain.new.self ok (heard g c ok)

-- the last sum, and the next one
sums : (g : _) (c : After-hear_and_step-gain g) → CanGoFurther c.args.part.now c.args.closing.now.estimator.now c.args.closing.now.t (tables_of c.self.inside) (caught_up c.args.stale c.self.inside.rows c.args.hearing.now) c.args.weights.now →
    (c.index-last.result.now ≡ sum_by (λ (v : TallyValue). v.last) c.self.inside.tallies) × (c.index-last.result.now + c.hear_and_step-gain.result ≡ total_of c.args.closing.now.estimator.now c.hear_and_step-gain.new.self.accumulated.rows)
sums g c ok = next_at c.args.closing.now.estimator.now c.args.closing.now.t c.hear_and_step-gain.new.self.accumulated.rows c.self.inside.tallies c.hear_and_step-gain.new.tallies c.self.inside.sums.items c.index-last.result.now c.hear_and_step-gain.result ok.step.sums c.index-last.ensures (walks g c).steps.tallies (walks g c).steps.gain

pub overflow_add-total : goal.overflow_add-total
overflow_add-total g c =
    let at = goal.at.overflow_add-total g c in
    let ok = can g at.After-get-rows in
    let next = then g at.After-hear_and_step-gain ok in
    let own = c.hear_and_step-gain.new.self.accumulated.rows in
    omega (arith, (sums g at.After-hear_and_step-gain ok).1, total_small c.args.closing.now.estimator.now own (rise_counters c.args.closing.now.estimator.now.log2m c.self.inside.rows.rows own next.ahead.rise).row, next.few, next.ahead.rise.count)

pub change_places-requires-clause-differ : goal.change_places-requires-clause-differ
change_places-requires-clause-differ g c =
    let at = goal.at.change_places-requires-clause-differ g c in
    let next = then g at.After-hear_and_step-gain (can g at.After-get-rows) in
    differ_where c.self.inside.rows c.hear_and_step-gain.new.self.accumulated c.hear_and_step-gain.new.self.touched next.ahead.width next.ahead.kept

pub invariant_of-self : goal.invariant_of-self
invariant_of-self g c =
    let at = goal.at.invariant_of-self g c in
    let m = c.args.closing.now.estimator.now in
    let own = c.hear_and_step-gain.new.self.accumulated in
    let next = then g at.After-hear_and_step-gain (can g at.After-get-rows) in
    let is = walks g at.After-hear_and_step-gain in
    let rows : length c.change_places.new.rows.rows ≡ length own.rows = ap (λ (t : Table). length t.rows) c.change_places.ensures.rows in
    let marks : length c.change_places.new.marks ≡ c.self.inside.marks.len = omega (arith, c.change_places.auto.marks, c.deref_mut.ensures.len, c.self.inside.marks.ok.0) in
    record {
      marks = omega (arith, ap (length {A = Bool}) (with_items_is c.self.inside.marks c.change_places.new.marks marks), marks, c.self.inside.marks.ok.0, c.self.invariant.marks, next.ahead.rise.count, rows);
      tallies = ap (length {A = TallyValue}) is.steps.tallies ∙ length-next_tallies m (c.args.closing.now.t + 1) own.rows c.self.inside.tallies (length own.rows) ∙ sym rows;
    }

pub returns-clause-stale : goal.returns-clause-stale
returns-clause-stale g c =
    let marks : length c.change_places.new.marks ≡ c.self.inside.marks.len = omega (arith, c.change_places.auto.marks, c.deref_mut.ensures.len, c.self.inside.marks.ok.0) in
    rw (with_items_is c.self.inside.marks c.change_places.new.marks marks) c.change_places.ensures.begins.stale

pub returns-clause-further : goal.returns-clause-further
returns-clause-further g c =
    let at = goal.at.returns-clause-further g c in
    let ok = can g at.After-get-rows in
    let made = heard g at.After-hear_and_step-gain ok in
    let next = then g at.After-hear_and_step-gain ok in
    let walk = walks g at.After-hear_and_step-gain in
    let m = c.args.closing.now.estimator.now in
    let rows = c.self.inside.rows.rows in
    let between = c.hear_and_step-gain.new.self in
    let own = between.accumulated.rows in
    let last = sums g at.After-hear_and_step-gain ok in
    let is : c.change_places.new.rows ≡ between.accumulated = c.change_places.ensures.rows in
    let marks : length c.change_places.new.marks ≡ c.self.inside.marks.len = omega (arith, c.change_places.auto.marks, c.deref_mut.ensures.len, c.self.inside.marks.ok.0) in
    let after = tables_of (record { rows = c.change_places.new.rows; marks = with_items c.self.inside.marks c.change_places.new.marks; tallies = c.hear_and_step-gain.new.tallies; sums = c.push_reserved.new.self }) in
    subst (λ (a : TablesValue). GoFurther c.args.part.now m c.args.closing.now.t a after (caught_up c.args.stale a.rows c.args.hearing.now) (caught_up true after.rows c.change_places.new.self) c.hear_and_step-gain.new.weights) c.self.view_is (record {
      between = between;
      hears = made;
      next = record {
        rows = is;
        marks = with_items_is c.self.inside.marks c.change_places.new.marks marks ∙ c.change_places.ensures.marks ∙ differing_from rows own between.touched (length rows) next.ahead.kept refl;
        tallies = walk.steps.tallies ∙ ap (λ n. next_tallies m (c.args.closing.now.t + 1) own c.self.inside.tallies n) next.ahead.rise.count;
        sums = c.push_reserved.ensures.items ∙ ap (λ n. c.self.inside.sums.items ++ n ∷ []) last.1;
        gains = omega (arith, last.0, last.1);
        room = c.push_reserved.ensures.capacity;
        quiet = c.change_places.ensures.begins.quiet;
        weights = walk.steps.weights ∙ ap (λ (t : Table). weights_of t.rows) (sym is);
      };
    })
