use Rattle.std.proofs.Common.{◌≡◌, ◌+◌, Bool, ◌∷◌, ◌++◌, [], length, refl, ap, sym, ◌∙◌, arith, subst}
use Rattle.replica.proofs.Names.{sum_by, with_items, with_items_is, TallyValue, Table}
use Rattle.replica.specs.Level.{next_tallies, total_of, weights_of}
use Rattle.replica.specs.Seen.{tables_of}
use Rattle.replica.specs.Tables.{CanStep, NextTables, TablesValue}
use Rattle.replica.proofs.LevelLemmas.Level.{differing_from}
use Rattle.replica.proofs.LevelLemmas.Next.{total_small}
use Rattle.replica.proofs.KeptLemmas.Rise.{rise_counters}
use Rattle.replica.proofs.SeenLemmas.State.{next_at}
use Rattle.replica.proofs.TablesLemmas.{can_be_stepped}
use Rattle.replica.proofs.TalliesLemmas.{length-next_tallies}
use Rattle.replica.proofs.tables.Tables.next.Goals as goal
use Rattle.replica.proofs.tables.Tables.next.Goals.{After-touched-marks, After-step-gain}

-- they can go on, as the fields stand
can : (g : _) (c : After-touched-marks g) → CanStep c.args.closing.now.estimator.now c.args.closing.now.t (tables_of c.self.inside) c.args.hearing.now c.args.weights.now
can g c = subst (λ (a : TablesValue). CanStep c.args.closing.now.estimator.now c.args.closing.now.t a c.args.hearing.now c.args.weights.now) (sym c.self.view_is) c.requires.can

-- the last sum, and the next one
sums : (g : _) (c : After-step-gain g) → CanStep c.args.closing.now.estimator.now c.args.closing.now.t (tables_of c.self.inside) c.args.hearing.now c.args.weights.now → (c.index-last.result.now ≡ sum_by (λ (v : TallyValue). v.last) c.self.inside.tallies) × (c.index-last.result.now + c.step-gain.result ≡ total_of c.args.closing.now.estimator.now c.args.hearing.now.accumulated.rows)
sums g c ok = next_at c.args.closing.now.estimator.now c.args.closing.now.t c.args.hearing.now.accumulated.rows c.self.inside.tallies c.step-gain.new.self c.self.inside.sums.items c.index-last.result.now c.step-gain.result ok.sums c.index-last.ensures (rw c.ahead-ahead.ensures at c.step-gain.ensures.tallies) c.step-gain.ensures.gain

pub step-gain-requires-clause-can : goal.step-gain-requires-clause-can
step-gain-requires-clause-can g c = rw (c.ahead-ahead.ensures, c.touched-marks.ensures) (can_be_stepped (can g (goal.at.step-gain-requires-clause-can g c).After-touched-marks))

pub overflow_add-sum : goal.overflow_add-sum
overflow_add-sum g c =
    let at = goal.at.overflow_add-sum g c in
    let ok = can g at.After-touched-marks in
    let own = c.args.hearing.now.accumulated.rows in
    omega (arith, (sums g at.After-step-gain ok).1, total_small c.args.closing.now.estimator.now own (rise_counters c.args.closing.now.estimator.now.log2m c.self.inside.rows.rows own ok.ahead.rise).row, ok.few, ok.ahead.rise.count)

pub invariant_of-self : goal.invariant_of-self
invariant_of-self g c =
    let at = goal.at.invariant_of-self g c in
    let m = c.args.closing.now.estimator.now in
    let own = c.args.hearing.now.accumulated in
    let ok = can g at.After-touched-marks in
    let rows : length c.step-gain.new.rows.rows ≡ length own.rows = ap (λ (t : Table). length t.rows) (c.step-gain.ensures.rows ∙ c.ahead-ahead.ensures) in
    let ahead : length c.ahead-ahead.result.now.rows ≡ length own.rows = ap (λ (t : Table). length t.rows) c.ahead-ahead.ensures in
    let marks : length c.begin.new.marks ≡ c.self.inside.marks.len = omega (arith, c.begin.auto.marks, c.deref_mut.ensures.len, c.self.inside.marks.ok.0) in
    record {
      marks = omega (arith, ap (length {A = Bool}) (with_items_is c.self.inside.marks c.begin.new.marks marks), marks, c.self.inside.marks.ok.0, c.self.invariant.marks, ok.ahead.rise.count, rows);
      tallies = ap (length {A = TallyValue}) c.step-gain.ensures.tallies ∙ length-next_tallies m (c.args.closing.now.t + 1) c.ahead-ahead.result.now.rows c.self.inside.tallies (length c.ahead-ahead.result.now.rows) ∙ ahead ∙ sym rows;
    }

pub returns : goal.returns
returns g c =
    let at = goal.at.returns g c in
    let ok = can g at.After-touched-marks in
    let m = c.args.closing.now.estimator.now in
    let rows = c.self.inside.rows.rows in
    let own = c.args.hearing.now.accumulated.rows in
    let last = sums g at.After-step-gain ok in
    let is : c.step-gain.new.rows ≡ c.args.hearing.now.accumulated = c.step-gain.ensures.rows ∙ c.ahead-ahead.ensures in
    let marks : length c.begin.new.marks ≡ c.self.inside.marks.len = omega (arith, c.begin.auto.marks, c.deref_mut.ensures.len, c.self.inside.marks.ok.0) in
    let after = tables_of (record { rows = c.step-gain.new.rows; marks = with_items c.self.inside.marks c.begin.new.marks; tallies = c.step-gain.new.self; sums = c.push_reserved.new.self }) in
    subst (λ (a : TablesValue). NextTables m c.args.closing.now.t a after c.args.hearing.now c.begin.new.self c.step-gain.new.weights) c.self.view_is (record {
      rows = is;
      marks = with_items_is c.self.inside.marks c.begin.new.marks marks ∙ c.begin.ensures.touched ∙ differing_from rows own c.args.hearing.now.touched (length rows) ok.ahead.kept refl;
      tallies = (rw c.ahead-ahead.ensures at c.step-gain.ensures.tallies) ∙ ap (λ n. next_tallies m (c.args.closing.now.t + 1) own c.self.inside.tallies n) ok.ahead.rise.count;
      sums = c.push_reserved.ensures.items ∙ ap (λ n. c.self.inside.sums.items ++ n ∷ []) last.1;
      gains = omega (arith, last.0, last.1);
      room = c.push_reserved.ensures.capacity;
      quiet = rw is c.begin.ensures.quiet;
      weights = c.step-gain.ensures.weights ∙ ap (λ (t : Table). weights_of t.rows) (sym c.step-gain.ensures.rows);
    })
