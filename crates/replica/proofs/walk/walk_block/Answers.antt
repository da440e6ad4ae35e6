use Rattle.std.proofs.Common.{◌≡◌, ℕ, ◌+◌, ◌*◌, ◌<◌, List, [], false, not, get_or, length, map, set, refl, ap, ap₂, sym, ◌∙◌, arith}
use Rattle.ball_model.specs.Table.{pieces}
use Rattle.registers.proofs.TableLemmas.{block_put, get_or-pieces, length-pieces}
use Rattle.registers.specs.Shape.{piece_at}
use Rattle.replica.proofs.Names.{bytes_eq, estimate_with, get_or-map, length-map, map-set, no_figures, sum_by-set, Tally, TallyValue, value_of, weight_of}
use Rattle.replica.specs.Level.{next_tally}
use Rattle.replica.specs.Pull.{pulled_row}
use Rattle.replica.specs.Walk.{fresh_row, fresh_rows}
use Rattle.replica.proofs.LevelLemmas.Step.{step_done, step_rest, stepped_same}
use Rattle.replica.proofs.PullLemmas.{block_told}
use Rattle.replica.proofs.TalliesLemmas.{sum_of-lasts}
use Rattle.replica.proofs.WalkLemmas.{can_walk_here, fresh_at, length-fresh}
use Rattle.replica.proofs.walk.walk_block.Goals as goal

-- the figures at a place, as they were at first
here : (xs ys : List Tally) (i : ℕ) (d : Tally) → i < length xs → get_or (map value_of xs) i no_figures ≡ get_or (map value_of ys) i no_figures → value_of (get_or xs i d) ≡ get_or (map value_of ys) i no_figures
here xs ys i d lt same = sym (get_or-map value_of xs i d no_figures lt) ∙ same

pub walk_row-gain-requires : goal.walk_row-gain-requires
walk_row-gain-requires c =
    let k = c.loop-k.k in
    let inv = c.loop-k.invariant in
    let can = c.requires in
    let walk = c.args.walk.now in
    let tallies = map value_of c.args.tallies.now in
    let lt : k < length c.args.touched.now = omega (arith, c.loop-k-test.true, c.loop-k.auto.touched, c.loop-k.auto.k-end) in
    let inside : k < length c.loop-k.tallies = omega (arith, lt, c.loop-k.auto.tallies, can.all, length-map c.args.tallies.now value_of) in
    let at = here c.loop-k.tallies c.args.tallies.now k c.index-tallies-k.result inside (inv.left k (omega arith)) in
    can_walk_here walk.estimator.now walk.t walk.pull.part.now walk.stale walk.pull.rows.now walk.pull.marks.now c.args.from c.args.cells.now c.args.touched.now c.args.weights.now tallies can
    c.loop-k.cells k _ _ _ lt c.loop-k.auto.cells (inv.rest k (omega arith)) (inv.still k (omega arith)) (inv.waits k (omega arith)) (ap (λ (v : TallyValue). v.last) at)

pub loop-k-preserved : goal.loop-k-preserved
loop-k-preserved c =
    let walk = c.args.walk.now in
    let m = walk.estimator.now in
    let t = walk.t in
    let part = walk.pull.part.now in
    let table = walk.pull.rows.now in
    let own = table.rows in
    let marks = walk.pull.marks.now in
    let w = walk.pull.rows.now.width in
    let can = c.requires in
    let n = length c.args.touched.now in
    let k = c.loop-k.k in
    let inv = c.loop-k.invariant in
    let cells = c.loop-k.cells in
    let pieces_were = pieces w n c.args.cells.now in
    let old = fresh_rows walk.stale table c.args.from n c.args.cells.now in
    let rows = pieces w n cells in
    let tallies = map value_of c.args.tallies.now in
    let row_new = c.walk_row-gain.ensures in
    let lt : k < n = omega (arith, c.loop-k-test.true, c.loop-k.auto.touched, c.loop-k.auto.k-end) in
    let long : length cells ≡ n * w = c.loop-k.auto.cells ∙ can.pull.filled in
    let stands : piece_at w k cells ≡ get_or pieces_were k [] = sym (get_or-pieces w n cells k lt) ∙ inv.rest k (omega arith) in
    let here_is : fresh_row walk.stale table (c.args.from + k) (piece_at w k cells) ≡ get_or old k [] = ap (fresh_row walk.stale table (c.args.from + k)) stands ∙ sym (fresh_at walk.stale table c.args.from n c.args.cells.now k lt) in
    let row : List ℕ = pulled_row part own marks (c.args.from + k) (get_or old k []) in
    let written = ap (λ r. pulled_row part own marks (c.args.from + k) r) here_is in
    let put : pieces w n c.walk_row-gain.new.cells ≡ set rows k row = block_put w n k cells c.walk_row-gain.new.cells _ lt long row_new.cells c.walk_row-gain.auto.cells ∙ ap (set rows k) written in
    let F : ℕ → List ℕ = λ j. pulled_row part own marks (c.args.from + j) (get_or old j []) in
    let G : ℕ → TallyValue = λ j. next_tally t (get_or tallies j no_figures) (estimate_with m (F j)) in
    let W : ℕ → ℕ = λ j. weight_of (F j) in
    let inside : k < length c.loop-k.tallies = omega (arith, lt, c.loop-k.auto.tallies, can.all, length-map c.args.tallies.now value_of) in
    let weighed : k < length c.loop-k.weights = omega (arith, lt, c.loop-k.auto.weights, can.each) in
    let at = here c.loop-k.tallies c.args.tallies.now k c.index-tallies-k.result inside (inv.left k (omega arith)) in
    let moved = map-set value_of c.loop-k.tallies k c.walk_row-gain.new.tally in
    let all : k < length (map value_of c.loop-k.tallies) = simp length-map inside in
    let is_stepped : value_of c.walk_row-gain.new.tally ≡ G k = row_new.stepped.figures ∙ stepped_same t at (ap (estimate_with m) written) in
    let is_moved : c.walk_row-gain.new.weight ≡ W k = row_new.stepped.weight ∙ ap weight_of written in
    record {
      done = rw put (step_done F rows [] row k (omega (arith, length-pieces w n cells, lt)) refl inv.done);
      rest = rw put (step_rest (λ j. get_or pieces_were j []) rows [] row k inv.rest);
      told = rw (put, row_new.touched) (block_told c.args.touched.now c.loop-k.touched old rows k n row _ (omega (arith, length-pieces w n cells, lt)) (omega (arith, lt, c.loop-k.auto.touched)) (inv.still k (omega arith)) (ap₂ (λ a b. not (bytes_eq a b)) written here_is) inv.told);
      still = step_rest (λ j. get_or c.args.touched.now j false) c.loop-k.touched false _ k inv.still;
      stepped = rw moved (step_done G (map value_of c.loop-k.tallies) no_figures (value_of c.walk_row-gain.new.tally) k all is_stepped inv.stepped);
      left = rw moved (step_rest (λ j. get_or tallies j no_figures) (map value_of c.loop-k.tallies) no_figures (value_of c.walk_row-gain.new.tally) k inv.left);
      moved = step_done W c.loop-k.weights 0 c.walk_row-gain.new.weight k weighed is_moved inv.moved;
      waits = step_rest (λ j. get_or c.args.weights.now j 0) c.loop-k.weights 0 c.walk_row-gain.new.weight k inv.waits;
      gain = omega (arith, sum_by-set (λ (tally : Tally). tally.last) c.loop-k.tallies k c.walk_row-gain.new.tally c.index-tallies-k.result inside, inv.gain, row_new.stepped.gain);
      small = omega (arith, inv.small, row_new.stepped.small);
    }

pub returns : goal.returns
returns c =
    let walk = c.args.walk.now in
    let w = walk.pull.rows.now.width in
    let n = length c.args.touched.now in
    let can = c.requires in
    let inv = c.loop-k.invariant in
    let end : c.loop-k.k ≡ n = omega (arith, c.loop-k-test.false, c.loop-k.auto.k-end) in
    let own = walk.pull.rows.now in
    let old = fresh_rows walk.stale own c.args.from n c.args.cells.now in
    let long : length old ≡ n = length-fresh walk.stale own c.args.from n c.args.cells.now (omega (arith, can.pull.inside, can.pull.can.count)) in
    let count : length (map value_of c.args.tallies.now) ≡ n = can.all in
    let at : (j : ℕ) → 0 + j ≡ j = λ j. omega arith in
    let new = pieces w n c.loop-k.cells in
    let row : (j : ℕ) → j < n → pulled_row walk.pull.part.now walk.pull.rows.now.rows walk.pull.marks.now (c.args.from + j) (get_or old j []) ≡ get_or new (0 + j) [] =
    λ j lt. sym (inv.done j (omega (arith, lt, end))) ∙ ap (λ i. get_or new i []) (sym (at j)) in
    record {
      pulls = record {
        rows = record {
          count = length-pieces w n c.loop-k.cells ∙ sym long;
          row = λ j lt. inv.done j (omega (arith, lt, long, end));
        };
        touched = λ j lt. inv.told j (omega (arith, lt, long, end));
      };
      steps = record {
        count = length-map c.loop-k.tallies value_of ∙ c.loop-k.auto.tallies ∙ sym (length-map c.args.tallies.now value_of);
        figures = λ j lt. let below : j < n = omega (arith, lt, count) in inv.stepped j (omega (arith, below, end)) ∙ ap (λ r. next_tally walk.t (get_or (map value_of c.args.tallies.now) j no_figures) (estimate_with walk.estimator.now r)) (row j below);
        weights = λ j lt. let below : j < n = omega (arith, lt, count) in inv.moved j (omega (arith, below, end)) ∙ ap weight_of (row j below);
        gain = rw (← sum_of-lasts c.loop-k.tallies, ← sum_of-lasts c.args.tallies.now) inv.gain;
        small = omega (arith, inv.small, end, count);
      };
    }
