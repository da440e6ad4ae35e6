use Rattle.std.proofs.Common.{◌≡◌, ℕ, ◌+◌, ◌-◌, ◌*◌, List, [], take, drop, get_or, ap, ◌∙◌, arith}
use Rattle.registers.specs.Shape.{piece_at}
use Rattle.replica.specs.Pull.{pulled_row}
use Rattle.replica.specs.Walk.{fresh_row}
use Rattle.replica.proofs.WalkLemmas.{IsPulled, can_follow, piece_put, pulled_ahead}
use Rattle.replica.proofs.walk.walk_row.Goals as goal
use Rattle.replica.proofs.walk.walk_row.Goals.{After-pull_fresh-raised}

abbrev own_row : After-pull_fresh-raised → List ℕ
own_row c = get_or c.args.walk.now.pull.rows.now.rows (c.args.from + c.args.k) []

abbrev was : After-pull_fresh-raised → List ℕ
was c = fresh_row c.args.walk.now.stale c.args.walk.now.pull.rows.now (c.args.from + c.args.k) (piece_at c.args.walk.now.pull.rows.now.width c.args.k c.args.cells.now)

abbrev new : After-pull_fresh-raised → List ℕ
new c = pulled_row c.args.walk.now.pull.part.now c.args.walk.now.pull.rows.now.rows c.args.walk.now.pull.marks.now (c.args.from + c.args.k) (was c)

-- what it has become
pulled : (c : After-pull_fresh-raised) → IsPulled c.args.walk.now.estimator.now (own_row c) (was c) (new c) c.args.touched.now
pulled c =
    let walk = c.args.walk.now in
    pulled_ahead walk.estimator.now walk.pull.part.now walk.pull.rows.now walk.pull.marks.now (c.args.from + c.args.k) (was c) c.args.touched.now c.args.weight.now c.args.tally.now.last c.requires.can.can c.requires.can.vertex c.requires.counters c.requires.ahead

-- where it stands
put : (c : After-pull_fresh-raised) → IsPulled c.args.walk.now.estimator.now (own_row c) (was c) (new c) c.args.touched.now → piece_at c.args.walk.now.pull.rows.now.width c.args.k c.pull_fresh-raised.new.cells ≡ new c
put c is =
    let w = c.args.walk.now.pull.rows.now.width in
    ap (piece_at w c.args.k) c.pull_fresh-raised.ensures.cells
    ∙ piece_put w c.args.k c.args.cells.now (new c) (omega (arith, is.rise.row.width, c.requires.ahead.rise.row.width, c.pull_fresh-raised.ensures.wide)) c.requires.within

pub step_tally-requires : goal.step_tally-requires
step_tally-requires c =
    let at = (goal.at.step_tally-requires c).After-pull_fresh-raised in
    let walk = c.args.walk.now in
    let w = c.width-width.result in
    let is = pulled at in
    let ends : c.args.k * w + w - c.args.k * w ≡ w = omega arith in
    let ahead : take (c.args.k * w + w - c.args.k * w) (drop (c.args.k * w) c.pull_fresh-raised.new.cells) ≡ new at =
    ap (λ n. take n (drop (c.args.k * w) c.pull_fresh-raised.new.cells)) ends ∙ ap (λ n. piece_at n c.args.k c.pull_fresh-raised.new.cells) c.width-width.ensures.value ∙ put at is in
    rw (ahead, c.row-row.ensures.value) (can_follow walk.estimator.now walk.t (own_row at) (was at) (new at) c.args.touched.now c.args.weight.now c.args.tally.now.last c.requires.low c.requires.high c.requires.ahead is)
