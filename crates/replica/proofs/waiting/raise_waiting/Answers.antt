use Rattle.std.proofs.Common.{◌≡◌, ◌∙◌, length}
use Rattle.replica.proofs.WaitingLemmas.{raised_along}
use Rattle.replica.proofs.waiting.raise_waiting.Goals as goal

pub returns-clause-raised : goal.returns-clause-raised
returns-clause-raised c =
    let edges = c.args.waiting.now.items in
    let long : length c.raise_along.new.touched ≡ length c.args.touched.now = c.raise_along.auto.touched ∙ c.mark_seen_along.auto.touched in
    raised_along c.args.rows.now edges c.args.accumulated.now c.raise_along.new.accumulated c.args.touched.now c.mark_seen_along.new.touched c.raise_along.new.touched long c.requires
    (rw c.as_slice.ensures.value at c.mark_seen_along.ensures) (rw c.as_slice-2.ensures.value at c.raise_along.ensures)
