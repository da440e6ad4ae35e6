use Rattle.std.proofs.Common.{◌≡◌, [], length, arith, sym, ◌∙◌}
use Rattle.registers.proofs.TableLemmas.{same_table}
use Rattle.replica.proofs.Names.{get_or_default, same_lists}
use Rattle.replica.proofs.hearing.catch_up.Goals as goal

pub returns : goal.returns
returns c =
    let rows = c.loop-i.rows in
    let ahead = c.args.ahead.now in
    let inv = c.loop-i.invariant in
    let count : length rows.rows ≡ length ahead.rows = inv.count ∙ c.requires.count in
    same_table rows ahead (inv.width ∙ c.requires.width)
    (same_lists rows.rows ahead.rows count (λ k d lt. get_or_default rows.rows k d [] lt
    ∙ inv.done k (omega (arith, c.loop-i-test.false, c.requires.marked, c.requires.count, count))
    ∙ sym (get_or_default ahead.rows k d [] (omega (arith, count)))))
