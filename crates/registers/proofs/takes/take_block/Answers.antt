use Rattle.std.proofs.Common.{◌≡◌, ℕ, ◌+◌, ◌<◌, List, [], get_or, length, set, ap, ◌∙◌, arith}
use Rattle.ball_model.specs.Table.{pieces}
use Rattle.registers.specs.Shape.{with_piece}
use Rattle.registers.proofs.MarkLemmas.{passed}
use Rattle.registers.proofs.TableLemmas.{length-pieces, pieces-put}
use Rattle.registers.proofs.TakenLemmas.{set_done, set_rest}
use Rattle.registers.proofs.takes.take_block.Goals as goal

pub loop-k-preserved : goal.loop-k-preserved
loop-k-preserved c =
    let table = c.args.ahead.now in
    let marks = c.args.marks.now in
    let w = table.width in
    let n = length marks in
    let k = c.loop-k.k in
    let inv = c.loop-k.invariant in
    let cells = c.loop-k.cells in
    let old = pieces w n c.args.cells.now in
    let rows = pieces w n cells in
    let row = c.row.result.now in
    let lt : k < n = c.loop-k-test.true in
    let is = c.next_marked-k-in-loop-k.ensures in
    let next = c.next_marked-k-in-loop-k.result in
    let F : ℕ → List ℕ = λ j. get_or table.rows (c.args.from + j) [] in
    let G : ℕ → List ℕ = λ j. get_or old j [] in
    let put : pieces w n c.put_piece.new.cells ≡ set rows k row =
    ap (pieces w n) (c.put_piece.ensures ∙ ap (λ v. with_piece v k row cells) c.width.ensures.value) ∙ pieces-put w n cells row k lt (c.loop-k.auto.cells ∙ c.requires.filled) c.row.ensures.width in
    let done = set_done F rows row k (omega (arith, length-pieces w n cells, lt)) c.row.ensures.value inv.done in
    let rest = set_rest G rows row k inv.rest in
    record {
      in_range = is.high;
      done = rw put (passed F G (set rows k row) [] (k + 1) next done rest (λ j low below. c.requires.same j (omega (arith, below, is.high)) (is.blank j low below)));
      rest = rw put (λ j low. rest j (omega (arith, is.low, low)));
    }

pub returns : goal.returns
returns c = λ j lt. c.loop-k.invariant.done j (omega (arith, c.loop-k-test.false, lt))
