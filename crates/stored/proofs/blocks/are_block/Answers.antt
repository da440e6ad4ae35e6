use Rattle.std.proofs.Common.{◌≡◌, ◌-◌, ◌+◌, ◌<◌, true, false, length, take, sym, ◌∙◌, arith}
use Rattle.stored.specs.Stored.{is_full}
use Rattle.stored.proofs.BlockLemmas.{ends_all, ends_full, full_at, full_not, no_block}
use Rattle.stored.proofs.blocks.are_block.Goals as goal
use Rattle.stored.proofs.blocks.are_block.Goals.{then-count-eq0-via-then-count-eq0, then-count-eq0-via-else-count-eq0+then-is_full}

pub returns-then-count-eq0 : goal.returns-then-count-eq0
returns-then-count-eq0 c =
    let lists = c.args.lists.now in
    let k = c.len-count.result - 1 in
    elim c.then-count-eq0.branch [
      | then-count-eq0-via-then-count-eq0 w ↦ sym (no_block c.args.last lists (sym c.len-count.ensures ∙ w.if-count-eq0.true))
      | then-count-eq0-via-else-count-eq0+then-is_full w ↦
          let lt : k < length lists = omega (arith, w.if-count-eq0.false, c.len-count.ensures) in
          let full : is_full (take k lists) ≡ true = full_at lists k w.bits_of_first.result w.is_full.result (omega (arith, lt)) w.bits_of_first.ensures w.is_full.ensures ∙ w.if-is_full.true in
          sym (full_not c.args.last lists k lt full)
    ]

pub returns-then-last : goal.returns-then-last
returns-then-last c =
    let lists = c.args.lists.now in
    let k = c.len-count.result - 1 in
    let long : length lists ≡ k + 1 = omega (arith, c.if-count-eq0.false, c.len-count.ensures) in
    let other : is_full (take k lists) ≡ false = full_at lists k c.bits_of_first.result c.is_full.result (omega (arith, long)) c.bits_of_first.ensures c.is_full.ensures ∙ c.if-is_full.false in
    ends_all c.args.last lists k c.if-last.true long other

pub returns-else-last : goal.returns-else-last
returns-else-last c =
    let lists = c.args.lists.now in
    let n = c.len-count.result in
    let k = n - 1 in
    let long : length lists ≡ k + 1 = omega (arith, c.if-count-eq0.false, c.len-count.ensures) in
    let other : is_full (take k lists) ≡ false = full_at lists k c.bits_of_first.result c.is_full.result (omega (arith, long)) c.bits_of_first.ensures c.is_full.ensures ∙ c.if-is_full.false in
    let full : is_full (take n lists) ≡ c.is_full-else-last.result = full_at lists n c.bits_of_first-else-last.result c.is_full-else-last.result (omega (arith, c.len-count.ensures)) c.bits_of_first-else-last.ensures c.is_full-else-last.ensures in
    ends_full c.args.last lists k n c.is_full-else-last.result c.if-last.false long c.len-count.ensures other full
