use Rattle.std.proofs.Common.{◌≡◌, ◌<◌, ◌≤◌, ◌+◌, ◌-◌, ◌++◌, true, false, List, ℕ, length, take, drop, ap, sym, ◌∙◌, arith, inl, inr}
use Rattle.gapcode.specs.Lists.{list_bits}
use Rattle.graph.proofs.OwnLemmas.{preds-from}
use Rattle.std.proofs.lemmas.List.{length-drop, length-take-le}
use Rattle.stored.specs.Stored.{stored_of}
use Rattle.stored.proofs.BlockLemmas.{begins_more, begins_none, full_by, some_full}
use Rattle.stored.proofs.StoredLemmas.{block_ends, block_more, preds_many}
use Rattle.stored.proofs.blocks.block_from.Goals as goal
use Rattle.stored.proofs.blocks.block_from.Goals.{then-loop-to-test+else-not-is_full, else-loop-to-test}

pub loop-to-init : goal.loop-to-init
loop-to-init c =
    let z : c.args.from - c.args.from ≡ 0 = omega arith in
    record { order = omega arith; within = omega (arith, c.requires); bits = rw z c.new-writer.ensures; begins = rw z (begins_none (drop c.args.from (stored_of c.args.graph.now).preds)) }

pub put_list-requires : goal.put_list-requires
put_list-requires c = rw (c.deref.ensures.value, c.in_ok-put_preds.ensures, c.preds.ensures.value) (preds-from c.args.graph.now.graph c.loop-to.to)

pub loop-to-preserved : goal.loop-to-preserved
loop-to-preserved c =
    let net = c.args.graph.now in
    let from = c.args.from in
    let to = c.loop-to.to in
    let lists = drop from (stored_of net).preds in
    let lt : to < net.graph.vertices = omega (arith, c.loop-to-test.true, c.vertices.ensures.count) in
    let long : to - from < length lists = omega (arith, length-drop from (stored_of net).preds, preds_many net, lt) in
    let next : to + 1 - from ≡ to - from + 1 = omega (arith, c.loop-to.invariant.order) in
    let row = c.deref.ensures.value ∙ c.in_ok-put_preds.ensures ∙ c.preds.ensures.value in
    record {
      order = omega (arith, c.loop-to.invariant.order);
      within = omega (arith, lt);
      bits = block_more net from to c.loop-to.writer c.put_list.new.writer c.loop-to.invariant.order lt c.loop-to.invariant.bits (c.in_ok-put_list.ensures ∙ ap (λ (l : List ℕ). c.loop-to.writer ++ list_bits l) row);
      begins = rw next (begins_more lists (to - from) long (full_by (take (to - from) lists) c.from.result c.len.result false (c.from.ensures ∙ sym (length-take-le (to - from) lists (omega (arith, long)))) (c.len.ensures.count ∙ ap length c.loop-to.invariant.bits) (sym c.if-not-is_full.true ∙ c.is_full.ensures)) c.loop-to.invariant.begins);
    }

pub returns-clause-ends : goal.returns-clause-ends
returns-clause-ends c =
    let net = c.args.graph.now in
    let from = c.args.from in
    let to = c.loop-to.to in
    let lists = (stored_of net).preds in
    let le : to ≤ length lists = omega (arith, preds_many net, c.loop-to.invariant.within) in
    let long : to - from ≤ length (drop from lists) = omega (arith, length-drop from lists, le) in
    elim c.loop-to-test.branch [
      | then-loop-to-test+else-not-is_full w ↦
          let full = full_by (take (to - from) (drop from lists)) w.from.result w.len.result true (w.from.ensures ∙ sym (length-take-le (to - from) (drop from lists) long)) (w.len.ensures.count ∙ ap length c.loop-to.invariant.bits) (sym w.if-not-is_full.false ∙ w.is_full.ensures) in
          block_ends lists from to (omega (arith, some_full (drop from lists) (to - from) full)) le (inr full) c.loop-to.invariant.begins
      | else-loop-to-test w ↦
          block_ends lists from to (omega (arith, w.loop-to-test.false, c.requires, c.vertices.ensures.count)) le (inl (omega (arith, preds_many net, w.loop-to-test.false, c.vertices.ensures.count))) c.loop-to.invariant.begins
    ]

pub returns-clause-code : goal.returns-clause-code
returns-clause-code c = λ lists is. rw (is, ← c.loop-to.invariant.bits) c.finish.ensures
