use Rattle.std.proofs.Common.{◌++◌}
use Rattle.std.specs.List.{flat_map}
use Rattle.std.proofs.lemmas.Result.{err_from_is_err_and}
use Rattle.stored.specs.Spooled.{waiting}
use Rattle.stored.specs.Stored.{block_bytes, blocks_of, content_bytes, head_bytes, label_lines, network_bytes, stored_of}
use Rattle.stored.proofs.HaltLemmas.{halts_after, halts_of, halts_unsealed}
use Rattle.stored.proofs.SpoolLemmas.{passes_then, stops_after, stops_before, stops_sealed, stops_unsealed, writes_sealed}
use Rattle.stored.proofs.write.store.Goals as goal

pub returns-in_err-keep_header-clause-halts : goal.returns-in_err-keep_header-clause-halts
unfolding network_bytes content_bytes stored_of
returns-in_err-keep_header-clause-halts g c =
    let v = stored_of c.args.graph.now in
    let head = head_bytes v in
    let lines = label_lines v.labels in
    let blocks = flat_map block_bytes (blocks_of v.preds) in
    let s = c.new-spool.result in
    let p = err_from_is_err_and c.from_residual-in_err-keep_header.result c.from_residual-in_err-keep_header.ensures.1 in
    rw (p.1) (λ _. halts_of g.W.Write.contents g.W.CountedWrite.failed_calls g.W.CountedWrite.sure_calls g.W.CountedWrite.room _ _ _ p.0 p.2 (stops_unsealed g.W.Write.contents g.W.CountedWrite.failed_calls g.W.CountedWrite.sure_calls g.W.CountedWrite.room _ _ s ((head ++ lines) ++ blocks) c.new-spool.ensures.empty
    (stops_before g.W.Write.contents g.W.CountedWrite.failed_calls g.W.CountedWrite.sure_calls g.W.CountedWrite.room _ _ (waiting s) (head ++ lines) blocks (stops_before g.W.Write.contents g.W.CountedWrite.failed_calls g.W.CountedWrite.sure_calls g.W.CountedWrite.room _ _ (waiting s) head lines c.in_err-keep_header.ensures.stops))))

pub returns-in_err-keep_labels-clause-halts : goal.returns-in_err-keep_labels-clause-halts
unfolding network_bytes content_bytes stored_of
returns-in_err-keep_labels-clause-halts g c =
    let v = stored_of c.args.graph.now in
    let head = head_bytes v in
    let lines = label_lines v.labels in
    let blocks = flat_map block_bytes (blocks_of v.preds) in
    let s = c.new-spool.result in
    let p = err_from_is_err_and c.from_residual-in_err-keep_labels.result c.from_residual-in_err-keep_labels.ensures.1 in
    rw (p.1) (λ _. halts_of g.W.Write.contents g.W.CountedWrite.failed_calls g.W.CountedWrite.sure_calls g.W.CountedWrite.room _ _ _ p.0 p.2 (stops_unsealed g.W.Write.contents g.W.CountedWrite.failed_calls g.W.CountedWrite.sure_calls g.W.CountedWrite.room _ _ s ((head ++ lines) ++ blocks) c.new-spool.ensures.empty
    (stops_before g.W.Write.contents g.W.CountedWrite.failed_calls g.W.CountedWrite.sure_calls g.W.CountedWrite.room _ _ (waiting s) (head ++ lines) blocks (stops_after g.W.Write.contents g.W.CountedWrite.failed_calls g.W.CountedWrite.sure_calls g.W.CountedWrite.room _ _ _ s c.keep_header.new.spool head lines c.in_ok-keep_header.ensures.done c.in_err-keep_labels.ensures.stops))))

pub returns-in_err-keep_blocks-clause-halts : goal.returns-in_err-keep_blocks-clause-halts
unfolding network_bytes content_bytes stored_of
returns-in_err-keep_blocks-clause-halts g c =
    let v = stored_of c.args.graph.now in
    let head = head_bytes v in
    let lines = label_lines v.labels in
    let blocks = flat_map block_bytes (blocks_of v.preds) in
    let s = c.new-spool.result in
    let p = err_from_is_err_and c.from_residual-in_err-keep_blocks.result c.from_residual-in_err-keep_blocks.ensures.1 in
    let passed = passes_then g.W.Write.contents g.W.CountedWrite.failed_calls g.W.CountedWrite.sure_calls g.W.CountedWrite.room _ _ _ s c.keep_header.new.spool c.keep_labels.new.spool head lines c.in_ok-keep_header.ensures.done c.in_ok-keep_labels.ensures.done in
    rw (p.1, p.2) (λ _. halts_unsealed g.W.Write.contents g.W.CountedWrite.failed_calls g.W.CountedWrite.sure_calls g.W.CountedWrite.room _ _ s ((head ++ lines) ++ blocks) _ c.new-spool.ensures.empty (halts_after g.W.Write.contents g.W.CountedWrite.failed_calls g.W.CountedWrite.sure_calls g.W.CountedWrite.room _ _ _ s c.keep_labels.new.spool (head ++ lines) blocks _ passed c.in_err-keep_blocks.ensures.halts))

pub returns-in_err-seal-clause-halts : goal.returns-in_err-seal-clause-halts
unfolding network_bytes content_bytes stored_of
returns-in_err-seal-clause-halts g c =
    let v = stored_of c.args.graph.now in
    let head = head_bytes v in
    let lines = label_lines v.labels in
    let blocks = flat_map block_bytes (blocks_of v.preds) in
    let s = c.new-spool.result in
    let p = err_from_is_err_and c.from_residual-in_err-seal.result c.from_residual-in_err-seal.ensures.1 in
    let passed = passes_then g.W.Write.contents g.W.CountedWrite.failed_calls g.W.CountedWrite.sure_calls g.W.CountedWrite.room _ _ _ s c.keep_header.new.spool c.keep_labels.new.spool head lines c.in_ok-keep_header.ensures.done c.in_ok-keep_labels.ensures.done in
    let all = passes_then g.W.Write.contents g.W.CountedWrite.failed_calls g.W.CountedWrite.sure_calls g.W.CountedWrite.room _ _ _ s c.keep_labels.new.spool c.keep_blocks.new.spool (head ++ lines) blocks passed c.in_ok-keep_blocks.ensures.done in
    rw (p.1) (λ _. halts_of g.W.Write.contents g.W.CountedWrite.failed_calls g.W.CountedWrite.sure_calls g.W.CountedWrite.room _ _ _ p.0 p.2 (stops_sealed g.W.Write.contents g.W.CountedWrite.failed_calls g.W.CountedWrite.sure_calls g.W.CountedWrite.room _ _ _ s c.keep_blocks.new.spool ((head ++ lines) ++ blocks) c.new-spool.ensures.empty c.new-spool.ensures.hasher all c.in_err-seal.ensures.stops))

pub returns-clause-done : goal.returns-clause-done
unfolding network_bytes content_bytes stored_of
returns-clause-done g c =
    let v = stored_of c.args.graph.now in
    let head = head_bytes v in
    let lines = label_lines v.labels in
    let blocks = flat_map block_bytes (blocks_of v.preds) in
    let s = c.new-spool.result in
    let passed = passes_then g.W.Write.contents g.W.CountedWrite.failed_calls g.W.CountedWrite.sure_calls g.W.CountedWrite.room _ _ _ s c.keep_header.new.spool c.keep_labels.new.spool head lines c.in_ok-keep_header.ensures.done c.in_ok-keep_labels.ensures.done in
    let all = passes_then g.W.Write.contents g.W.CountedWrite.failed_calls g.W.CountedWrite.sure_calls g.W.CountedWrite.room _ _ _ s c.keep_labels.new.spool c.keep_blocks.new.spool (head ++ lines) blocks passed c.in_ok-keep_blocks.ensures.done in
    (writes_sealed g.W.Write.contents g.W.CountedWrite.failed_calls g.W.CountedWrite.sure_calls g.W.CountedWrite.room _ _ _ s c.keep_blocks.new.spool ((head ++ lines) ++ blocks) c.new-spool.ensures.empty c.new-spool.ensures.hasher all c.in_ok-seal.ensures.done).appended
