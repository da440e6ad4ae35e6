use Rattle.std.proofs.Common.{◌≡◌, ℕ, List, Ok, Err, subst, arith}
use Rattle.std.specs.Prelude.{IfOk, IfErr}
use Rattle.std.proofs.lemmas.Result.{err_from_is_err_and}
use Rattle.stored.specs.Reading.{check_block_head, check_code, code_reading, followed, told, IsOfBytes}
use Rattle.stored.proofs.ReadLemmas.{fails_first, fails_full, tells_full}
use Rattle.stored.proofs.ReadBlockLemmas.{block_ends, block_fails, block_stops, code_unread, few_found, head_fails, head_passes, head_refused, some_found}
use Rattle.stored.proofs.read.read_block.Goals as goal

pub returns-in_err-read_head-clause-fails : goal.returns-in_err-read_head-clause-fails
returns-in_err-read_head-clause-fails g c =
    let p = err_from_is_err_and c.from_residual.result c.from_residual.ensures.1 in
    rw (p.1, p.2) (fails_first (λ head. followed (told (check_block_head c.args.left head)) (λ _. code_reading c.args.vertices c.args.left head)) (fails_full 12 _ (omega arith) c.in_err-read_head.ensures.fails))

pub returns-then-count-eq0-clause-fails : goal.returns-then-count-eq0-clause-fails
returns-then-count-eq0-clause-fails g c =
    let head = c.read_head.new.buffer in
    head_fails c.args.vertices c.args.left head (head_refused c.args.left c.u32_at-count.result head c.u32_at-count.ensures c.then-count-eq0.either) (tells_full 12 _ (omega arith) c.in_ok-read_head.ensures.done)

pub returns-in_err-code-clause-fails : goal.returns-in_err-code-clause-fails
returns-in_err-code-clause-fails g c =
    let p = err_from_is_err_and c.from_residual-in_err-code.result c.from_residual-in_err-code.ensures.1 in
    let n = c.args.vertices in
    let left = c.args.left in
    let head = c.read_head.new.buffer in
    let passes = head_passes left c.u32_at-count.result head c.u32_at-count.ensures c.if-count-eq0.false c.if-count-left.false in
    rw (p.1, p.2) (block_fails n left head passes (tells_full 12 _ (omega arith) c.in_ok-read_head.ensures.done) (code_unread n left c.u64_at.result head c.in_err-code.field-0.0 c.u64_at.ensures c.in_err-code.ensures.fails))

pub returns-clause-done : goal.returns-clause-done
returns-clause-done g c =
    let left = c.args.left in
    let head = c.read_head.new.buffer in
    let passes = head_passes left c.u32_at-count.result head c.u32_at-count.ensures c.if-count-eq0.false c.if-count-left.false in
    let found = subst (λ (l : List ℕ). IfOk c.block_of.result (λ lists. check_code c.args.vertices left c.u32_at-count.result l ≡ Ok lists)) c.deref.ensures.value c.block_of.ensures.found in
    block_ends c.args.vertices left c.u32_at-count.result c.u64_at.result head c.in_ok-code.code.items c.block_of.result passes c.u32_at-count.ensures c.u64_at.ensures (tells_full 12 _ (omega arith) c.in_ok-read_head.ensures.done) c.in_ok-code.ensures.done found

pub returns-clause-some : goal.returns-clause-some
returns-clause-some g c = some_found c.u32_at-count.result c.block_of.result c.if-count-eq0.false c.block_of.ensures.many

pub returns-clause-within : goal.returns-clause-within
returns-clause-within g c = few_found c.u32_at-count.result c.args.left c.block_of.result c.if-count-left.false c.block_of.ensures.many

pub returns-clause-fails : goal.returns-clause-fails
returns-clause-fails g c =
    let left = c.args.left in
    let head = c.read_head.new.buffer in
    let passes = head_passes left c.u32_at-count.result head c.u32_at-count.ensures c.if-count-eq0.false c.if-count-left.false in
    let refused = subst (λ (l : List ℕ). IfErr c.block_of.result (λ e. IsOfBytes e → check_code c.args.vertices left c.u32_at-count.result l ≡ Err e)) c.deref.ensures.value c.block_of.ensures.refused in
    block_stops c.args.vertices left c.u32_at-count.result c.u64_at.result head c.in_ok-code.code.items c.block_of.result passes c.u32_at-count.ensures c.u64_at.ensures (tells_full 12 _ (omega arith) c.in_ok-read_head.ensures.done) c.in_ok-code.ensures.done refused c.block_of.ensures.kind
