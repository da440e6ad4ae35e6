use Rattle.std.proofs.Common.{◌+◌, ◌++◌, ℕ, List, length, take, drop, refl, le_refl, arith}
use Rattle.std.proofs.lemmas.List.{length-append, length-take}
use Rattle.std.proofs.lemmas.Result.{err_from_is_err_and}
use Rattle.job.specs.declared.limits.TheConstants.{MOST_BYTES}
use Rattle.hyperball.proofs.WholeLemmas.{read_lost, taken_within}
use Rattle.hyperball.proofs.whole.read_all.Goals as goal

pub returns-in_err-add_piece-in-Full-clause-few : goal.returns-in_err-add_piece-in-Full-clause-few
returns-in_err-add_piece-in-Full-clause-few g c =
    let within = taken_within c.min-room.result c.loop-bytes.buffer in
    read_lost _ _ _ c.loop-bytes.bytes.items _ (MOST_BYTES + 1) c.loop-bytes.invariant.read c.fill.ensures.few
    (omega (arith, within, c.min-room.ensures, c.len.ensures, c.loop-bytes.invariant.read.few))

pub slice_bounds-add_piece-end-in-Ended : goal.slice_bounds-add_piece-end-in-Ended
slice_bounds-add_piece-end-in-Ended g c =
    let fewer = (c.in-Ended.ensures.ended c.in-Ended.count refl).fewer in
    omega (arith, fewer, length-append c.fill.new.buf (drop c.min-room.result c.loop-bytes.buffer))

pub returns-in-Ended-clause-few : goal.returns-in-Ended-clause-few
returns-in-Ended-clause-few g c =
    let within = taken_within c.min-room.result c.loop-bytes.buffer in
    read_lost _ _ _ c.loop-bytes.bytes.items _ (MOST_BYTES + 1) c.loop-bytes.invariant.read c.fill.ensures.few
    (omega (arith, within, c.min-room.ensures, c.len.ensures, c.loop-bytes.invariant.read.few))

pub returns-in-Failed-clause-few : goal.returns-in-Failed-clause-few
returns-in-Failed-clause-few g c =
    let within = taken_within c.min-room.result c.loop-bytes.buffer in
    read_lost _ _ _ c.loop-bytes.bytes.items _ (MOST_BYTES + 1) c.loop-bytes.invariant.read c.fill.ensures.few
    (omega (arith, within, c.min-room.ensures, c.len.ensures, c.loop-bytes.invariant.read.few))

-- the piece that there was no memory for is as long as what was read
pub returns-in_err-add_piece-in-Full-clause-memory : goal.returns-in_err-add_piece-in-Full-clause-memory
returns-in_err-add_piece-in-Full-clause-memory g c =
    let p = err_from_is_err_and c.from_residual.result c.from_residual.ensures.1 in
    let piece : List ℕ = c.fill.new.buf in
    let rest = drop c.min-room.result c.loop-bytes.buffer in
    let within = taken_within c.min-room.result c.loop-bytes.buffer in
    rw (p.1, p.2) (λ is.
    let fits = c.in_err-add_piece-in-Full.ensures.memory is in
    let long = length-take c.min-room.result (piece ++ rest) in
    read_lost _ _ _ c.loop-bytes.bytes.items (length piece) MOST_BYTES c.loop-bytes.invariant.read (record { bytes = piece; consumed = c.in-Full.ensures.full refl; few = le_refl _ })
    (omega (arith, fits, long, length-append piece rest, within, c.fill.auto.buf)))

pub returns-in-Ended-clause-memory : goal.returns-in-Ended-clause-memory
returns-in-Ended-clause-memory g c = λ is.
    let n : ℕ = c.in-Ended.count in
    let last = c.in-Ended.ensures.ended n refl in
    let piece : List ℕ = take n c.fill.new.buf in
    let rest = drop c.min-room.result c.loop-bytes.buffer in
    let fits = c.add_piece-in-Ended.ensures.memory is in
    let long = length-take n (c.fill.new.buf ++ rest) in
    read_lost _ _ _ c.loop-bytes.bytes.items (length piece) MOST_BYTES c.loop-bytes.invariant.read (record { bytes = piece; consumed = last.consumed; few = le_refl _ })
    (omega (arith, fits, long, length-take n c.fill.new.buf, length-append c.fill.new.buf rest, last.fewer))
