use Rattle.std.proofs.Common.{◌≡◌, ◌+◌, ◌-◌, ◌*◌, ◌≤◌, ◌<◌, sym, arith}
use Rattle.std.specs.Int.{w16, from_be_bytes}
use Rattle.std.proofs.lemmas.Result.{err_from_is_err_and, IfErr-weaker, on_ok_weaker}
use Rattle.checkpoint.specs.declared.error.KeepError.TheVariants as errors
use Rattle.checkpoint.specs.Reading.{told_batches, most_early, greatest_batch}
use Rattle.checkpoint.proofs.ReaderLemmas.{batches-most, fails_after, fails_as, fails_first, fails_full, fails_here, grows_after, grows_as, not_wanting, number-refused, number-told}
use Rattle.checkpoint.proofs.stream.read_early.Goals as goal

pub returns-in_err-read_full-clause-fails : goal.returns-in_err-read_full-clause-fails
returns-in_err-read_full-clause-fails g c =
    let p = err_from_is_err_and c.from_residual.result c.from_residual.ensures.1 in
    rw (p.1, p.2) (fails_first (told_batches c.args.plan.now) (most_early c.args.plan.now) (omega arith) (fails_full 2 _ (omega arith) c.in_err-read_full.ensures.fails))

pub returns-then-count-parts-clause-fails : goal.returns-then-count-parts-clause-fails
returns-then-count-parts-clause-fails g c =
    let plan = c.args.plan.now in
    let number = c.read_full.new.buffer in
    let n = c.from_be_bytes-count.result in
    let told : from_be_bytes w16 number ≡ n = sym c.from_be_bytes-count.ensures in
    let above : 3 * (plan.parts - 1) < n = omega (arith, c.parts.ensures.value, c.if-count-parts.true) in
    fails_after {most = 0} 2 (told_batches plan) (most_early plan) c.in_ok-read_full.ensures.done (omega arith) (omega arith)
    (fails_here g.R.Read.remaining g.R.CountedRead.failed_calls g.R.CountedRead.sure_calls c.read_full.new.reader (told_batches plan number) 0 errors.Shape (λ is. is) (not_wanting errors.Shape (λ is. is)) (λ bytes _. number-refused plan number bytes n told above))

pub returns-clause-done : goal.returns-clause-done
returns-clause-done g c =
    let plan = c.args.plan.now in
    let number = c.read_full.new.buffer in
    let n = c.from_be_bytes-count.result in
    let told : from_be_bytes w16 number ≡ n = sym c.from_be_bytes-count.ensures in
    let le : n ≤ 3 * (plan.parts - 1) = omega (arith, c.parts.ensures.value, c.if-count-parts.false) in
    on_ok_weaker c.read_batches.result (λ q. grows_after 2 (told_batches plan) (most_early plan) c.in_ok-read_full.ensures.done (omega arith) c.put.ensures (omega arith)
    (grows_as (told_batches plan number) (3 * (plan.parts - 1) * (8 + greatest_batch plan)) (λ bytes. number-told plan number bytes n told le) (batches-most n (3 * (plan.parts - 1)) (8 + greatest_batch plan) le) q)) c.read_batches.ensures.done

pub returns-clause-fails : goal.returns-clause-fails
returns-clause-fails g c =
    let plan = c.args.plan.now in
    let number = c.read_full.new.buffer in
    let n = c.from_be_bytes-count.result in
    let told : from_be_bytes w16 number ≡ n = sym c.from_be_bytes-count.ensures in
    let le : n ≤ 3 * (plan.parts - 1) = omega (arith, c.parts.ensures.value, c.if-count-parts.false) in
    IfErr-weaker c.read_batches.result _ _ (λ e q. fails_after 2 (told_batches plan) (most_early plan) c.in_ok-read_full.ensures.done (omega arith) (omega arith)
    (fails_as (told_batches plan number) (3 * (plan.parts - 1) * (8 + greatest_batch plan)) (λ bytes. number-told plan number bytes n told le) (batches-most n (3 * (plan.parts - 1)) (8 + greatest_batch plan) le) q)) c.read_batches.ensures.fails
