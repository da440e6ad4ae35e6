use Rattle.std.specs.Prelude.{true, false}
use Rattle.std.proofs.Common.{◌≡◌, ◌+◌, sym, ap, ◌∙◌, arith}
use Rattle.std.specs.Int.{w64, from_be_bytes}
use Rattle.std.proofs.lemmas.Result.{err_from_is_err_and, IfErr-weaker, on_ok_weaker}
use Rattle.checkpoint.specs.declared.error.KeepError.TheVariants as errors
use Rattle.checkpoint.specs.Reading.{told_batch, is_batch_length, greatest_batch}
use Rattle.checkpoint.proofs.ReaderLemmas.{batch-small, fails_after, fails_as, fails_first, fails_full, fails_here, grows_after, grows_as, not_wanting, told-needs, told-refused}
use Rattle.checkpoint.proofs.stream.read_batch.Goals as goal

pub returns-in_err-read_full-clause-fails : goal.returns-in_err-read_full-clause-fails
returns-in_err-read_full-clause-fails g c =
    let p = err_from_is_err_and c.from_residual.result c.from_residual.ensures.1 in
    rw (p.1, p.2) (fails_first (told_batch c.args.plan.now) (8 + greatest_batch c.args.plan.now) (omega arith) (fails_full 8 _ (omega arith) c.in_err-read_full.ensures.fails))

pub returns-then-not-may_be_batch-clause-fails : goal.returns-then-not-may_be_batch-clause-fails
returns-then-not-may_be_batch-clause-fails g c =
    let plan = c.args.plan.now in
    let number = c.read_full.new.buffer in
    let no : is_batch_length plan (from_be_bytes w64 number) ≡ false = ap (is_batch_length plan) (sym c.from_be_bytes-length.ensures) ∙ sym (c.if-not-may_be_batch.ensures) in
    fails_after 8 (told_batch plan) (8 + greatest_batch plan) c.in_ok-read_full.ensures.done (omega arith) (omega arith)
    (fails_here g.R.Read.remaining g.R.CountedRead.failed_calls g.R.CountedRead.sure_calls c.read_full.new.reader (told_batch plan number) (greatest_batch plan) errors.Shape (λ is. is) (not_wanting errors.Shape (λ is. is)) (λ bytes _. told-refused plan number bytes no))

pub returns-clause-done : goal.returns-clause-done
returns-clause-done g c =
    let plan = c.args.plan.now in
    let number = c.read_full.new.buffer in
    let n = c.from_be_bytes-length.result in
    let told : from_be_bytes w64 number ≡ n = sym c.from_be_bytes-length.ensures in
    let is : is_batch_length plan n ≡ true = sym (c.if-not-may_be_batch.ensures) in
    on_ok_weaker c.read_more.result (λ q. grows_after 8 (told_batch plan) (8 + greatest_batch plan) c.in_ok-read_full.ensures.done (omega arith) c.put.ensures (omega arith)
    (grows_as (told_batch plan number) (greatest_batch plan) (λ bytes. told-needs plan number bytes n told is) (batch-small plan n is) q)) c.read_more.ensures.done

pub returns-clause-fails : goal.returns-clause-fails
returns-clause-fails g c =
    let plan = c.args.plan.now in
    let number = c.read_full.new.buffer in
    let n = c.from_be_bytes-length.result in
    let told : from_be_bytes w64 number ≡ n = sym c.from_be_bytes-length.ensures in
    let is : is_batch_length plan n ≡ true = sym (c.if-not-may_be_batch.ensures) in
    IfErr-weaker c.read_more.result _ _ (λ e q. fails_after 8 (told_batch plan) (8 + greatest_batch plan) c.in_ok-read_full.ensures.done (omega arith) (omega arith)
    (fails_as (told_batch plan number) (greatest_batch plan) (λ bytes. told-needs plan number bytes n told is) (batch-small plan n is) q)) c.read_more.ensures.fails
