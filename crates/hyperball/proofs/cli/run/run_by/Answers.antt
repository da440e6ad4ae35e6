use Rattle.std.proofs.Common.{ap}
use Rattle.std.specs.Prelude.{Err, IfErr}
use Rattle.hyperball.specs.Refusals.{FailsJob}
use Rattle.hyperball.specs.Streams.{Reads, Writes, reads_of, writes_of}
use Rattle.hyperball.proofs.RefusalLemmas.{reports_unlisted, same_error, unlisted_fails}
use Rattle.hyperball.proofs.SubcommandLemmas.{run_fails}
use Rattle.hyperball.proofs.cli.run.run_by.Goals as goal
use Rattle.hyperball.proofs.cli.run.run_by.Goals.{then-args, else-args+in-Ok-run_watched, else-args+in-Err}

pub returns-clause-done : goal.returns-clause-done
returns-clause-done g c =
    let r : Reads = reads_of g.R.Read.remaining g.R.CountedRead.failed_calls g.R.CountedRead.sure_calls c.args.reader.now c.if-args.reader in
    let w : Writes = writes_of g.W.Write.contents g.W.CountedWrite.failed_calls c.args.writer.now c.if-args.writer in
    elim c.if-args.branch [
      | then-args k ↦ rw (k.answer-is, k.reader-is, k.writer-is, k.if-args.true) k.run_listed-answer.ensures.done
      | else-args+in-Ok-run_watched k ↦
          rw (k.answer-is, k.reader-is, k.writer-is) (reports_unlisted c.args.args.options c.args.args.counted _ _ k.if-args.false k.in-Ok-run_watched.ensures.ok
          (λ one. let bad = k.in-Ok-run_watched.ensures.failed one in absurd (cc)) (k.in-Ok-run_watched.ensures.written (λ is. absurd (cc))))
      | else-args+in-Err k ↦ rw k.answer-is tt
    ]

pub returns-clause-fault : goal.returns-clause-fault
returns-clause-fault g c =
    let r : Reads = reads_of g.R.Read.remaining g.R.CountedRead.failed_calls g.R.CountedRead.sure_calls c.args.reader.now c.if-args.reader in
    let w : Writes = writes_of g.W.Write.contents g.W.CountedWrite.failed_calls c.args.writer.now c.if-args.writer in
    let fails : IfErr c.if-args.answer (FailsJob c.args.args.options c.args.args.counted r w) = elim c.if-args.branch [
      | then-args k ↦ rw (k.answer-is, k.reader-is, k.writer-is, k.if-args.true) k.run_listed-answer.ensures.fault
      | else-args+in-Ok-run_watched k ↦ rw k.answer-is tt
      | else-args+in-Err k ↦
          rw (k.answer-is, k.reader-is, k.writer-is) (unlisted_fails c.args.args.options c.args.args.counted _ _ k.in-Err.error k.if-args.false k.in-Err.ensures.fault
          k.in-Err.ensures.of_edges k.in-Err.ensures.refused
          (λ is. k.in-Err.ensures.read (ap Err is)) (λ one. same_error _ _ (k.in-Err.ensures.failed one))
          k.in-Err.ensures.untouched (λ is. k.in-Err.ensures.write (ap Err is))
          (λ other. k.in-Err.ensures.written (λ is. other (same_error _ _ is))) (λ is. k.in-Err.ensures.begun (ap Err is)))
    ] in
    run_fails c.args.args r w c.if-args.answer fails
