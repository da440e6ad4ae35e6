use Rattle.std.proofs.Common.{ap, arith, refl}
use Rattle.std.specs.Prelude.{Err}
use Rattle.std.proofs.lemmas.Result.{err_from_is_err_and}
use Rattle.ball_model.specs.RunText.{list_in}
use Rattle.ball_model.specs.Streams.{Rises}
use Rattle.hyperball.specs.Streams.{Reads, Writes, reads_of, writes_of}
use Rattle.hyperball.specs.Whole.{Parts}
use Rattle.hyperball.proofs.RefusalLemmas.{lacking, listed_fails, reports_listed, same_error, unread}
use Rattle.hyperball.proofs.WholeLemmas.{IsRead, read_well, seen, told_of}
use Rattle.hyperball.proofs.SubcommandLemmas.{keeps_same}
use Rattle.hyperball.proofs.cli.run.run_listed.Goals as goal

pub returns-in_err-input-clause-fault : goal.returns-in_err-input-clause-fault
returns-in_err-input-clause-fault g c =
    let p = err_from_is_err_and c.from_residual.result c.from_residual.ensures.1 in
    let r : Reads = reads_of g.R.Read.remaining g.R.CountedRead.failed_calls g.R.CountedRead.sure_calls c.args.reader.now c.read_whole.new.reader in
    let w : Writes = writes_of g.W.Write.contents g.W.CountedWrite.failed_calls c.args.writer.now c.args.writer.now in
    rw (p.1, p.2) (unread c.args.job.now.options.now r w c.in_err-input.field-0.0 (told_of r c.in_err-input.field-0.0 _ c.in_err-input.ensures.reads) (keeps_same _ _ refl) refl)

pub returns-in_err-parts-clause-fault : goal.returns-in_err-parts-clause-fault
returns-in_err-parts-clause-fault g c =
    let p = err_from_is_err_and c.from_residual-in_err-parts.result c.from_residual-in_err-parts.ensures.1 in
    let r : Reads = reads_of g.R.Read.remaining g.R.CountedRead.failed_calls g.R.CountedRead.sure_calls c.args.reader.now c.read_whole.new.reader in
    let w : Writes = writes_of g.W.Write.contents g.W.CountedWrite.failed_calls c.args.writer.now c.args.writer.now in
    let read : IsRead r c.in_ok-input.input.items = read_well r _ _ _ c.in_ok-input.ensures.ok c.in_ok-input.ensures.within c.in_ok-input.ensures.reads in
    rw (p.1, p.2) (lacking c.args.job.now.options.now r w c.deref.result.now c.in_err-parts.field-0.0 (seen r _ _ read c.deref.ensures.value) c.in_err-parts.ensures.lacks (keeps_same _ _ refl) refl)

pub returns-in_err-run_watched-clause-fault : goal.returns-in_err-run_watched-clause-fault
returns-in_err-run_watched-clause-fault g c =
    let p = err_from_is_err_and c.from_residual-in_err-run_watched.result c.from_residual-in_err-run_watched.ensures.1 in
    let r : Reads = reads_of g.R.Read.remaining g.R.CountedRead.failed_calls g.R.CountedRead.sure_calls c.args.reader.now c.read_whole.new.reader in
    let w : Writes = writes_of g.W.Write.contents g.W.CountedWrite.failed_calls c.args.writer.now c.run_watched.new.writer in
    let read : IsRead r c.in_ok-input.input.items = read_well r _ _ _ c.in_ok-input.ensures.ok c.in_ok-input.ensures.within c.in_ok-input.ensures.reads in
    let parts : Parts = record { edges = c.in_ok-parts.parts.edges.now; list = list_in c.in_ok-parts.parts.list; script = list_in c.in_ok-parts.parts.script } in
    rw (p.1, p.2) (listed_fails c.args.job.now.options.now r w c.deref.result.now c.new-edges.result.left.now parts c.in_err-run_watched.field-0.0
    (seen r _ _ read c.deref.ensures.value) c.in_ok-parts.ensures.ok c.new-edges.ensures c.in_err-run_watched.ensures.fault
    (c.in_err-run_watched.ensures.of_edges c.new-edges.result.left.now refl) c.in_err-run_watched.ensures.refused
    (λ is. let bad : Rises 0 0 = c.in_err-run_watched.ensures.read (ap Err is) in absurd (omega (arith, bad)))
    c.in_err-run_watched.ensures.untouched (λ is. c.in_err-run_watched.ensures.write (ap Err is))
    (λ other. c.in_err-run_watched.ensures.written (λ is. other (same_error _ _ is))) (λ is. c.in_err-run_watched.ensures.begun (ap Err is)))

pub returns-clause-done : goal.returns-clause-done
returns-clause-done g c =
    let r : Reads = reads_of g.R.Read.remaining g.R.CountedRead.failed_calls g.R.CountedRead.sure_calls c.args.reader.now c.read_whole.new.reader in
    let w : Writes = writes_of g.W.Write.contents g.W.CountedWrite.failed_calls c.args.writer.now c.run_watched.new.writer in
    let read : IsRead r c.in_ok-input.input.items = read_well r _ _ _ c.in_ok-input.ensures.ok c.in_ok-input.ensures.within c.in_ok-input.ensures.reads in
    let parts : Parts = record { edges = c.in_ok-parts.parts.edges.now; list = list_in c.in_ok-parts.parts.list; script = list_in c.in_ok-parts.parts.script } in
    reports_listed c.args.job.now.options.now r w c.deref.result.now c.new-edges.result.left.now parts
    (seen r _ _ read c.deref.ensures.value) c.in_ok-parts.ensures.ok c.new-edges.ensures c.in_ok-run_watched.ensures.ok
    (c.in_ok-run_watched.ensures.written (λ is. absurd (cc)))
