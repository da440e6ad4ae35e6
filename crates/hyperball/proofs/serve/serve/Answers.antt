use Rattle.std.proofs.Common.{ap, arith, inl, inr, refl}
use Rattle.std.specs.Prelude.{Err}
use Rattle.hyperball.specs.Ends.{FailsBy, FailsSubcommand}
use Rattle.hyperball.specs.Streams.{Reads, Writes, reads_of, writes_of}
use Rattle.hyperball.specs.declared.cli.Subcommand.{Subcommand}
use Rattle.hyperball.specs.declared.cli.Subcommand.TheVariants as subcommand
use Rattle.hyperball.specs.declared.fault.Fault.{Fault}
use Rattle.hyperball.specs.declared.fault.Fault.TheVariants as fault
use Rattle.hyperball.proofs.ProgressLemmas.{tells_none}
use Rattle.hyperball.proofs.WholeLemmas.{none_read}
use Rattle.hyperball.proofs.SubcommandLemmas.{accepted_mistake, accepted_undone, says_done, says_reads, subcommand_leaves}
use Rattle.hyperball.proofs.serve.serve.Goals as goal

-- a subcommand that fails with some fault fails
fails_subcommand : (x : Subcommand) (r : Reads) (w : Writes) (f : Fault) → FailsBy x r w f → FailsSubcommand x r w
fails_subcommand (subcommand.Run v) r w f fails = inr (record { fault = f; due = fails })
fails_subcommand (subcommand.Replay v) r w fault.Gate fails = inr (record { fault = fault.Gate; due = fails })
fails_subcommand (subcommand.Replay v) r w fault.Random none = inl none
fails_subcommand (subcommand.Replay v) r w (fault.Input e) fails = inr (record { fault = fault.Input e; due = fails })
fails_subcommand (subcommand.Replay v) r w (fault.Lacks missing) fails = inr (record { fault = fault.Lacks missing; due = fails })
fails_subcommand (subcommand.Replay v) r w (fault.Run e) fails = inr (record { fault = fault.Run e; due = fails })
fails_subcommand (subcommand.Replay v) r w (fault.Replay e) fails = inr (record { fault = fault.Replay e; due = fails })
fails_subcommand (subcommand.Replay v) r w (fault.Node e) fails = inr (record { fault = fault.Node e; due = fails })
fails_subcommand (subcommand.Replay v) r w (fault.Gather e) fails = inr (record { fault = fault.Gather e; due = fails })
fails_subcommand (subcommand.Node v) r w fault.Gate fails = absurd fails
fails_subcommand (subcommand.Node v) r w fault.Random none = inl none
fails_subcommand (subcommand.Node v) r w (fault.Input e) fails = absurd fails
fails_subcommand (subcommand.Node v) r w (fault.Lacks missing) fails = absurd fails
fails_subcommand (subcommand.Node v) r w (fault.Run e) fails = absurd fails
fails_subcommand (subcommand.Node v) r w (fault.Replay e) fails = absurd fails
fails_subcommand (subcommand.Node v) r w (fault.Node e) fails = inr (record { fault = e; due = fails })
fails_subcommand (subcommand.Node v) r w (fault.Gather e) fails = absurd fails
fails_subcommand (subcommand.Gather v) r w fault.Gate fails = absurd fails
fails_subcommand (subcommand.Gather v) r w fault.Random none = inl none
fails_subcommand (subcommand.Gather v) r w (fault.Input e) fails = absurd fails
fails_subcommand (subcommand.Gather v) r w (fault.Lacks missing) fails = absurd fails
fails_subcommand (subcommand.Gather v) r w (fault.Run e) fails = absurd fails
fails_subcommand (subcommand.Gather v) r w (fault.Replay e) fails = absurd fails
fails_subcommand (subcommand.Gather v) r w (fault.Node e) fails = absurd fails
fails_subcommand (subcommand.Gather v) r w (fault.Gather e) fails = inr (record { fault = e; due = fails })

pub returns-in-Ok-answer-clause-asked : goal.returns-in-Ok-answer-clause-asked
returns-in-Ok-answer-clause-asked g c = λ a is.
    let r : Reads = reads_of g.R.Read.remaining g.R.CountedRead.failed_calls g.R.CountedRead.sure_calls c.args.reader.now c.fulfil-answer.new.reader in
    let w : Writes = writes_of g.W.Write.contents g.W.CountedWrite.failed_calls c.args.writer.now c.fulfil-answer.new.writer in
    let says = c.in-Ok.ensures.asked a is in
    record {
      done = λ zero. says_done a c.in-Ok.subcommand r w says c.in-Ok-answer.ensures.done;
      fault = λ one. absurd (omega (arith, one));
      few = λ all. c.in-Ok-answer.ensures.few (says_reads a c.in-Ok.subcommand says all);
    }

pub returns-in-Err-answer-clause-asked : goal.returns-in-Err-answer-clause-asked
returns-in-Err-answer-clause-asked g c = λ a is.
    let r : Reads = reads_of g.R.Read.remaining g.R.CountedRead.failed_calls g.R.CountedRead.sure_calls c.args.reader.now c.fulfil-answer.new.reader in
    let w : Writes = writes_of g.W.Write.contents g.W.CountedWrite.failed_calls c.args.writer.now c.fulfil-answer.new.writer in
    let says = c.in-Ok.ensures.asked a is in
    record {
      done = λ zero. absurd (omega (arith, zero, c.tell_fault.ensures));
      fault = λ one. inr (record { found = c.in-Ok.subcommand; says = says; orders = c.in-Ok.ensures.found.orders; fails = fails_subcommand c.in-Ok.subcommand r w c.in-Err-answer.fault c.in-Err-answer.ensures.fault });
      few = λ all. c.in-Err-answer.ensures.few (says_reads a c.in-Ok.subcommand says all);
    }

pub returns-in-Err-answer-clause-one : goal.returns-in-Err-answer-clause-one
returns-in-Err-answer-clause-one g c = λ one.
    let r : Reads = reads_of g.R.Read.remaining g.R.CountedRead.failed_calls g.R.CountedRead.sure_calls c.args.reader.now c.fulfil-answer.new.reader in
    let w : Writes = writes_of g.W.Write.contents g.W.CountedWrite.failed_calls c.args.writer.now c.fulfil-answer.new.writer in
    subcommand_leaves _ c.in-Ok.subcommand r w c.in-Ok.ensures.found.asks (fails_subcommand c.in-Ok.subcommand r w c.in-Err-answer.fault c.in-Err-answer.ensures.fault)

pub returns-in-Err-clause-asked : goal.returns-in-Err-clause-asked
returns-in-Err-clause-asked g c = λ a is.
    let kept = c.tell_words.ensures.unwritten (c.in-Err.ensures.faults _ is.accepted) in
    record {
      done = λ zero. absurd (accepted_undone _ _ (c.tell_words.ensures.accepted (c.in-Err.ensures.faults _ is.accepted)) zero);
      fault = λ one. inl (record { unread = refl; reads = refl; unwritten = kept.contents; writes = kept.failed });
      few = λ all. none_read _ _;
    }

pub returns-in-Err-clause-refused : goal.returns-in-Err-clause-refused
returns-in-Err-clause-refused g c = λ kinds has. c.tell_words.ensures.refused kinds (c.in-Err.ensures.faults kinds has)

pub returns-in-Err-clause-unread : goal.returns-in-Err-clause-unread
returns-in-Err-clause-unread g c = λ kinds has some. record { bytes = refl; failed = refl }

pub returns-in-Err-clause-one : goal.returns-in-Err-clause-one
returns-in-Err-clause-one g c = λ one. inl (c.tell_words.ensures.left.fault one)

pub returns-in-Err-clause-two : goal.returns-in-Err-clause-two
returns-in-Err-clause-two g c = λ two. record {
  unread = record { bytes = refl; failed = refl };
  kept = c.tell_words.ensures.left.mistake two;
  orders = λ has. (c.in-Err.ensures.lists _ (ap Err (accepted_mistake _ _ (c.tell_words.ensures.accepted (c.in-Err.ensures.faults _ has)) two))).0;
  misspelt = λ has. (c.in-Err.ensures.lists _ (ap Err (accepted_mistake _ _ (c.tell_words.ensures.accepted (c.in-Err.ensures.faults _ has)) two))).1;
}

pub returns-in-Err-clause-told : goal.returns-in-Err-clause-told
returns-in-Err-clause-told g c = λ zero. record {
  silent = λ quiet. c.tell_words.ensures.silent zero;
  told = tells_none (g.F.Write.contents c.args.faults.now) (g.F.Write.contents c.tell_words.new.faults) (c.tell_words.ensures.silent zero);
}
