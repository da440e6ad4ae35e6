use Rattle.std.proofs.Common.{ap, refl}
use Rattle.std.proofs.lemmas.Result.{err_from_is_err_and}
use Rattle.ball_model.specs.RunText.{list_in}
use Rattle.hyperball.specs.Streams.{Reads, Writes, reads_of, writes_of}
use Rattle.hyperball.proofs.ReplayLemmas.{answered, failing, has_parts, is_given, lacking, scripted, unread}
use Rattle.hyperball.proofs.WholeLemmas.{IsRead, read_well, seen, told_of}
use Rattle.hyperball.proofs.SubcommandLemmas.{keeps_same}
use Rattle.hyperball.proofs.cli.replay.replay_by.Goals as goal

pub returns-in_err-input-clause-fault : goal.returns-in_err-input-clause-fault
returns-in_err-input-clause-fault g c =
    let p = err_from_is_err_and c.from_residual.result c.from_residual.ensures.1 in
    let r : Reads = reads_of g.R.Read.remaining g.R.CountedRead.failed_calls g.R.CountedRead.sure_calls c.args.reader.now c.read_whole.new.reader in
    let w : Writes = writes_of g.W.Write.contents g.W.CountedWrite.failed_calls c.args.writer.now c.args.writer.now in
    rw (p.1, p.2) (unread c.args.args.now r w c.in_err-input.field-0.0 (told_of r c.in_err-input.field-0.0 _ c.in_err-input.ensures.reads) (keeps_same _ _ refl))

pub returns-in_err-parts-clause-fault : goal.returns-in_err-parts-clause-fault
returns-in_err-parts-clause-fault g c =
    let p = err_from_is_err_and c.from_residual-in_err-parts.result c.from_residual-in_err-parts.ensures.1 in
    let r : Reads = reads_of g.R.Read.remaining g.R.CountedRead.failed_calls g.R.CountedRead.sure_calls c.args.reader.now c.read_whole.new.reader in
    let w : Writes = writes_of g.W.Write.contents g.W.CountedWrite.failed_calls c.args.writer.now c.args.writer.now in
    let read : IsRead r c.in_ok-input.input.items = read_well r _ _ _ c.in_ok-input.ensures.ok c.in_ok-input.ensures.within c.in_ok-input.ensures.reads in
    rw (p.1, p.2) (lacking c.args.args.now r w c.deref.result.now c.in_err-parts.field-0.0 (seen r _ _ read c.deref.ensures.value) c.in_err-parts.ensures.lacks (keeps_same _ _ refl))

pub unwrap-script-requires : goal.unwrap-script-requires
unwrap-script-requires g c = is_given c.in_ok-parts.parts.script (scripted c.args.args.now.counted c.deref.result.now _ c.in_ok-parts.ensures.ok)

pub returns-in_err-replay_watched-clause-fault : goal.returns-in_err-replay_watched-clause-fault
returns-in_err-replay_watched-clause-fault g c =
    let p = err_from_is_err_and c.from_residual-in_err-replay_watched.result c.from_residual-in_err-replay_watched.ensures.1 in
    let r : Reads = reads_of g.R.Read.remaining g.R.CountedRead.failed_calls g.R.CountedRead.sure_calls c.args.reader.now c.read_whole.new.reader in
    let w : Writes = writes_of g.W.Write.contents g.W.CountedWrite.failed_calls c.args.writer.now c.replay_watched.new.writer in
    let read : IsRead r c.in_ok-input.input.items = read_well r _ _ _ c.in_ok-input.ensures.ok c.in_ok-input.ensures.within c.in_ok-input.ensures.reads in
    rw (p.1, p.2) (failing c.args.args.now r w c.deref.result.now c.in_err-replay_watched.field-0.0 (seen r _ _ read c.deref.ensures.value) (record {
      edges = c.in_ok-parts.parts.edges.now;
      list = list_in c.in_ok-parts.parts.list;
      script = c.unwrap-script.result.now;
      found = has_parts c.args.args.now _ _ _ _ _ c.in_ok-parts.ensures.ok (ap list_in c.unwrap-script.ensures);
      fails = c.in_err-replay_watched.ensures.failed;
    }))

pub returns-clause-done : goal.returns-clause-done
returns-clause-done g c =
    let r : Reads = reads_of g.R.Read.remaining g.R.CountedRead.failed_calls g.R.CountedRead.sure_calls c.args.reader.now c.read_whole.new.reader in
    let w : Writes = writes_of g.W.Write.contents g.W.CountedWrite.failed_calls c.args.writer.now c.replay_watched.new.writer in
    let read : IsRead r c.in_ok-input.input.items = read_well r _ _ _ c.in_ok-input.ensures.ok c.in_ok-input.ensures.within c.in_ok-input.ensures.reads in
    let it : IsRead r c.deref.result.now = seen r _ _ read c.deref.ensures.value in
    answered c.args.args.now r w c.deref.result.now it (record {
      edges = c.in_ok-parts.parts.edges.now;
      list = list_in c.in_ok-parts.parts.list;
      script = c.unwrap-script.result.now;
      found = has_parts c.args.args.now _ _ _ _ _ c.in_ok-parts.ensures.ok (ap list_in c.unwrap-script.ensures);
      within = it.within;
      commands = c.in_ok-replay_watched.ensures.commands;
      some = c.in_ok-replay_watched.ensures.some;
      appended = c.in_ok-replay_watched.ensures.ok;
    }) c.in_ok-replay_watched.ensures.counted
