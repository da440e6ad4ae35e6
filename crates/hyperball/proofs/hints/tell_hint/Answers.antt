use Rattle.std.proofs.Common.{◌≡◌, ◌∙◌, Bool, true, false, List, [], ℕ, refl, sym, arith, append-nil}
use Rattle.std.specs.Io.KnownBytes.{Appends}
use Rattle.ball_model.specs.Streams.{PutsFront, RisesByOne}
use Rattle.hyperball.specs.Hints.{TellsHint, line_of_hint}
use Rattle.hyperball.specs.Streams.{Writes, writes_of}
use Rattle.hyperball.specs.declared.hints.Hint.{Hint}
use Rattle.hyperball.proofs.hints.tell_hint.Goals as goal

-- where all bytes of a hint's line were written, or a beginning of them, the hint is told
tells : (said : Hint) (bytes : List ℕ) (w : Writes) (all : Bool) → bytes ≡ line_of_hint said →
    (all ≡ true → Appends w.contents.old w.contents.new bytes) →
    (all ≡ false → PutsFront w.contents.old w.contents.new bytes) →
    (all ≡ false → RisesByOne w.failed.old w.failed.new) → TellsHint said w
tells said bytes w true is done front failed = record {
  front = bytes;
  rest = [];
  split = sym is ∙ sym (append-nil bytes);
  appended = done refl;
  whole = λ same. refl;
}
tells said bytes w false is done front failed =
    let put : PutsFront w.contents.old w.contents.new bytes = front refl in
    let risen : RisesByOne w.failed.old w.failed.new = failed refl in
    record {
      front = put.front;
      rest = put.rest;
      split = sym is ∙ put.split;
      appended = put.appended;
      whole = λ same. absurd (omega (arith, same, risen));
    }

pub returns : goal.returns
returns g c =
    let w : Writes = writes_of g.W.Write.contents g.W.CountedWrite.failed_calls c.args.faults.now c.put_all.new.writer in
    tells c.args.hint c.as_bytes.result.now w c.put_all.result (c.as_bytes.ensures.value ∙ c.line.ensures)
    c.put_all.ensures.done c.put_all.ensures.front c.put_all.ensures.failed
