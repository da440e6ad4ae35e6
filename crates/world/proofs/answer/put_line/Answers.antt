use Rattle.std.proofs.Common.{map}
use Rattle.world.proofs.AnswerLemmas.{line-put, put-is}
use Rattle.world.proofs.answer.put_line.Goals as goal

pub returns : goal.returns
returns c = line-put c.args.line.now.items c.extend_from_slice.new.self.items c.put_spaced.new.line.items c.extend_from_slice-2.new.self.items c.args.first.now (map (λ word. word.now) c.args.words.now) c.in_ok-extend_from_slice.ensures.items c.in_ok-put_spaced.ensures (put-is _ _ _ _ c.in_ok-extend_from_slice-2.ensures.items c.as_slice.ensures)
