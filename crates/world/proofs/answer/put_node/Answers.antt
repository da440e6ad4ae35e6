use Rattle.std.proofs.Common.{◌∙◌, ap}
use Rattle.std.specs.Prelude.{decimal}
use Rattle.world.proofs.AnswerLemmas.{node-put, pair-put, put-is, two-put}
use Rattle.world.proofs.answer.put_node.Goals as goal

pub returns : goal.returns
returns c = λ j h has.
    node-put j c.args.id h c.args.replica.now c.verdict.result c.args.line.now.items c.extend_from_slice.new.self.items c.put_pair.new.line.items c.put_spaced.new.line.items c.put_names.new.line.items c.extend_from_slice-2.new.self.items has c.superstep.ensures.state
    (c.verdict.ensures.stands j h.partition h.superstep has.stands)
    (put-is c.args.line.now.items c.extend_from_slice.new.self.items c.as_slice.result.now _ c.in_ok-extend_from_slice.ensures.items c.as_slice.ensures)
    (pair-put c.extend_from_slice.new.self.items c.put_pair.new.line.items 46 c.from.result c.from-2.result c.args.id.part c.args.id.replica c.in_ok-put_pair.ensures c.from.ensures c.from-2.ensures)
    (two-put c.put_pair.new.line.items c.put_spaced.new.line.items _ _ _ _ c.in_ok-put_spaced.ensures (c.as_bytes.ensures.value ∙ c.format.ensures.text ∙ ap decimal c.superstep.ensures.value) c.verdict_word.ensures)
    c.in_ok-put_names.ensures
    (put-is c.put_names.new.line.items c.extend_from_slice-2.new.self.items c.as_slice-2.result.now _ c.in_ok-extend_from_slice-2.ensures.items c.as_slice-2.ensures)
