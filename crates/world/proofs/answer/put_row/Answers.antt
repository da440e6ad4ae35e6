use Rattle.std.proofs.Common.{◌∙◌, ap}
use Rattle.std.specs.Prelude.{codes}
use Rattle.ball_model.specs.Figures.{fixed6_of}
use Rattle.ball_model.specs.WorldText.{registers_word, row_line}
use Rattle.world.proofs.AnswerLemmas.{four-put, put-is, row-put}
use Rattle.world.proofs.answer.put_row.Goals as goal

pub returns : goal.returns
unfolding row_line
returns c =
    row-put c.args.line.now.items c.extend_from_slice.new.self.items c.put_spaced.new.line.items c.extend_from_slice-2.new.self.items c.put_registers.new.line.items c.extend_from_slice-3.new.self.items (codes "row") (registers_word c.args.row.now) _
    (put-is c.args.line.now.items c.extend_from_slice.new.self.items c.as_slice.result.now _ c.in_ok-extend_from_slice.ensures.items c.as_slice.ensures)
    (four-put c.extend_from_slice.new.self.items c.put_spaced.new.line.items _ _ _ _ _ _ _ _ c.in_ok-put_spaced.ensures
    (c.as_bytes.ensures.value ∙ c.format.ensures.text)
    (c.as_bytes-2.ensures.value ∙ c.fixed6.ensures ∙ ap fixed6_of c.from.ensures)
    (c.as_bytes-3.ensures.value ∙ c.fixed6-2.ensures ∙ ap fixed6_of c.from-2.ensures)
    (c.as_bytes-4.ensures.value ∙ c.fixed6-3.ensures))
    (put-is c.put_spaced.new.line.items c.extend_from_slice-2.new.self.items c.as_slice-2.result.now _ c.in_ok-extend_from_slice-2.ensures.items c.as_slice-2.ensures)
    c.in_ok-put_registers.ensures
    (put-is c.put_registers.new.line.items c.extend_from_slice-3.new.self.items c.as_slice-3.result.now _ c.in_ok-extend_from_slice-3.ensures.items c.as_slice-3.ensures)
