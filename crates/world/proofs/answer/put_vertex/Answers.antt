use Rattle.ball_model.specs.WorldText.{row_text}
use Rattle.world.proofs.answer.put_vertex.Goals as goal

pub returns : goal.returns
unfolding row_text
returns c = λ j h has.
    rw (← c.tally.ensures.stands j h.partition h.superstep has.stands, ← c.row.ensures.stands j h.partition h.superstep has.stands) c.put_row.ensures
