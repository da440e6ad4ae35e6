use Rattle.std.specs.List.{flat_map}
use Rattle.std.proofs.lemmas.Result.{err_from_is_err_and}
use Rattle.ball_model.specs.State.{own_vertices}
use Rattle.ball_model.specs.WorldText.{node_line, row_text, show_text}
use Rattle.world.proofs.ToldLemmas.{stops_more, tells_both}
use Rattle.world.proofs.tell.tell_replica.Goals as goal

pub returns-in_err-tell_head : goal.returns-in_err-tell_head
unfolding show_text
returns-in_err-tell_head g c =
    let p = err_from_is_err_and c.from_residual.result c.from_residual.ensures.1 in
    rw (p.1, p.2)
    (stops_more g.W.Write.contents g.W.CountedWrite.failed_calls c.args.replica.now (λ j h. node_line j c.args.id h) (λ j h. flat_map (row_text j h.superstep) (own_vertices j h.partition)) c.args.writer.now c.tell_head.new.writer c.in_err-tell_head.field-0.0 c.in_err-tell_head.ensures)

pub returns : goal.returns
unfolding show_text
returns g c =
    tells_both g.W.Write.contents g.W.CountedWrite.failed_calls c.args.replica.now (λ j h. node_line j c.args.id h) (λ j h. flat_map (row_text j h.superstep) (own_vertices j h.partition)) c.args.writer.now c.tell_head.new.writer c.tell_vertices.new.writer c.tell_vertices.result
    c.in_ok-tell_head.ensures c.tell_vertices.ensures
