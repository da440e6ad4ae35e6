use Rattle.std.proofs.Common.{◌∙◌, ◌++◌, List, ℕ, ap}
use Rattle.ball_model.specs.WorldText.{node_line}
use Rattle.world.proofs.ToldLemmas.{tells_of}
use Rattle.world.proofs.tell.tell_head.Goals as goal

pub returns : goal.returns
returns g c =
    tells_of g.W.Write.contents g.W.CountedWrite.failed_calls c.args.replica.now (λ j h. node_line j c.args.id h) c.deref.result.now c.args.writer.now c.write_lines.new.writer c.write_lines.result
    (λ j h has. c.deref.ensures.value ∙ c.in_ok-put_node.ensures j h has ∙ ap (λ (l : List ℕ). l ++ node_line j c.args.id h) c.clear.ensures.items)
    c.write_lines.ensures
