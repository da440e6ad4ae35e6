use Rattle.std.proofs.Common.{◌∙◌, List, ℕ, [], ◌∷◌, ◌++◌, ap}
use Rattle.std.specs.Prelude.{codes, decimal}
use Rattle.ball_model.specs.WorldText.{words_line}
use Rattle.node.proofs.StepLemmas.{keep_told}
use Rattle.node.proofs.serve.answer_keep.Goals as goal

pub returns-in-Ok-clause-done : goal.returns-in-Ok-clause-done
returns-in-Ok-clause-done g c = λ network body.
    keep_told network body c.args.replica.now c.superstep.result c.checkpoint_length.result c.deref.result.now
    (g.W.Write.contents c.args.writer.now) (g.W.Write.contents c.write_lines.new.writer) (g.W.Write.contents c.write_checkpoint.new.writer)
    c.superstep.ensures.value c.checkpoint_length.ensures
    (c.deref.ensures.value ∙ c.in_ok-put_kept.ensures
    ∙ ap (λ (l : List ℕ). l ++ words_line (codes "kept" ∷ decimal c.superstep.result ∷ decimal c.checkpoint_length.result ∷ [])) c.clear.ensures.items)
    c.in_ok-write_lines.ensures.appended c.in-Ok.ensures.done
