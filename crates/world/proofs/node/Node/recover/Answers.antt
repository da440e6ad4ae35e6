use Rattle.std.proofs.Common.{subst}
use Rattle.std.specs.Prelude.{Result, IfOk}
use Rattle.ball_model.specs.declared.names.MergeError.{MergeError}
use Rattle.ball_model.specs.declared.world.Answer.TheVariants as answer
use Rattle.world.specs.Shows.{SeenNode}
use Rattle.world.specs.Turns.{Turns, merged_turn}
use Rattle.world.specs.contracts.node.Node.{the_view}
use Rattle.world.proofs.NodeLemmas.{node, MergesWith, if_unmerged, recover_turns, unmerged_turns}
use Rattle.world.proofs.node.Node.recover.Goals as goal
use Rattle.world.proofs.node.Node.recover.Goals.{in-Ok, in-Err}

pub returns-clause-turned : goal.returns-clause-turned
returns-clause-turned c = λ j h has.
    let v = c.self.inside.replica in
    let w = c.merge.new.self in
    let o = c.args.copy.now in
    let kept = (the_view c.self.inside).kept in
    let merges : MergesWith o v w c.merge.result = record {
      answer = c.merge.ensures.answer;
      refused = c.merge.ensures.refused;
      part = c.merge.ensures.part;
      names = c.merge.ensures.names;
      shown = c.merge.ensures.shown;
      stands = c.merge.ensures.stands;
    } in
    elim c.match-merge.branch [
      | in-Ok b ↦
          let turns : Turns j (merged_turn h) (answer.Merged w.superstep) (the_view c.self.inside) (node w kept) =
          recover_turns j h v o w kept (subst (λ (r : Result (Unit {0}) MergeError). MergesWith o v w r) b.in-Ok.is merges) has b.superstep.ensures.state in
          rw (b.result-is, b.superstep.ensures.value) (subst (λ (s : SeenNode). Turns j (merged_turn h) (answer.Merged w.superstep) s (node w kept)) c.self.view_is turns)
      | in-Err b ↦
          let e = b.in-Err.error in
          let turns : IfOk b.answer_to_refusal.result (λ a. Turns j (merged_turn h) a (the_view c.self.inside) (node w kept)) =
          if_unmerged b.answer_to_refusal.result j h e (the_view c.self.inside) (node w kept) b.answer_to_refusal.ensures
          (λ some. unmerged_turns j h v o w e kept (subst (λ (r : Result (Unit {0}) MergeError). MergesWith o v w r) b.in-Err.is merges) some has) in
          rw b.result-is (subst (λ (s : SeenNode). IfOk b.answer_to_refusal.result (λ a. Turns j (merged_turn h) a s (node w kept))) c.self.view_is turns)
    ]
