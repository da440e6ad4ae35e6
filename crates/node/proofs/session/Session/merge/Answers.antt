use Rattle.std.proofs.Common.{◌∙◌, ap, sym, subst}
use Rattle.std.specs.Prelude.{OnOk}
use Rattle.ball_model.specs.State.{State}
use Rattle.world.proofs.NodeLemmas.{MergesWith}
use Rattle.node.specs.Turns.{Holds, TakesBoth}
use Rattle.node.proofs.SessionLemmas.{over_answer, over_part, over_taken, over_turns}
use Rattle.node.proofs.SessionLemmas.{over_said}
use Rattle.node.proofs.session.Session.merge.Goals as goal

pub returns-clause-turned : goal.returns-clause-turned
returns-clause-turned c = λ j p h d k l.
    let v = c.self.inside.replica in
    let w = c.merge-merged.new.self in
    let merges : MergesWith c.args.copy.now v w c.merge-merged.result = record {
      answer = c.merge-merged.ensures.answer;
      refused = c.merge-merged.ensures.refused;
      part = c.merge-merged.ensures.part;
      names = c.merge-merged.ensures.names;
      shown = c.merge-merged.ensures.shown;
      stands = c.merge-merged.ensures.stands;
    } in
    over_turns j p h d v c.args.copy.now w c.merge-merged.result c.superstep-superstep.result c.answer_to_merge.result merges c.answer_to_merge.ensures
    c.superstep-superstep.ensures.value c.superstep-superstep.ensures.state (subst (λ (s : State). Holds j p h s) (sym c.self.view_is) k) l

pub returns-clause-taken : goal.returns-clause-taken
returns-clause-taken c = λ same.
    let merges : MergesWith c.args.copy.now c.self.inside.replica c.merge-merged.new.self c.merge-merged.result = record {
      answer = c.merge-merged.ensures.answer;
      refused = c.merge-merged.ensures.refused;
      part = c.merge-merged.ensures.part;
      names = c.merge-merged.ensures.names;
      shown = c.merge-merged.ensures.shown;
      stands = c.merge-merged.ensures.stands;
    } in
    subst (λ (s : State). OnOk c.answer_to_merge.result (TakesBoth s c.args.copy.now c.merge-merged.new.self)) c.self.view_is
    (over_taken c.self.inside.replica c.args.copy.now c.merge-merged.new.self c.merge-merged.result c.superstep-superstep.result c.answer_to_merge.result merges c.merge-merged.ensures.superstep c.answer_to_merge.ensures
    (same ∙ ap (λ (s : State). s.part) (sym c.self.view_is)))

pub returns-clause-answer : goal.returns-clause-answer
returns-clause-answer c = λ same.
    let merges : MergesWith c.args.copy.now c.self.inside.replica c.merge-merged.new.self c.merge-merged.result = record {
      answer = c.merge-merged.ensures.answer;
      refused = c.merge-merged.ensures.refused;
      part = c.merge-merged.ensures.part;
      names = c.merge-merged.ensures.names;
      shown = c.merge-merged.ensures.shown;
      stands = c.merge-merged.ensures.stands;
    } in
    over_answer c.self.inside.replica c.args.copy.now c.merge-merged.new.self c.merge-merged.result c.superstep-superstep.result c.answer_to_merge.result merges c.answer_to_merge.ensures c.superstep-superstep.ensures.value
    (same ∙ ap (λ (s : State). s.part) (sym c.self.view_is))

pub returns-clause-kind : goal.returns-clause-kind
returns-clause-kind c = λ e. over_part c.merge-merged.result c.superstep-superstep.result c.answer_to_merge.result e c.answer_to_merge.ensures

pub returns-clause-said : goal.returns-clause-said
returns-clause-said c = over_said c.merge-merged.result c.superstep-superstep.result c.answer_to_merge.result c.answer_to_merge.ensures
