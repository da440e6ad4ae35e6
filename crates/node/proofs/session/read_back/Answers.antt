use Rattle.std.proofs.Common.{◌∙◌, ℕ, ◌+◌, ap, sym, subst}
use Rattle.std.specs.Prelude.{Option, Some}
use Rattle.std.specs.Arc.{arc_value}
use Rattle.ball_model.specs.Streams.{AreSure}
use Rattle.checkpoint.specs.Reading.{most_checkpoint_bytes}
use Rattle.std.proofs.lemmas.Result.{IfOk-weaker}
use Rattle.node.proofs.SessionLemmas.{checkpoint_told, form_told, given_back}
use Rattle.node.proofs.session.read_back.Goals as goal

pub returns-clause-back : goal.returns-clause-back
returns-clause-back c = λ j p h is given.
    given_back j p h c.args.bytes.now c.read_checkpoint.result given
    (c.read_checkpoint.ensures.only (subst (λ (o : Option ℕ). AreSure o (most_checkpoint_bytes (arc_value c.args.part) (arc_value c.args.part).plan.limit + 1)) (sym c.new-reader.ensures.good) tt))
    (λ v keeps part spells. c.read_checkpoint.ensures.back v keeps (part ∙ sym is) (ap Some (c.new-reader.ensures.left ∙ spells)))
    (λ v keeps part spells. c.read_checkpoint.ensures.first v keeps (part ∙ sym is) (ap Some (c.new-reader.ensures.left ∙ spells)))

pub returns-clause-spells : goal.returns-clause-spells
returns-clause-spells c =
    IfOk-weaker c.read_checkpoint.result _ _ (λ v spells. spells c.args.bytes.now (ap Some c.new-reader.ensures.left)) c.read_checkpoint.ensures.spelling

pub returns-clause-front : goal.returns-clause-front
returns-clause-front c = c.read_checkpoint.ensures.front c.args.bytes.now (ap Some c.new-reader.ensures.left)

pub returns-clause-form : goal.returns-clause-form
returns-clause-form c = form_told _ _ (arc_value c.args.part) _ _ _ c.args.bytes.now c.read_checkpoint.result (ap Some c.new-reader.ensures.left) c.read_checkpoint.ensures.whole

pub returns-clause-whole : goal.returns-clause-whole
returns-clause-whole c =
    checkpoint_told (arc_value c.args.part) c.args.bytes.now c.read_checkpoint.result c.read_checkpoint.ensures.part c.read_checkpoint.ensures.keepable
    (IfOk-weaker c.read_checkpoint.result _ _ (λ v spells. spells c.args.bytes.now (ap Some c.new-reader.ensures.left)) c.read_checkpoint.ensures.spelling)
    (form_told _ _ (arc_value c.args.part) _ _ _ c.args.bytes.now c.read_checkpoint.result (ap Some c.new-reader.ensures.left) c.read_checkpoint.ensures.whole)
