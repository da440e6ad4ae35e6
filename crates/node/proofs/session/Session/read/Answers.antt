use Rattle.std.proofs.Common.{◌≡◌, ◌≢◌, ◌∙◌, ap, subst}
use Rattle.std.specs.Arc.{arc_value}
use Rattle.std.specs.Prelude.{IfErr, OnOk}
use Rattle.std.proofs.lemmas.Result.{err_from_is_err_and}
use Rattle.ball_model.specs.Job.{PartValue, part_of}
use Rattle.ball_model.specs.State.{State}
use Rattle.checkpoint.specs.Reading.{HasHead, OnOkOrMemory}
use Rattle.checkpoint.specs.declared.error.KeepError.TheVariants as unkept
use Rattle.checkpoint.proofs.ReaderLemmas.{whatever_it_is}
use Rattle.node.specs.Refusals.{IsNodeCheckpoint, IsNoCheckpoint}
use Rattle.node.proofs.SessionLemmas.{front_given, front_refused, never_wants, part_held}
use Rattle.node.proofs.session.Session.read.Goals as goal

pub returns-in_err-check_front-clause-back : goal.returns-in_err-check_front-clause-back
returns-in_err-check_front-clause-back c = λ j p h d k given.
    let part : c.deref.result.now ≡ part_of j p = c.deref.ensures ∙ c.self.invariant ∙ ap (λ (s : State). s.part) c.self.view_is ∙ part_held j p h c.args.self.now k in
    absurd (front_given j p d c.deref.result.now c.args.bytes.now c.in_err-check_front.field-0.0 part given (front_refused c.deref.result.now c.args.bytes.now c.in_err-check_front.field-0.0 c.in_err-check_front.ensures.refused c.in_err-check_front.ensures.of_bytes))

pub returns-in_err-check_front-clause-named : goal.returns-in_err-check_front-clause-named
returns-in_err-check_front-clause-named c =
    let part : c.deref.result.now ≡ c.args.self.now.part = c.deref.ensures ∙ c.self.invariant ∙ ap (λ (s : State). s.part) c.self.view_is in
    let e = err_from_is_err_and c.from_residual.result c.from_residual.ensures.1 in
    rw (e.1, e.2) (λ some. subst (λ (x : PartValue). IsNoCheckpoint x c.args.bytes.now c.in_err-check_front.field-0.0) part (front_refused c.deref.result.now c.args.bytes.now c.in_err-check_front.field-0.0 c.in_err-check_front.ensures.refused c.in_err-check_front.ensures.of_bytes))

pub returns-in_err-check_front-clause-front : goal.returns-in_err-check_front-clause-front
returns-in_err-check_front-clause-front c =
    let e = err_from_is_err_and c.from_residual.result c.from_residual.ensures.1 in
    rw (e.1, e.2) (λ is. absurd (never_wants c.deref.result.now c.args.bytes.now c.in_err-check_front.field-0.0 (front_refused c.deref.result.now c.args.bytes.now c.in_err-check_front.field-0.0 c.in_err-check_front.ensures.refused c.in_err-check_front.ensures.of_bytes) is))

pub returns-in_err-part-clause-front : goal.returns-in_err-part-clause-front
returns-in_err-part-clause-front c =
    let part : c.deref.result.now ≡ c.args.self.now.part = c.deref.ensures ∙ c.self.invariant ∙ ap (λ (s : State). s.part) c.self.view_is in
    whatever_it_is _ (subst (λ (x : PartValue). HasHead x c.args.bytes.now) part c.in_ok-check_front.ensures.fine)

pub returns-clause-back : goal.returns-clause-back
returns-clause-back c = λ j p h d k given.
    let part : arc_value c.in_ok-part.part ≡ part_of j p = c.in_ok-part.ensures ∙ c.self.invariant ∙ ap (λ (s : State). s.part) c.self.view_is ∙ part_held j p h c.args.self.now k in
    c.read_back.ensures.back j p d part given

pub returns-clause-whole : goal.returns-clause-whole
returns-clause-whole c =
    let part : arc_value c.in_ok-part.part ≡ c.args.self.now.part = c.in_ok-part.ensures ∙ c.self.invariant ∙ ap (λ (s : State). s.part) c.self.view_is in
    subst (λ (x : PartValue). OnOk c.read_back.result (IsNodeCheckpoint x c.args.bytes.now)) part c.read_back.ensures.whole

pub returns-clause-named : goal.returns-clause-named
returns-clause-named c =
    let part : arc_value c.in_ok-part.part ≡ c.args.self.now.part = c.in_ok-part.ensures ∙ c.self.invariant ∙ ap (λ (s : State). s.part) c.self.view_is in
    subst (λ (x : PartValue). IfErr c.read_back.result (λ e. e ≢ unkept.Memory → IsNoCheckpoint x c.args.bytes.now e)) part c.read_back.ensures.named

pub returns-clause-front : goal.returns-clause-front
returns-clause-front c =
    let part : arc_value c.in_ok-part.part ≡ c.args.self.now.part = c.in_ok-part.ensures ∙ c.self.invariant ∙ ap (λ (s : State). s.part) c.self.view_is in
    subst (λ (x : PartValue). OnOkOrMemory c.read_back.result (HasHead x c.args.bytes.now)) part c.read_back.ensures.front
