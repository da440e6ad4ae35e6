use Rattle.std.proofs.Common.{length, ℕ, ap, refl, arith}
use Rattle.std.proofs.lemmas.Result.{IfOk-weaker}
use Rattle.graph.proofs.CutLemmas.{text-push, last-start}
use Rattle.graph.proofs.labels.put_text.Goals as goal

pub push-requires-clause-order : goal.push-requires-clause-order
push-requires-clause-order c =
    omega (arith, last-start _ c.args.starts c.requires, c.len.ensures, ap (length {A = ℕ}) c.in_ok-extend_from_slice.ensures.items, c.in_ok-extend_from_slice.ensures.len)

pub returns-clause-starts : goal.returns-clause-starts
returns-clause-starts c =
    IfOk-weaker c.push.result _ _ (λ more is.
    (text-push c.args.bytes.now.items c.args.text.now c.args.starts c.extend_from_slice.new.self.items more c.len.result _
    c.in_ok-extend_from_slice.ensures.items is (omega (arith, c.len.ensures)) c.requires refl).starts_are) c.push.ensures

pub returns-clause-texts : goal.returns-clause-texts
returns-clause-texts c =
    IfOk-weaker c.push.result _ _ (λ more is.
    (text-push c.args.bytes.now.items c.args.text.now c.args.starts c.extend_from_slice.new.self.items more c.len.result _
    c.in_ok-extend_from_slice.ensures.items is (omega (arith, c.len.ensures)) c.requires refl).texts_are) c.push.ensures
