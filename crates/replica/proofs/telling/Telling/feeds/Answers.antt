use Rattle.std.proofs.Common.{◌<◌, length, ap, ◌∙◌, arith}
use Rattle.replica.proofs.Names.{PartValue}
use Rattle.replica.specs.Stage.{StageValue}
use Rattle.replica.specs.Sent.{TellingValue}
use Rattle.replica.proofs.SentLemmas.Changed.{changed_at}
use Rattle.replica.proofs.telling.Telling.feeds.Goals as goal

pub feeds-requires : goal.feeds-requires
feeds-requires c =
    let v = c.self.inside.stage.now.state in
    let lt : c.args.k < length c.self.inside.vertices.now = omega (arith, c.requires, ap (λ (t : TellingValue). length t.vertices) c.self.view_is) in
    omega (arith, (changed_at v c.self.inside.vertices.now c.args.k c.self.invariant.changed lt).place, ap (λ (a : PartValue). length a.preds) (c.deref.ensures ∙ ap (λ (k : StageValue). k.state.part) c.s.view_is))
