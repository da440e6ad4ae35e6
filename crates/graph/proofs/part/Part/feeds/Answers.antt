use Rattle.std.proofs.Common.{◌≡◌, ◌∙◌, get_or, subst, ap}
use Rattle.ball_model.specs.Job.{PartValue, IsPart}
use Rattle.graph.proofs.FeedLemmas.{feeds-bits}
use Rattle.graph.proofs.part.Part.feeds.Goals as goal

pub returns-clause-bits : goal.returns-clause-bits
returns-clause-bits c =
    let value : c.get.result ≡ get_or c.args.self.now.feeds c.args.i 0 = (rw c.deref.ensures at c.get.ensures) ∙ ap (λ (v : PartValue). get_or v.feeds c.args.i 0) c.self.view_is in
    feeds-bits c.args.self.now c.get.result c.args.i (subst IsPart c.self.view_is c.self.invariant) c.requires value
