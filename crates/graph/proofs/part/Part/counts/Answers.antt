use Rattle.std.proofs.Common.{◌≡◌, ◌∙◌, ◌<◌, false, length, get_or, subst, ap, arith}
use Rattle.std.proofs.lemmas.List.{get_or_default}
use Rattle.ball_model.specs.Job.{PartValue, IsPart}
use Rattle.graph.proofs.FeedLemmas.{counts-graph}
use Rattle.graph.proofs.part.Part.counts.Goals as goal

pub returns-clause-graph : goal.returns-clause-graph
returns-clause-graph c =
    let low : c.args.i < length c.self.inside.counted.items = omega (arith, c.requires, c.self.invariant.counted, c.self.invariant.preds, ap (λ (v : PartValue). length v.preds) c.self.view_is) in
    let value : c.index.result.now ≡ get_or c.args.self.now.counted c.args.i false =
    c.index.ensures ∙ get_or_default c.self.inside.counted.items c.args.i _ false low ∙ ap (λ (v : PartValue). get_or v.counted c.args.i false) c.self.view_is in
    counts-graph c.args.self.now c.index.result.now c.args.i (subst IsPart c.self.view_is c.self.invariant) c.requires value
