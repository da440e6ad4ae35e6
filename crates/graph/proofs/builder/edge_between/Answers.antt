use Rattle.std.proofs.Common.{◌∙◌, ap, length, take}
use Rattle.graph.specs.Labels.{texts, with_label}
use Rattle.graph.proofs.MakingLemmas.{two-front}
use Rattle.graph.proofs.builder.edge_between.Goals as goal

pub returns-clause-longer : goal.returns-clause-longer
returns-clause-longer c =
    let old = texts c.args.labels.now in
    ap (λ new. take (length old) new) (c.in_ok-target.ensures.labels ∙ ap (λ mid. with_label mid c.args.target.now) c.in_ok-source.ensures.labels)
    ∙ two-front old c.args.source.now c.args.target.now
