use Rattle.std.proofs.Common.{◌∙◌}
use Rattle.graph.specs.Lists.{lists_between}
use Rattle.graph.proofs.TextLemmas.{shortened-none}
use Rattle.graph.proofs.labels.Labels.of.Goals as goal

pub returns : goal.returns
returns c = shortened-none (lists_between c.put_texts.new.bytes.items c.in_ok-starts.starts) ∙ c.in_ok-starts.ensures.texts
