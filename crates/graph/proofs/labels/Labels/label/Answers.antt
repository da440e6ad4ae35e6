use Rattle.std.proofs.Common.{◌∙◌, ◌<◌, List, [], ℕ, length, get_or, ap, arith, sym}
use Rattle.graph.specs.Lists.{lists_between}
use Rattle.graph.proofs.CutLemmas.{length-cut}
use Rattle.graph.proofs.TextLemmas.{length-shortened, shortened-at}
use Rattle.graph.proofs.labels.Labels.label.Goals as goal

pub text_at-text-requires-clause-below : goal.text_at-text-requires-clause-below
text_at-text-requires-clause-below c =
    omega (arith, c.requires, length-cut c.self.inside.bytes.items c.self.inside.starts _ c.self.invariant, length-shortened c.self.inside.gap (lists_between c.self.inside.bytes.items c.self.inside.starts), ap (length {A = List ℕ}) c.self.view_is)

pub returns : goal.returns
returns c =
    let lt : c.args.i < length (lists_between c.self.inside.bytes.items c.self.inside.starts) = omega (arith, c.requires, length-shortened c.self.inside.gap (lists_between c.self.inside.bytes.items c.self.inside.starts), ap (length {A = List ℕ}) c.self.view_is) in
    rw (c.saturating_sub.ensures, c.text_at-text.ensures, c.deref.ensures.value) (sym (shortened-at c.self.inside.gap (lists_between c.self.inside.bytes.items c.self.inside.starts) c.args.i lt))
    ∙ ap (λ (labels : List (List ℕ)). get_or labels c.args.i []) c.self.view_is
