use Rattle.std.proofs.Common.{◌≡◌, ◌∙◌, List, ℕ, length, sym, ap, arith}
use Rattle.std.specs.List.{sum_by}
use Rattle.std.proofs.lemmas.List.{reverse-reverse}
use Rattle.graph.proofs.CodesLemmas.{turned-lists}
use Rattle.graph.proofs.SortLemmas.{below-same}
use Rattle.graph.proofs.EdgeLemmas.{sources-same, sources-total}
use Rattle.graph.proofs.codes.lists_of_by.Goals as goal

pub coded_by-requires-clause-ascend : goal.coded_by-requires-clause-ascend
coded_by-requires-clause-ascend g c = rw (c.reverse.ensures.items, reverse-reverse c.sort_edges.new.edges.items) (λ κs lives. c.sort_edges.ensures.ascend)

pub coded_by-requires-clause-below : goal.coded_by-requires-clause-below
coded_by-requires-clause-below g c =
    rw (c.reverse.ensures.items, reverse-reverse c.sort_edges.new.edges.items) (λ κs lives. below-same c.args.count c.sort_edges.new.edges.items c.args.edges.items c.sort_edges.ensures.members c.requires.below)

pub of-requires-clause-total : goal.of-requires-clause-total
of-requires-clause-total g c =
    let es = c.sort_edges.new.edges.items in
    let all = below-same c.args.count es c.args.edges.items c.sort_edges.ensures.members c.requires.below in
    let count : c.len-total.result ≡ length es = omega (arith, c.len-total.ensures, c.sort_edges.new.edges.ok.0) in
    count ∙ sources-total es c.args.count c.sort_edges.ensures.ascend all ∙ ap (λ (ls : List (List ℕ)). sum_by length ls) (sym (turned-lists es c.reverse.new.self.items c.args.count _ c.reverse.ensures.items c.in_ok-lists.ensures))

pub returns : goal.returns
returns g c =
    let es = c.sort_edges.new.edges.items in
    let all = below-same c.args.count es c.args.edges.items c.sort_edges.ensures.members c.requires.below in
    c.of.ensures ∙ turned-lists es c.reverse.new.self.items c.args.count _ c.reverse.ensures.items c.in_ok-lists.ensures ∙ sources-same es c.args.edges.items c.args.count c.sort_edges.ensures.ascend all c.sort_edges.ensures.members
