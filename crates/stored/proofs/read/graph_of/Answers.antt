use Rattle.std.proofs.Common.{◌≡◌, Ok, length, ap, sym, ◌∙◌}
use Rattle.std.specs.Prelude.{◌≢◌}
use Rattle.std.specs.List.{sum_by}
use Rattle.graph.specs.Links.{graph_of_lists}
use Rattle.stored.specs.Stored.{stored_of}
use Rattle.stored.proofs.ReadWholeLemmas.{edges_pass, edges_refused}
use Rattle.stored.proofs.WholeLemmas.{preds_are, stored_is}
use Rattle.stored.proofs.read.graph_of.Goals as goal

pub returns-then-elements_of-from-clause-refused : goal.returns-then-elements_of-from-clause-refused
returns-then-elements_of-from-clause-refused c = λ of.
    let lists = c.args.lists in
    let other : sum_by length lists ≢ c.args.edges = λ is. c.if-elements_of-from.true (c.elements_of.ensures ∙ is ∙ sym c.from.ensures) in
    edges_refused c.args.edges (record { labels = c.args.labels; preds = lists }) other

pub of_lists-requires-clause-edges : goal.of_lists-requires-clause-edges
of_lists-requires-clause-edges c = sym c.from.ensures ∙ sym c.if-elements_of-from.false ∙ c.elements_of.ensures

pub returns-clause-found : goal.returns-clause-found
returns-clause-found c =
    let lists = c.args.lists in
    let graph = c.in_ok-of_lists.field-0 in
    let found = c.in_ok-of_lists.ensures in
    let sum : sum_by length lists ≡ c.args.edges = sym c.elements_of.ensures ∙ c.if-elements_of-from.false ∙ c.from.ensures in
    edges_pass c.args.edges (record { labels = c.args.labels; preds = lists }) sum ∙ ap Ok (sym (stored_is graph c.args.labels lists found.labels found.preds))

pub returns-clause-graph : goal.returns-clause-graph
returns-clause-graph c =
    let graph = c.in_ok-of_lists.field-0 in
    let found = c.in_ok-of_lists.ensures in
    let is = stored_is graph c.args.labels c.args.lists found.labels found.preds in
    found.graph ∙ ap graph_of_lists (sym (preds_are (stored_of graph) (record { labels = c.args.labels; preds = c.args.lists }) is))
