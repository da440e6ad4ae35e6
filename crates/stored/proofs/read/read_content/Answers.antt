use Rattle.std.proofs.Common.{ℕ, sym, subst}
use Rattle.std.proofs.lemmas.Result.{err_from_is_err_and}
use Rattle.gapcode.specs.Lists.{AreAscending}
use Rattle.stored.specs.Reading.{check_edges, told}
use Rattle.stored.proofs.ReadLemmas.{fails_first, fails_second}
use Rattle.stored.proofs.ReadWholeLemmas.{after_header, after_labels, content_ends, content_stops, front_known, has_head, lists_fail}
use Rattle.stored.proofs.read.read_content.Goals as goal

pub returns-in_err-header-clause-front : goal.returns-in_err-header-clause-front
returns-in_err-header-clause-front g c = λ bytes known.
    let p = err_from_is_err_and c.from_residual.result c.from_residual.ensures.1 in
    rw (p.1, p.2) (λ memory. absurd (c.in_err-header.ensures.no_memory memory))

pub returns-in_err-header-clause-fails : goal.returns-in_err-header-clause-fails
returns-in_err-header-clause-fails g c =
    let p = err_from_is_err_and c.from_residual.result c.from_residual.ensures.1 in
    rw (p.1, p.2) (fails_first after_header c.in_err-header.ensures.fails)

pub returns-in_err-labels-clause-front : goal.returns-in_err-labels-clause-front
returns-in_err-labels-clause-front g c = λ bytes known.
    let p = err_from_is_err_and c.from_residual-in_err-labels.result c.from_residual-in_err-labels.ensures.1 in
    rw (p.1, p.2) (λ _. has_head c.in_ok-header.header bytes c.in_ok-header.ensures.done known)

pub returns-in_err-labels-clause-fails : goal.returns-in_err-labels-clause-fails
returns-in_err-labels-clause-fails g c =
    let p = err_from_is_err_and c.from_residual-in_err-labels.result c.from_residual-in_err-labels.ensures.1 in
    let h = c.in_ok-header.header in
    rw (p.1, p.2) (fails_second after_header h c.in_ok-header.ensures.done (fails_first (after_labels h) c.in_err-labels.ensures.fails))

pub returns-in_err-lists-clause-front : goal.returns-in_err-lists-clause-front
returns-in_err-lists-clause-front g c = λ bytes known.
    let p = err_from_is_err_and c.from_residual-in_err-lists.result c.from_residual-in_err-lists.ensures.1 in
    rw (p.1, p.2) (λ _. has_head c.in_ok-header.header bytes c.in_ok-header.ensures.done known)

pub returns-in_err-lists-clause-fails : goal.returns-in_err-lists-clause-fails
returns-in_err-lists-clause-fails g c =
    let p = err_from_is_err_and c.from_residual-in_err-lists.result c.from_residual-in_err-lists.ensures.1 in
    let h = c.in_ok-header.header in
    let labels = c.in_ok-labels.labels in
    rw (p.1, p.2) (lists_fail h labels c.in_ok-header.ensures.done c.in_ok-labels.ensures.done (fails_first (λ preds. told (check_edges h.edges (record { labels = labels; preds = preds }))) c.in_err-lists.ensures.fails))

pub graph_of-requires-clause-ascend : goal.graph_of-requires-clause-ascend
graph_of-requires-clause-ascend g c = subst (λ (n : ℕ). AreAscending n c.in_ok-lists.lists) (sym c.in_ok-lists.ensures.many) c.in_ok-lists.ensures.ascend

pub returns-clause-done : goal.returns-clause-done
returns-clause-done g c = content_ends c.in_ok-header.header c.in_ok-labels.labels c.in_ok-lists.lists c.graph_of.result c.in_ok-header.ensures.done c.in_ok-labels.ensures.done c.in_ok-lists.ensures.done c.graph_of.ensures.found

pub returns-clause-front : goal.returns-clause-front
returns-clause-front g c = λ bytes known. front_known c.graph_of.result (has_head c.in_ok-header.header bytes c.in_ok-header.ensures.done known)

pub returns-clause-fails : goal.returns-clause-fails
returns-clause-fails g c = content_stops c.in_ok-header.header c.in_ok-labels.labels c.in_ok-lists.lists c.graph_of.result c.in_ok-header.ensures.done c.in_ok-labels.ensures.done c.in_ok-lists.ensures.done c.graph_of.ensures.refused c.graph_of.ensures.kind
