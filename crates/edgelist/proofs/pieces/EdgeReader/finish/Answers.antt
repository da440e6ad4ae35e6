use Rattle.std.proofs.Common.{◌∙◌, ap, sym, Ok}
use Rattle.std.proofs.lemmas.Result.{IfErr-weaker, IfOk-weaker, err_from_is_err_and}
use Rattle.edgelist.proofs.GivenLemmas.{given-network, given-refused-all, given-through}
use Rattle.edgelist.proofs.pieces.EdgeReader.finish.Goals as goal

pub returns-in_err-records-clause-refused : goal.returns-in_err-records-clause-refused
returns-in_err-records-clause-refused c = λ limits delimiter text g plain.
    let p = err_from_is_err_and c.from_residual.result c.from_residual.ensures.1 in
    rw (p.1, p.2) (given-refused-all limits delimiter text c.args.self c.in_err-records.field-0.0 g (rw c.deref.ensures.value at c.in_err-records.ensures.refused) plain)

pub returns-clause-ok : goal.returns-clause-ok
returns-clause-ok c = λ limits delimiter text g plain.
    IfOk-weaker c.into_list.result _ _ (λ list is.
    given-network limits delimiter text c.args.self c.in_ok-records.records c.read_lines.new.self.labels c.read_lines.new.self.edges.items g (rw c.deref.ensures.value at c.in_ok-records.ensures.ok) plain
    ∙ ap Ok (sym is)) c.into_list.ensures.graph

pub returns-clause-count : goal.returns-clause-count
returns-clause-count c = λ limits delimiter text g plain.
    IfOk-weaker c.into_list.result _ _ (λ list is.
    is ∙ sym (given-through limits delimiter text c.args.self c.in_ok-records.records c.read_lines.new.self.labels c.read_lines.new.self.edges.items g (rw c.deref.ensures.value at c.in_ok-records.ensures.ok) plain).count) c.into_list.ensures.number

pub returns-clause-refused : goal.returns-clause-refused
returns-clause-refused c = λ limits delimiter text g plain.
    IfErr-weaker c.into_list.result _ _ (λ e is. rw is tt) c.into_list.ensures.memory
