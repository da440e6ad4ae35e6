use Rattle.std.proofs.Common.{◌≡◌, ◌∙◌, ap, sym, Ok}
use Rattle.std.proofs.lemmas.Result.{IfErr-weaker, IfOk-weaker, err_from_is_err_and}
use Rattle.edgelist.specs.Reading.{meaning_within}
use Rattle.edgelist.proofs.reading.Sequential.read.Goals as goal

pub returns-in_err-reading-clause-refused : goal.returns-in_err-reading-clause-refused
returns-in_err-reading-clause-refused g c = λ text is plain.
    let p = err_from_is_err_and c.from_residual.result c.from_residual.ensures.1 in
    rw (p.1, p.2) (c.in_err-reading.ensures.refused (meaning_within c.args.self.now.limits c.args.self.now.delimiter text) (c.read_source-read.ensures.refused text is plain))

pub returns-clause-ok : goal.returns-clause-ok
returns-clause-ok g c = λ text is plain.
    let read = (rw c.in_ok-reading.ensures.ok at c.read_source-read.ensures.ok) text is plain in
    IfOk-weaker c.into_list.result _ _ (λ list same. read ∙ ap Ok (sym same)) c.into_list.ensures.graph

pub returns-clause-count : goal.returns-clause-count
returns-clause-count g c = λ text is plain.
    let count = (rw c.in_ok-reading.ensures.ok at c.read_source-read.ensures.count) text is plain in
    IfOk-weaker c.into_list.result _ _ (λ list same. same ∙ count) c.into_list.ensures.number

pub returns-clause-refused : goal.returns-clause-refused
returns-clause-refused g c = λ text is plain.
    IfErr-weaker c.into_list.result _ _ (λ e same. rw same tt) c.into_list.ensures.memory
