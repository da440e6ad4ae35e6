use Rattle.std.proofs.Common.{List, ℕ, subst}
use Rattle.ball_model.specs.Job.{PartValue}
use Rattle.node.specs.Serving.{ReadsRequest, Steps}
use Rattle.node.specs.declared.command.Command.{Command}
use Rattle.std.proofs.lemmas.Option.{MatchOption-at_some}
use Rattle.std.proofs.lemmas.Result.{err_from_is_err_and}
use Rattle.node.proofs.ServeLemmas.{request_lacks, serves_one, told_stops}
use Rattle.node.proofs.serve.Server.serve_one.Goals as goal

pub returns-clause-served : goal.returns-clause-served
returns-clause-served g c = λ is.
    serves_one c.args.self.now.graph.now (g.R.Read.remaining c.args.reader.now) (g.R.Read.remaining c.read_request.new.reader) c.read_request.new.line.items c.in-Some.command c.read_request.new.body.items
    c.args.session.now c.answer.new.session (g.W.Write.contents c.args.writer.now) (g.W.Write.contents c.answer.new.writer) (g.W.Write.contents c.flush.new.writer)
    (subst (λ (q : PartValue). ReadsRequest q (g.R.Read.remaining c.args.reader.now) (g.R.Read.remaining c.read_request.new.reader) c.read_request.new.line.items c.in-Some.command c.read_request.new.body.items) c.part.ensures
    (MatchOption-at_some _ (λ (k : Command). ReadsRequest c.part.result.now (g.R.Read.remaining c.args.reader.now) (g.R.Read.remaining c.read_request.new.reader) c.read_request.new.line.items k c.read_request.new.body.items) _ c.in-Some.is c.in_ok-asked.ensures.some))
    (subst (λ (l : List ℕ). Steps c.args.self.now.graph.now c.in-Some.command l c.args.session.now c.answer.new.session (g.W.Write.contents c.args.writer.now) (g.W.Write.contents c.answer.new.writer)) c.deref.ensures.value c.in_ok-answer.ensures.step)
    c.flush.ensures.done

pub returns-in_err-answer-clause-stopped : goal.returns-in_err-answer-clause-stopped
returns-in_err-answer-clause-stopped g c =
    let p = err_from_is_err_and c.from_residual-in_err-answer.result c.from_residual-in_err-answer.ensures.1 in
    rw (p.1, p.2) (told_stops c.args.session.now.part c.args.number _ (g.R.Read.remaining c.args.reader.now) (g.R.Read.remaining c.read_request.new.reader)
    (request_lacks c.args.session.now.part (g.R.Read.remaining c.args.reader.now) (g.R.Read.remaining c.read_request.new.reader) c.read_request.new.line.items c.in-Some.command c.read_request.new.body.items
    (subst (λ (q : PartValue). ReadsRequest q (g.R.Read.remaining c.args.reader.now) (g.R.Read.remaining c.read_request.new.reader) c.read_request.new.line.items c.in-Some.command c.read_request.new.body.items) c.part.ensures
    (MatchOption-at_some _ (λ (k : Command). ReadsRequest c.part.result.now (g.R.Read.remaining c.args.reader.now) (g.R.Read.remaining c.read_request.new.reader) c.read_request.new.line.items k c.read_request.new.body.items) _ c.in-Some.is c.in_ok-asked.ensures.some))))

pub returns-in_err-flush-clause-stopped : goal.returns-in_err-flush-clause-stopped
returns-in_err-flush-clause-stopped g c =
    let p = err_from_is_err_and c.from_residual-in_err-flush.result c.from_residual-in_err-flush.ensures.1 in
    rw (p.1, p.2) (told_stops c.args.session.now.part c.args.number _ (g.R.Read.remaining c.args.reader.now) (g.R.Read.remaining c.read_request.new.reader)
    (request_lacks c.args.session.now.part (g.R.Read.remaining c.args.reader.now) (g.R.Read.remaining c.read_request.new.reader) c.read_request.new.line.items c.in-Some.command c.read_request.new.body.items
    (subst (λ (q : PartValue). ReadsRequest q (g.R.Read.remaining c.args.reader.now) (g.R.Read.remaining c.read_request.new.reader) c.read_request.new.line.items c.in-Some.command c.read_request.new.body.items) c.part.ensures
    (MatchOption-at_some _ (λ (k : Command). ReadsRequest c.part.result.now (g.R.Read.remaining c.args.reader.now) (g.R.Read.remaining c.read_request.new.reader) c.read_request.new.line.items k c.read_request.new.body.items) _ c.in-Some.is c.in_ok-asked.ensures.some))))
