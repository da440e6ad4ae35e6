use Rattle.std.proofs.Common.{ap}
use Rattle.std.specs.Prelude.{Err}
use Rattle.node.specs.Serving.{ReadsCommand}
use Rattle.std.proofs.lemmas.Option.{MatchOption-at_some}
use Rattle.std.proofs.lemmas.Result.{err_from_is_err_and}
use Rattle.node.proofs.ServeLemmas.{reads_request, rest_stops}
use Rattle.node.proofs.serve.read_request.Goals as goal

pub returns-clause-some : goal.returns-clause-some
returns-clause-some g c =
    reads_request c.args.part.now (g.R.Read.remaining c.args.reader.now) (g.R.Read.remaining c.read_command.new.reader) (g.R.Read.remaining c.read_rest.new.reader)
    c.read_command.new.line.items c.in-Some.command c.read_rest.new.body.items
    (MatchOption-at_some _ (ReadsCommand c.args.part.now (g.R.Read.remaining c.args.reader.now) (g.R.Read.remaining c.read_command.new.reader) c.read_command.new.line.items) _ c.in-Some.is c.in_ok-command.ensures.some)
    c.in_ok-read_rest.ensures.consumed c.in_ok-read_rest.ensures.length

pub returns-in_err-read_rest-clause-stopped : goal.returns-in_err-read_rest-clause-stopped
returns-in_err-read_rest-clause-stopped g c =
    let p = err_from_is_err_and c.from_residual-in_err-read_rest.result c.from_residual-in_err-read_rest.ensures.1 in
    rw (p.1, p.2) (rest_stops c.args.part.now c.args.number _ (g.R.Read.remaining c.args.reader.now) (g.R.Read.remaining c.read_command.new.reader) (g.R.Read.remaining c.read_rest.new.reader)
    c.read_command.new.line.items c.in-Some.command
    (MatchOption-at_some _ (ReadsCommand c.args.part.now (g.R.Read.remaining c.args.reader.now) (g.R.Read.remaining c.read_command.new.reader) c.read_command.new.line.items) _ c.in-Some.is c.in_ok-command.ensures.some)
    (λ is. c.in_err-read_rest.ensures.cut (ap Err is)) (λ is. c.in_err-read_rest.ensures.memory (ap Err is)) c.in_err-read_rest.ensures.kind)
