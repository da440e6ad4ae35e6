use Rattle.std.proofs.lemmas.Result.{err_from_is_err_and}
use Rattle.std.proofs.Common.{◌≡◌, ◌∙◌, ◌+◌, true, false, refl, ap, arith}
use Rattle.std.specs.Prelude.{Ok}
use Rattle.node.proofs.ServeLemmas.{serves_end, serves_more, serves_none, stops_at, stops_counting, wants_at}
use Rattle.node.proofs.serve.Server.serve_commands.Goals as goal

pub loop-i-init : goal.loop-i-init
loop-i-init g c = record {
  some = serves_none c.args.self.now.graph.now (g.R.Read.remaining c.args.reader.now) c.args.session.now (g.W.Write.contents c.args.writer.now);
  part = refl;
  counted = refl;
  written = refl;
}

pub loop-i-preserved : goal.loop-i-preserved
loop-i-preserved g c =
    let more : c.in_ok-more.more ≡ true = search c.if-not-more.false in
    record {
      some =
          serves_more c.args.self.now.graph.now c.loop-i.i (c.loop-i.i + 1)
          (g.R.Read.remaining c.args.reader.now) (g.R.Read.remaining c.loop-i.reader) (g.R.Read.remaining c.serve_one.new.reader)
          c.args.session.now c.loop-i.session c.serve_one.new.session
          (g.W.Write.contents c.args.writer.now) (g.W.Write.contents c.loop-i.writer) (g.W.Write.contents c.serve_one.new.writer)
          refl c.loop-i.invariant.part c.loop-i.invariant.some (c.in_ok-more.ensures.served (ap Ok more));
      part = c.in_ok-more.ensures.part ∙ c.loop-i.invariant.part;
      counted = c.in_ok-more.ensures.read.none (λ e. absurd (cc)) ∙ c.loop-i.invariant.counted;
      written = c.in_ok-more.ensures.write.none (λ e. absurd (cc)) ∙ c.loop-i.invariant.written;
    }

pub returns-then-not-more-clause-ok : goal.returns-then-not-more-clause-ok
returns-then-not-more-clause-ok g c =
    let last : c.in_ok-more.more ≡ false = search c.if-not-more.true in
    serves_end c.args.self.now.graph.now c.loop-i.i
    (g.R.Read.remaining c.args.reader.now) (g.R.Read.remaining c.loop-i.reader) (g.R.Read.remaining c.serve_one.new.reader)
    c.args.session.now c.loop-i.session c.serve_one.new.session
    (g.W.Write.contents c.args.writer.now) (g.W.Write.contents c.loop-i.writer) (g.W.Write.contents c.serve_one.new.writer)
    c.loop-i.invariant.some (c.in_ok-more.ensures.ended (ap Ok last))

pub returns-in_err-more-clause-stopped : goal.returns-in_err-more-clause-stopped
returns-in_err-more-clause-stopped g c =
    let p = err_from_is_err_and c.from_residual.result c.from_residual.ensures.1 in
    rw (p.1, p.2) (λ some. stops_at c.args.self.now.graph.now c.args.session.now.part _ c.loop-i.i (c.loop-i.i + 1)
    (g.R.Read.remaining c.args.reader.now) (g.R.Read.remaining c.loop-i.reader) (g.R.Read.remaining c.serve_one.new.reader)
    c.args.session.now c.loop-i.session c.serve_one.new.session
    (g.W.Write.contents c.args.writer.now) (g.W.Write.contents c.loop-i.writer) (g.W.Write.contents c.serve_one.new.writer)
    refl c.loop-i.invariant.some c.loop-i.invariant.part c.in_err-more.ensures.stopped (c.in_err-more.ensures.kept some) (c.in_err-more.ensures.same some))

pub returns-clause-stopped : goal.returns-clause-stopped
returns-clause-stopped g c = λ some.
    stops_counting c.args.self.now.graph.now c.args.session.now.part c.loop-i.i (g.R.Read.remaining c.args.reader.now) (g.R.Read.remaining c.loop-i.reader)
    c.args.session.now c.loop-i.session (g.W.Write.contents c.args.writer.now) (g.W.Write.contents c.loop-i.writer)
    (omega (arith, c.loop-i-test.false)) c.loop-i.invariant.some

pub returns-in_err-more-clause-wanting : goal.returns-in_err-more-clause-wanting
returns-in_err-more-clause-wanting g c =
    let p = err_from_is_err_and c.from_residual.result c.from_residual.ensures.1 in
    rw (p.1, p.2) (wants_at c.args.self.now.graph.now c.loop-i.i (c.loop-i.i + 1) _
    (g.R.Read.remaining c.args.reader.now) (g.R.Read.remaining c.loop-i.reader) (g.R.Read.remaining c.serve_one.new.reader)
    c.args.session.now c.loop-i.session (g.W.Write.contents c.args.writer.now) (g.W.Write.contents c.loop-i.writer)
    c.loop-i.invariant.some c.loop-i.invariant.part c.in_err-more.ensures.stopped)
