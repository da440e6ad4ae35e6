use Rattle.std.proofs.Common.{◌-◌, arith, refl}
use Rattle.std.proofs.lemmas.List.{length-take}
use Rattle.node.proofs.StreamLemmas.{piece_cut, piece_read, rest_cut, rest_read}
use Rattle.node.proofs.input.read_body.Goals as goal

pub returns-in-Ended-clause-cut : goal.returns-in-Ended-clause-cut
returns-in-Ended-clause-cut g c = λ is.
    piece_cut c.args.size c.loop-left.left c.in-Ended.count (g.R.Read.remaining c.args.reader.now) (g.R.Read.remaining c.loop-left.reader) (g.R.Read.remaining c.fill.new.reader) c.fill.new.buf
    (record { bytes = c.loop-left.body.items; consumed = c.loop-left.invariant.consumed; count = c.loop-left.invariant.count }) (omega (arith, length-take c.min-count.result c.loop-left.piece)) (c.in-Ended.ensures.ended c.in-Ended.count refl)

pub returns-in_default-clause-cut : goal.returns-in_default-clause-cut
returns-in_default-clause-cut g c = λ is.
    rest_cut c.args.size (c.loop-left.left - c.min-count.result) (g.R.Read.remaining c.args.reader.now) (g.R.Read.remaining c.fill.new.reader) (g.R.Read.remaining c.pass_over.new.reader)
    (piece_read c.args.size c.loop-left.left c.min-count.result (g.R.Read.remaining c.args.reader.now) (g.R.Read.remaining c.loop-left.reader) (g.R.Read.remaining c.fill.new.reader) c.fill.new.buf
    (record { bytes = c.loop-left.body.items; consumed = c.loop-left.invariant.consumed; count = c.loop-left.invariant.count }) (c.in-Full.ensures.full refl) (omega (arith, length-take c.min-count.result c.loop-left.piece)) (omega arith))
    (c.pass_over.ensures.cut is)

pub returns-in_default-clause-memory : goal.returns-in_default-clause-memory
returns-in_default-clause-memory g c = λ is.
    rest_read c.args.size (c.loop-left.left - c.min-count.result) (g.R.Read.remaining c.args.reader.now) (g.R.Read.remaining c.fill.new.reader) (g.R.Read.remaining c.pass_over.new.reader)
    (piece_read c.args.size c.loop-left.left c.min-count.result (g.R.Read.remaining c.args.reader.now) (g.R.Read.remaining c.loop-left.reader) (g.R.Read.remaining c.fill.new.reader) c.fill.new.buf
    (record { bytes = c.loop-left.body.items; consumed = c.loop-left.invariant.consumed; count = c.loop-left.invariant.count }) (c.in-Full.ensures.full refl) (omega (arith, length-take c.min-count.result c.loop-left.piece)) (omega arith))
    (c.pass_over.ensures.memory is)
