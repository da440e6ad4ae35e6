use Rattle.std.proofs.Common.{◌∙◌, arith, refl}
use Rattle.std.proofs.lemmas.List.{length-take}
use Rattle.node.proofs.StreamLemmas.{all_read, nothing_read, piece_cut, piece_read}
use Rattle.node.proofs.input.pass_over.Goals as goal

pub loop-left-init : goal.loop-left-init
loop-left-init g c = record { read = nothing_read c.args.size (g.R.Read.remaining c.args.reader.now); counted = refl }

pub loop-left-preserved : goal.loop-left-preserved
loop-left-preserved g c = record {
  read =
      piece_read c.args.size c.loop-left.left c.min-count.result (g.R.Read.remaining c.args.reader.now) (g.R.Read.remaining c.loop-left.reader) (g.R.Read.remaining c.fill.new.reader) c.fill.new.buf
      c.loop-left.invariant.read (c.in-Full.ensures.full refl) (omega (arith, length-take c.min-count.result c.loop-left.piece)) (omega arith);
  counted = c.fill.ensures.counted (λ e. absurd (cc)) ∙ c.loop-left.invariant.counted;
}

pub returns-in-Ended-clause-cut : goal.returns-in-Ended-clause-cut
returns-in-Ended-clause-cut g c = λ is.
    piece_cut c.args.size c.loop-left.left c.in-Ended.count (g.R.Read.remaining c.args.reader.now) (g.R.Read.remaining c.loop-left.reader) (g.R.Read.remaining c.fill.new.reader) c.fill.new.buf
    c.loop-left.invariant.read (omega (arith, length-take c.min-count.result c.loop-left.piece)) (c.in-Ended.ensures.ended c.in-Ended.count refl)

pub returns-clause-memory : goal.returns-clause-memory
returns-clause-memory g c = λ is. all_read c.args.size c.loop-left.left (g.R.Read.remaining c.args.reader.now) (g.R.Read.remaining c.loop-left.reader) c.loop-left.invariant.read (omega arith)
