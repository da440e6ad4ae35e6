use Rattle.node.proofs.GatherLemmas.{reads_part}
use Rattle.std.proofs.Common.{arith}
use Rattle.node.proofs.GatherLemmas.{body_lacks, cut_part_body}
use Rattle.node.proofs.gather.read_bytes.Goals as goal

pub returns-in-Whole-clause-read : goal.returns-in-Whole-clause-read
returns-in-Whole-clause-read g c =
    reads_part (g.R.Read.remaining c.args.reader.now) (g.R.Read.remaining c.read_length.new.reader) (g.R.Read.remaining c.read_body.new.reader)
    c.in_ok-length.length c.read_body.new.body.items c.in_ok-length.ensures.read (c.read_body.ensures.whole c.in-Whole.is) (c.read_body.ensures.length c.in-Whole.is)

pub returns-in-Cut-clause-refused : goal.returns-in-Cut-clause-refused
returns-in-Cut-clause-refused g c =
    cut_part_body c.partition-p.result c.args.part.now.number c.in_ok-length.length
    (g.R.Read.remaining c.args.reader.now) (g.R.Read.remaining c.read_length.new.reader) (g.R.Read.remaining c.read_body.new.reader)
    c.partition-p.ensures.value c.in_ok-length.ensures.read (c.read_body.ensures.cut c.in-Cut.is)

pub returns-in-Memory-clause-refused : goal.returns-in-Memory-clause-refused
returns-in-Memory-clause-refused g c =
    body_lacks c.args.part.now (g.R.Read.remaining c.args.reader.now) (g.R.Read.remaining c.read_length.new.reader) (g.R.Read.remaining c.read_body.new.reader)
    c.in_ok-length.length (omega (arith, c.longest_checkpoint.ensures, c.if-longest_checkpoint-length.false)) c.in_ok-length.ensures.read (c.read_body.ensures.memory c.in-Memory.is)
