use Rattle.std.proofs.Common.{refl}
use Rattle.node.proofs.ServeLemmas.{cut_line, line_lacks, long_line}
use Rattle.node.proofs.serve.read_command.Goals as goal

pub returns-in-Cut-clause-stopped : goal.returns-in-Cut-clause-stopped
returns-in-Cut-clause-stopped g c = (
  refl,
  cut_line (g.R.Read.remaining c.args.reader.now) (g.R.Read.remaining c.read_line.new.reader) c.read_line.new.line.items c.in-Cut.ensures.read,
)

pub returns-in-Long-clause-stopped : goal.returns-in-Long-clause-stopped
returns-in-Long-clause-stopped g c = (
  refl,
  long_line (g.R.Read.remaining c.args.reader.now) (g.R.Read.remaining c.read_line.new.reader) c.read_line.new.line.items c.in-Long.ensures.read,
)

pub returns-in-Memory-clause-stopped : goal.returns-in-Memory-clause-stopped
returns-in-Memory-clause-stopped g c =
    line_lacks c.args.part.now (g.R.Read.remaining c.args.reader.now) (g.R.Read.remaining c.read_line.new.reader) c.in-Memory.ensures.read
