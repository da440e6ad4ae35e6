use Rattle.std.proofs.Common.{length, ap, arith, Bool}
use Rattle.gapcode.proofs.AppendingLemmas.{length-written}
use Rattle.gapcode.proofs.writer.BitWriter.len.Goals as goal

pub returns-clause-count : goal.returns-clause-count
returns-clause-count c =
    let w = c.self.inside in
    omega (arith, c.len.ensures, w.full.ok.0, length-written w.full.items w.last w.used, ap (length {A = Bool}) c.self.view_is)
