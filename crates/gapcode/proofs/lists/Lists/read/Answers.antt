use Rattle.std.proofs.Common.{arith}
use Rattle.gapcode.proofs.WholeLemmas.{read_found, read_only}
use Rattle.gapcode.proofs.lists.Lists.read.Goals as goal

pub returns-clause-found : goal.returns-clause-found
returns-clause-found c = read_found c.args.bound c.args.count c.args.bytes.now c.checked.result c.checked.ensures

pub returns-clause-only : goal.returns-clause-only
returns-clause-only c = read_only c.args.bound c.args.count c.args.bytes.now c.checked.result (omega arith) c.checked.ensures
