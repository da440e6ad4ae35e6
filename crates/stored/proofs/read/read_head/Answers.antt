use Rattle.std.proofs.Common.{length, arith}
use Rattle.stored.proofs.ReadLemmas.{tells_bytes}
use Rattle.stored.proofs.read.read_head.Goals as goal

pub returns-clause-done : goal.returns-clause-done
returns-clause-done g c = tells_bytes (length c.args.buffer.now) c.read_full.new.buffer (omega arith) c.digest.ensures.digested c.in_ok-read_full.ensures.done c.digest.ensures.bytes
