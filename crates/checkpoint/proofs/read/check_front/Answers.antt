use Rattle.std.proofs.Common.{◌∙◌, ap, arith}
use Rattle.checkpoint.specs.Reading.{check_checkpoint_head}
use Rattle.checkpoint.proofs.FrontLemmas.{front_refused, front_short}
use Rattle.checkpoint.proofs.read.check_front.Goals as goal

pub returns-then-bytes-lt-HEADER_LEN-clause-refused : goal.returns-then-bytes-lt-HEADER_LEN-clause-refused
returns-then-bytes-lt-HEADER_LEN-clause-refused c = front_short c.args.part.now c.args.bytes.now (omega (arith, c.if-bytes-lt-HEADER_LEN.true))

pub returns-clause-refused : goal.returns-clause-refused
returns-clause-refused c =
    front_refused c.args.part.now c.args.bytes.now c.check_header.result (omega (arith, c.if-bytes-lt-HEADER_LEN.false))
    (c.check_header.ensures.value ∙ ap (check_checkpoint_head c.args.part.now) c.read_header.ensures)
