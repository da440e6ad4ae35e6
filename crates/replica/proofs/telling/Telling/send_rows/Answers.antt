use Rattle.replica.proofs.SentLemmas.Telling.{sent_begin}
use Rattle.replica.proofs.telling.Telling.send_rows.Goals as goal

pub loop-k-init : goal.loop-k-init
loop-k-init c = sent_begin _ c.args.self.now c.args.batch.now c.self.view_is c.self.invariant c.requires
