use Rattle.std.proofs.Common.{◌∙◌}
use Rattle.replica.proofs.SentLemmas.Sent.{sent_first, sent_true}
use Rattle.replica.proofs.replica.Replica.out.Goals as goal

pub send_rows-requires : goal.send_rows-requires
send_rows-requires c =
    let count = c.len.ensures ∙ c.in_ok-vertices.vertices.ok.0 ∙ c.in_ok-vertices.ensures.count in
    rw c.self.view_is (c.in_ok-reserve.ensures ∙ c.in_ok-batch.ensures ∙ sent_first c.args.self.now c.args.target c.plan.ensures c.superstep.ensures.value c.partition.ensures count)

pub returns-clause-stands : goal.returns-clause-stands
returns-clause-stands c = λ j p t h.
    let v = c.args.self.now in
    (rw c.self.view_is at c.in_ok-send_rows.ensures) ∙ sent_true j p t c.args.target v h c.requires.target
