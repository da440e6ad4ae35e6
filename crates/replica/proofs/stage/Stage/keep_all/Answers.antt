use Rattle.std.proofs.Common.{sym, ◌∙◌}
use Rattle.replica.specs.Hearing.{CanRenew}
use Rattle.replica.proofs.HearingLemmas.Accumulator.{Readied, is_spare, made_whole, readied}
use Rattle.replica.proofs.stage.Stage.keep_all.Goals as goal
use Rattle.replica.proofs.stage.Stage.keep_all.Goals.{After-renew}

-- what it is then
ready : (c : After-renew) → Readied (record c.self.inside { hearing = c.renew.new.self; spare = c.take_back.new.spare }) c.args.self.now c.renew.result
ready c =
    let whole = made_whole c.self.inside c.args.self.now c.take_back.new.self c.take_back.new.spare c.self.invariant c.self.view_is c.take_back.ensures in
    readied c.renew.result (record c.self.inside { hearing = c.take_back.new.self; spare = c.take_back.new.spare }) c.args.self.now c.rows.result.now c.renew.new.self whole c.requires c.rows.ensures c.renew.ensures.renewed c.renew.ensures.refused

pub take_back-requires-clause-spare : goal.take_back-requires-clause-spare
take_back-requires-clause-spare c = is_spare c.self.inside c.self.invariant

pub renew-requires : goal.renew-requires
renew-requires c =
    let spare = is_spare c.self.inside c.self.invariant in
    let can : CanRenew c.self.inside.tables.rows c.take_back.new.self = record { width = sym (c.take_back.ensures.same.width ∙ spare.width); kept = c.take_back.ensures.same.kept } in
    rw c.rows.ensures can

pub invariant_of-self : goal.invariant_of-self
invariant_of-self c = (ready (goal.at.invariant_of-self c).After-renew).limits

pub returns : goal.returns
returns c =
    let is = ready (goal.at.returns c).After-renew in
    record { same = is.same; goes_on = is.goes_on; whole = is.whole; state = is.limits.state }
