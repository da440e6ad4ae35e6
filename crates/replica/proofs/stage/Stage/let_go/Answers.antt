use Rattle.replica.proofs.HearingLemmas.Accumulator.{Gone, is_spare, let_gone, made_whole}
use Rattle.replica.proofs.stage.Stage.let_go.Goals as goal
use Rattle.replica.proofs.stage.Stage.let_go.Goals.{After-let_go}

-- what it is then
gone : (c : After-let_go) → Gone (record c.self.inside { tables = c.give_back.new.self; hearing = c.let_go.new.self; spare = c.take_back.new.spare }) c.args.self.now
gone c =
    let whole = made_whole c.self.inside c.args.self.now c.take_back.new.self c.take_back.new.spare c.self.invariant c.self.view_is c.take_back.ensures in
    let_gone (record c.self.inside { hearing = c.take_back.new.self; spare = c.take_back.new.spare }) c.args.self.now c.give_back.new.self c.let_go.new.self whole c.requires c.give_back.ensures (c.let_go.ensures c.self.inside.tables.rows.rows c.take_back.ensures.same.kept)

pub take_back-requires-clause-spare : goal.take_back-requires-clause-spare
take_back-requires-clause-spare c = is_spare c.self.inside c.self.invariant

pub invariant_of-self : goal.invariant_of-self
invariant_of-self c = (gone (goal.at.invariant_of-self c).After-let_go).limits

pub returns : goal.returns
returns c = (gone (goal.at.returns c).After-let_go).stays
