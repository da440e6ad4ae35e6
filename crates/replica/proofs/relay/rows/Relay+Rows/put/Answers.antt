use Rattle.std.proofs.Common.{◌≡◌, ◌∙◌, ap, slice_set}
use Rattle.ball_model.specs.Table.{Table}
use Rattle.registers.specs.Differ.{DifferWhere}
use Rattle.replica.specs.Relay.{IsRelay, shown_of}
use Rattle.replica.proofs.relay.rows.Relay+Rows.put.Goals as goal

pub invariant_of-self : goal.invariant_of-self
unfolding shown_of
invariant_of-self c =
    let is : IsRelay DifferWhere c.part.new.own c.self.inside.behind = rw c.part.ensures.own c.self.invariant in
    rw (c.part.ensures.out, c.put.ensures) (c.mark_one.ensures c.part.new.own c.args.row.now is)

pub returns : goal.returns
unfolding shown_of
returns c =
    let own : c.part.new.own ≡ c.args.self.now = c.part.ensures.own ∙ c.self.view_is in
    rw c.part.ensures.out (c.put.ensures ∙ ap (λ (t : Table). record t { rows = slice_set t.rows c.args.i c.args.row.now }) own)
