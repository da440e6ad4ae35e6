use Rattle.std.proofs.Common.{sym, subst}
use Rattle.ball_model.specs.Table.{Table}
use Rattle.registers.specs.Differ.{DifferWhere}
use Rattle.replica.specs.Relay.{shown_of}
use Rattle.replica.proofs.relay.rows.Relay+Rows.swap_marked.Goals as goal

pub invariant_of-self : goal.invariant_of-self
unfolding shown_of
invariant_of-self c =
    let differ : DifferWhere c.args.marks.now (shown_of c.self.inside.own c.self.inside.out) c.args.ahead.now = subst (λ (t : Table). DifferWhere c.args.marks.now t c.args.ahead.now) (sym c.self.view_is) c.requires in
    rw (c.part.ensures.out, c.swap.ensures.x_after) (c.mark_all.ensures (shown_of c.self.inside.own c.self.inside.out) c.args.ahead.now c.self.invariant differ)

pub returns-clause-rows : goal.returns-clause-rows
unfolding shown_of
returns-clause-rows c = rw c.part.ensures.out c.swap.ensures.x_after
