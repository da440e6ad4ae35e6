use Rattle.std.proofs.Common.{◌≡◌, arith, sym, subst}
use Rattle.std.specs.Prelude.{Option, None, Some, ℕ}
use Rattle.ball_model.specs.declared.names.NodeId.{NodeId}
use Rattle.hyperball.specs.Orders.{IsOrder, Reads, order_text}
use Rattle.hyperball.proofs.OrderLemmas.{cuts, order-cut, order-is, order-uncut}
use Rattle.hyperball.proofs.cli.orders.order_in.Goals as goal

reads_none : (text : _) (r : Option (NodeId × ℕ)) → r ≡ None → ((o : NodeId × ℕ) → IsOrder o → text ≡ order_text o → ⊥) → Reads IsOrder order_text text r
reads_none text r is none = subst (Reads IsOrder order_text text) (sym is) none

pub returns-in_err-node : goal.returns-in_err-node
returns-in_err-node c = reads_none c.args.text.now _ c.from_residual.ensures (order-uncut c.args.text.now (cuts 64 c.args.text.now None c.in_err-node.ensures.cases (omega arith)))

pub returns-in_err-node-2 : goal.returns-in_err-node-2
returns-in_err-node-2 c =
    let cut = cuts 64 c.args.text.now (Some (c.in_ok-node.node, c.in_ok-node.superstep)) c.in_ok-node.ensures.cases (omega arith) in
    reads_none c.args.text.now _ c.from_residual-in_err-node-2.ensures (λ o fits is. c.in_err-node-2.ensures o.0 fits.node (order-cut c.args.text.now c.in_ok-node.node.now c.in_ok-node.superstep.now cut.0 o fits is).0)

pub returns-in_err-superstep : goal.returns-in_err-superstep
returns-in_err-superstep c =
    let cut = cuts 64 c.args.text.now (Some (c.in_ok-node.node, c.in_ok-node.superstep)) c.in_ok-node.ensures.cases (omega arith) in
    reads_none c.args.text.now _ c.from_residual-in_err-superstep.ensures (λ o fits is. c.in_err-superstep.ensures o.1 fits.superstep (order-cut c.args.text.now c.in_ok-node.node.now c.in_ok-node.superstep.now cut.0 o fits is).1)

pub returns : goal.returns
returns c =
    let cut = cuts 64 c.args.text.now (Some (c.in_ok-node.node, c.in_ok-node.superstep)) c.in_ok-node.ensures.cases (omega arith) in
    order-is _ _ _ _ _ cut.1 c.in_ok-node-2.ensures c.in_ok-superstep.ensures
