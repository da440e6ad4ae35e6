use Rattle.std.proofs.Common.{◌≡◌, arith, sym, subst}
use Rattle.std.specs.Prelude.{Option, None, Some}
use Rattle.ball_model.specs.WorldText.{node_word}
use Rattle.ball_model.specs.declared.names.NodeId.{NodeId}
use Rattle.hyperball.specs.Orders.{IsNodeName, Reads}
use Rattle.hyperball.proofs.OrderLemmas.{cuts, node-cut, node-is, node-uncut}
use Rattle.hyperball.proofs.cli.orders.node_in.Goals as goal

reads_none : (text : _) (r : Option NodeId) → r ≡ None → ((id : NodeId) → IsNodeName id → text ≡ node_word id → ⊥) → Reads IsNodeName node_word text r
reads_none text r is none = subst (Reads IsNodeName node_word text) (sym is) none

pub returns-in_err-part : goal.returns-in_err-part
returns-in_err-part c = reads_none c.args.text.now _ c.from_residual.ensures (node-uncut c.args.text.now (cuts 46 c.args.text.now None c.in_err-part.ensures.cases (omega arith)))

pub returns-in_err-part-2 : goal.returns-in_err-part-2
returns-in_err-part-2 c =
    let cut = cuts 46 c.args.text.now (Some (c.in_ok-part.part, c.in_ok-part.replica)) c.in_ok-part.ensures.cases (omega arith) in
    reads_none c.args.text.now _ c.from_residual-in_err-part-2.ensures (λ id fits is. c.in_err-part-2.ensures id.part fits.part (node-cut c.args.text.now c.in_ok-part.part.now c.in_ok-part.replica.now cut.0 id fits is).0)

pub returns-in_err-replica : goal.returns-in_err-replica
returns-in_err-replica c =
    let cut = cuts 46 c.args.text.now (Some (c.in_ok-part.part, c.in_ok-part.replica)) c.in_ok-part.ensures.cases (omega arith) in
    reads_none c.args.text.now _ c.from_residual-in_err-replica.ensures (λ id fits is. c.in_err-replica.ensures id.replica fits.replica (node-cut c.args.text.now c.in_ok-part.part.now c.in_ok-part.replica.now cut.0 id fits is).1)

pub returns : goal.returns
returns c =
    let cut = cuts 46 c.args.text.now (Some (c.in_ok-part.part, c.in_ok-part.replica)) c.in_ok-part.ensures.cases (omega arith) in
    node-is _ _ _ _ _ cut.1 c.in_ok-part-2.ensures c.in_ok-replica.ensures
