use Rattle.std.proofs.Common.{refl, set}
use Rattle.std.specs.Arc.{arc_value}
use Rattle.std.specs.Vec.{with_item}
use Rattle.std.proofs.lemmas.Result.{err_from_is_err_and}
use Rattle.ball_model.specs.declared.world.Event.TheVariants as event
use Rattle.world.specs.contracts.world.World.{the_view}
use Rattle.world.proofs.PlaceLemmas.{at_changed, at_same, at_seen, lookup_none, lookup_some, no_node_in, nothing_at, placed, row_same, something_at, with_rows}
use Rattle.world.proofs.ApplyLemmas.{deliver_of_world, deliver_turns, no_message, no_node, turn_applies, want_deliver}
use Rattle.world.proofs.world.World.deliver.Goals as goal

pub returns-in_default-get_mut : goal.returns-in_default-get_mut
returns-in_default-get_mut c = λ j.
    let v = the_view c.self.inside in
    let rows = c.self.inside.nodes.items in
    let row = c.in-Some.nodes.now in
    let there = something_at c.self.inside.nodes c.from.result row (c.in-Some.ensures.variant.0 refl) c.in-Some.ensures.value in
    let gone = nothing_at row c.from-2.result c.in_default-get_mut.ensures.variant.1 in
    no_node j (event.Deliver c.args.message c.args.id) c.args.self.now (with_rows v (set rows c.from.result row)) v c.self.view_is (row_same v rows c.from.result row there) (no_node_in v rows c.args.id c.from.result c.from-2.result row c.from.ensures c.from-2.ensures there gone)

pub returns-in_default-get : goal.returns-in_default-get
returns-in_default-get c = λ j.
    let v = the_view c.self.inside in
    let rows = c.self.inside.nodes.items in
    let row = c.in-Some.nodes.now in
    let s = c.in-Some-get_mut.node.now in
    let at = placed c.self.inside.nodes c.args.id c.from.result c.from-2.result row s c.from.ensures c.from-2.ensures (c.in-Some.ensures.variant.0 refl) c.in-Some.ensures.value (c.in-Some-get_mut.ensures.variant.0 refl) c.in-Some-get_mut.ensures.value in
    let seen = at_seen v rows c.args.id c.from.result c.from-2.result row s at in
    let gone = lookup_none c.deref.result.now v.messages c.args.message c.deref.ensures.value c.in_default-get.ensures.lookup.3 in
    no_message j c.args.id c.args.message c.args.self.now (with_rows v (set rows c.from.result (with_item row c.from-2.result s))) v s c.self.view_is (at_same v rows c.args.id c.from.result c.from-2.result row s at) seen gone

pub returns-in_err-batch : goal.returns-in_err-batch
returns-in_err-batch c = λ j.
    let v = the_view c.self.inside in
    let rows = c.self.inside.nodes.items in
    let row = c.in-Some.nodes.now in
    let s = c.in-Some-get_mut.node.now in
    let at = placed c.self.inside.nodes c.args.id c.from.result c.from-2.result row s c.from.ensures c.from-2.ensures (c.in-Some.ensures.variant.0 refl) c.in-Some.ensures.value (c.in-Some-get_mut.ensures.variant.0 refl) c.in-Some-get_mut.ensures.value in
    let seen = at_seen v rows c.args.id c.from.result c.from-2.result row s at in
    let m = c.in-Some-get.message.now in
    let sent = lookup_some c.deref.result.now v.messages c.args.message m c.deref.ensures.value c.in-Some-get.ensures.lookup.3.0 c.in-Some-get.ensures.lookup.1 in
    let p = err_from_is_err_and c.from_residual.result c.from_residual.ensures.1 in
    rw (p.1, p.2) (want_deliver j c.args.id c.args.message m c.args.self.now (with_rows v (set rows c.from.result (with_item row c.from-2.result s))) v s c.self.view_is (at_same v rows c.args.id c.from.result c.from-2.result row s at) seen sent)

pub returns : goal.returns
returns c = λ j.
    let v = the_view c.self.inside in
    let rows = c.self.inside.nodes.items in
    let row = c.in-Some.nodes.now in
    let s = c.in-Some-get_mut.node.now in
    let at = placed c.self.inside.nodes c.args.id c.from.result c.from-2.result row s c.from.ensures c.from-2.ensures (c.in-Some.ensures.variant.0 refl) c.in-Some.ensures.value (c.in-Some-get_mut.ensures.variant.0 refl) c.in-Some-get_mut.ensures.value in
    let seen = at_seen v rows c.args.id c.from.result c.from-2.result row s at in
    let t = c.deliver.new.self in
    let a = c.deliver.result in
    let m = c.in-Some-get.message.now in
    let sent = lookup_some c.deref.result.now v.messages c.args.message m c.deref.ensures.value c.in-Some-get.ensures.lookup.3.0 c.in-Some-get.ensures.lookup.1 in
    turn_applies j (event.Deliver c.args.message c.args.id) a c.args.self.now (with_rows v (set rows c.from.result (with_item row c.from-2.result t))) v s t c.self.view_is (at_changed v rows c.args.id c.from.result c.from-2.result row s t at) seen
    (λ w shows. deliver_of_world j c.args.id c.args.message w v m a s t shows sent
    (λ name ok spells. deliver_turns j (arc_value c.in_ok-batch.batch) name a s t (c.in_ok-batch.ensures j name shows.job ok spells) ok (c.deliver.ensures j)))
