use Rattle.std.proofs.Common.{refl, set}
use Rattle.std.specs.Vec.{with_item}
use Rattle.std.proofs.lemmas.Result.{err_from_is_err_and}
use Rattle.ball_model.specs.declared.world.Event.TheVariants as event
use Rattle.world.specs.contracts.world.World.{the_view}
use Rattle.world.proofs.PlaceLemmas.{at_changed, at_same, at_seen, at_unchanged, lookup_none, lookup_some, no_node_in, nothing_at, placed, row_same, something_at, with_rows}
use Rattle.world.proofs.ApplyLemmas.{no_copy, no_node, recover_of_world, turn_applies, want_recover}
use Rattle.world.proofs.world.World.recover.Goals as goal

pub returns-in_default-get_mut : goal.returns-in_default-get_mut
returns-in_default-get_mut c = λ j.
    let v = the_view c.self.inside in
    let rows = c.self.inside.nodes.items in
    let row = c.in-Some.nodes.now in
    let there = something_at c.self.inside.nodes c.from.result row (c.in-Some.ensures.variant.0 refl) c.in-Some.ensures.value in
    let gone = nothing_at row c.from-2.result c.in_default-get_mut.ensures.variant.1 in
    no_node j (event.Recover c.args.id c.args.copy) c.args.self.now (with_rows v (set rows c.from.result row)) v c.self.view_is (row_same v rows c.from.result row there) (no_node_in v rows c.args.id c.from.result c.from-2.result row c.from.ensures c.from-2.ensures there gone)

pub returns-in_default-get : goal.returns-in_default-get
returns-in_default-get c = λ j.
    let v = the_view c.self.inside in
    let rows = c.self.inside.nodes.items in
    let row = c.in-Some.nodes.now in
    let s = c.in-Some-get_mut.node.now in
    let at = placed c.self.inside.nodes c.args.id c.from.result c.from-2.result row s c.from.ensures c.from-2.ensures (c.in-Some.ensures.variant.0 refl) c.in-Some.ensures.value (c.in-Some-get_mut.ensures.variant.0 refl) c.in-Some-get_mut.ensures.value in
    let seen = at_seen v rows c.args.id c.from.result c.from-2.result row s at in
    no_copy j c.args.id c.args.copy c.args.self.now (with_rows v (set rows c.from.result (with_item row c.from-2.result s))) v s c.self.view_is (at_same v rows c.args.id c.from.result c.from-2.result row s at) seen
    (lookup_none c.deref.result.now v.copies c.args.copy c.deref.ensures.value c.in_default-get.ensures.lookup.3)

pub returns-in_err-recover : goal.returns-in_err-recover
returns-in_err-recover c = λ j.
    let v = the_view c.self.inside in
    let rows = c.self.inside.nodes.items in
    let row = c.in-Some.nodes.now in
    let s = c.in-Some-get_mut.node.now in
    let at = placed c.self.inside.nodes c.args.id c.from.result c.from-2.result row s c.from.ensures c.from-2.ensures (c.in-Some.ensures.variant.0 refl) c.in-Some.ensures.value (c.in-Some-get_mut.ensures.variant.0 refl) c.in-Some-get_mut.ensures.value in
    let seen = at_seen v rows c.args.id c.from.result c.from-2.result row s at in
    let t = c.recover.new.self in
    let d = c.in-Some-get.snapshot.now in
    let copied = lookup_some c.deref.result.now v.copies c.args.copy d c.deref.ensures.value c.in-Some-get.ensures.lookup.3.0 c.in-Some-get.ensures.lookup.1 in
    let p = err_from_is_err_and c.from_residual.result c.from_residual.ensures.1 in
    rw (p.1, p.2) (want_recover j c.args.id c.args.copy d c.args.self.now (with_rows v (set rows c.from.result (with_item row c.from-2.result t))) v s c.self.view_is (at_unchanged v rows c.args.id c.from.result c.from-2.result row s t at c.in_err-recover.ensures.refused) seen copied)

pub returns : goal.returns
returns c = λ j.
    let v = the_view c.self.inside in
    let rows = c.self.inside.nodes.items in
    let row = c.in-Some.nodes.now in
    let s = c.in-Some-get_mut.node.now in
    let at = placed c.self.inside.nodes c.args.id c.from.result c.from-2.result row s c.from.ensures c.from-2.ensures (c.in-Some.ensures.variant.0 refl) c.in-Some.ensures.value (c.in-Some-get_mut.ensures.variant.0 refl) c.in-Some-get_mut.ensures.value in
    let seen = at_seen v rows c.args.id c.from.result c.from-2.result row s at in
    let t = c.recover.new.self in
    let a = c.in_ok-recover.field-0 in
    let d = c.in-Some-get.snapshot.now in
    let copied = lookup_some c.deref.result.now v.copies c.args.copy d c.deref.ensures.value c.in-Some-get.ensures.lookup.3.0 c.in-Some-get.ensures.lookup.1 in
    turn_applies j (event.Recover c.args.id c.args.copy) a c.args.self.now (with_rows v (set rows c.from.result (with_item row c.from-2.result t))) v s t c.self.view_is (at_changed v rows c.args.id c.from.result c.from-2.result row s t at) seen
    (λ w shows. recover_of_world j c.args.id c.args.copy w v d a s t shows copied (λ h has. c.in_ok-recover.ensures.turned j h has))
