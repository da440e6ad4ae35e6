use Rattle.std.proofs.Common.{◌++◌, ◌∷◌, [], length, refl, set, ap, ◌∙◌}
use Rattle.std.specs.Vec.{with_item}
use Rattle.std.proofs.lemmas.Result.{err_from_is_err_and}
use Rattle.ball_model.specs.declared.world.Event.TheVariants as event
use Rattle.ball_model.specs.declared.world.Answer.TheVariants as answer
use Rattle.ball_model.specs.State.{State}
use Rattle.world.specs.Shows.{SeenWorld}
use Rattle.world.specs.contracts.world.World.{the_view}
use Rattle.world.proofs.PlaceLemmas.{at_seen, at_unchanged, no_node_in, nothing_at, placed, row_same, something_at, with_rows}
use Rattle.world.proofs.ApplyLemmas.{copy_applies, no_node, want_applies}
use Rattle.world.proofs.world.World.copy.Goals as goal

pub returns-in_default-get_mut : goal.returns-in_default-get_mut
returns-in_default-get_mut c = λ j.
    let v = the_view c.self.inside in
    let rows = c.self.inside.nodes.items in
    let row = c.in-Some.nodes.now in
    let there = something_at c.self.inside.nodes c.from.result row (c.in-Some.ensures.variant.0 refl) c.in-Some.ensures.value in
    let gone = nothing_at row c.from-2.result c.in_default-get_mut.ensures.variant.1 in
    no_node j (event.Copy c.args.id) c.args.self.now (with_rows v (set rows c.from.result row)) v c.self.view_is (row_same v rows c.from.result row there) (no_node_in v rows c.args.id c.from.result c.from-2.result row c.from.ensures c.from-2.ensures there gone)

pub returns-in_err-snapshot : goal.returns-in_err-snapshot
returns-in_err-snapshot c = λ j.
    let v = the_view c.self.inside in
    let rows = c.self.inside.nodes.items in
    let row = c.in-Some.nodes.now in
    let s = c.in-Some-get_mut.node.now in
    let at = placed c.self.inside.nodes c.args.id c.from.result c.from-2.result row s c.from.ensures c.from-2.ensures (c.in-Some.ensures.variant.0 refl) c.in-Some.ensures.value (c.in-Some-get_mut.ensures.variant.0 refl) c.in-Some-get_mut.ensures.value in
    let seen = at_seen v rows c.args.id c.from.result c.from-2.result row s at in
    let t = c.copy.new.self in
    let p = err_from_is_err_and c.from_residual.result c.from_residual.ensures.1 in
    rw (p.1, p.2) (want_applies j (event.Copy c.args.id) c.args.self.now (with_rows v (set rows c.from.result (with_item row c.from-2.result t))) v s c.self.view_is (at_unchanged v rows c.args.id c.from.result c.from-2.result row s t at c.copy.ensures.unchanged) seen refl (λ w n shows is agrees. refl))

pub returns-in_err-add_copy : goal.returns-in_err-add_copy
returns-in_err-add_copy c = λ j.
    let v = the_view c.self.inside in
    let rows = c.self.inside.nodes.items in
    let row = c.in-Some.nodes.now in
    let s = c.in-Some-get_mut.node.now in
    let at = placed c.self.inside.nodes c.args.id c.from.result c.from-2.result row s c.from.ensures c.from-2.ensures (c.in-Some.ensures.variant.0 refl) c.in-Some.ensures.value (c.in-Some-get_mut.ensures.variant.0 refl) c.in-Some-get_mut.ensures.value in
    let seen = at_seen v rows c.args.id c.from.result c.from-2.result row s at in
    let same = at_unchanged v rows c.args.id c.from.result c.from-2.result row s c.copy.new.self at c.copy.ensures.unchanged in
    let p = err_from_is_err_and c.from_residual-in_err-add_copy.result c.from_residual-in_err-add_copy.ensures.1 in
    rw (p.1, p.2) (want_applies j (event.Copy c.args.id) c.args.self.now c.add_copy.new.self v s c.self.view_is (c.in_err-add_copy.ensures.refused ∙ same) seen refl (λ w n shows is agrees. refl))

pub returns : goal.returns
returns c = λ j.
    let v = the_view c.self.inside in
    let rows = c.self.inside.nodes.items in
    let row = c.in-Some.nodes.now in
    let s = c.in-Some-get_mut.node.now in
    let at = placed c.self.inside.nodes c.args.id c.from.result c.from-2.result row s c.from.ensures c.from-2.ensures (c.in-Some.ensures.variant.0 refl) c.in-Some.ensures.value (c.in-Some-get_mut.ensures.variant.0 refl) c.in-Some-get_mut.ensures.value in
    let seen = at_seen v rows c.args.id c.from.result c.from-2.result row s at in
    let d = c.in_ok-snapshot.snapshot in
    let a = c.in_ok-add_copy.field-0 in
    let same = at_unchanged v rows c.args.id c.from.result c.from-2.result row s c.copy.new.self at c.copy.ensures.unchanged in
    copy_applies j c.args.id a c.args.self.now c.add_copy.new.self v s c.self.view_is seen
    (c.in_ok-add_copy.ensures.answer ∙ ap (λ (x : State). answer.Copied (length v.copies) x.superstep) c.in_ok-snapshot.ensures.same)
    (c.in_ok-add_copy.ensures.copied
    ∙ ap (λ (x : SeenWorld). record x { copies = x.copies ++ d ∷ [] }) same
    ∙ ap (λ (x : State). record v { copies = v.copies ++ x ∷ [] }) c.in_ok-snapshot.ensures.same)
