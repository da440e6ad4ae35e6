-- Recovering from two copies, in either order.
use Rattle.std.proofs.Common.{◌≡◌, ℕ, ◌==◌, refl, ap, sym, ◌∙◌, subst}
use Rattle.std.specs.Prelude.{Option, None, Some, IfSome, Result, Ok, Err, option_map, unwrap_or}
use Rattle.std.specs.List.{slice_get}
use Rattle.std.proofs.lemmas.Bool.{eqb-true}
use Rattle.ball_model.specs.declared.names.MergeError.{MergeError}
use Rattle.ball_model.specs.declared.names.NodeId.{NodeId}
use Rattle.ball_model.specs.declared.world.Event.TheVariants as event
use Rattle.ball_model.specs.declared.world.Answer.TheVariants as answer
use Rattle.ball_model.specs.Held.{IsHeldBy}
use Rattle.ball_model.specs.Job.{Job}
use Rattle.ball_model.specs.Join.{Holding, join_of, merge_of}
use Rattle.ball_model.specs.World.{World, Node, node_at, with_node, outcome_unless, recover_at, recover_when, answer_in, after_event, world_in}
use Rattle.ball_model.proofs.HeldLemmas.{held_alike}
use Rattle.ball_model.proofs.JoinLemmas.{join_commutes, join_associates}
use Rattle.ball_model.proofs.WorldLemmas.{node_same, node_is_one, own_copy}
use Rattle.world.specs.Shows.{seen_at}
use Rattle.world.specs.Runs.{RecoversInAnyOrder}
use Rattle.world.proofs.RunLemmas.{has_one, node_by}

-- a recovery that merged: its node and its copy
record Recovered (w : World) (id : NodeId) (c : ℕ) : Type 0 where
  node : Node
  copy : Holding
  at : node_at w id ≡ Some node
  copied : slice_get w.copies c ≡ Some copy
  mine : merge_of node.content.plan node.content.partition copy.plan copy.partition ≡ Ok tt

recovered_when : (w : World) (id : NodeId) (c a : ℕ) (n : Node) (h : Holding) (r : Result (Unit {0}) MergeError) → node_at w id ≡ Some n → slice_get w.copies c ≡ Some h → merge_of n.content.plan n.content.partition h.plan h.partition ≡ r →
    answer_in (recover_when w id n h r) ≡ Ok (answer.Merged a) → Recovered w id c
recovered_when w id c a n h (Ok u) at copied is e = record { node = n; copy = h; at = at; copied = copied; mine = is }
recovered_when w id c a n h (Err x) at copied is e = absurd (cc)

recovered_copy : (w : World) (id : NodeId) (c a : ℕ) (n : Node) (o : Option Holding) → node_at w id ≡ Some n → slice_get w.copies c ≡ o → answer_in (recover_at w id n o) ≡ Ok (answer.Merged a) → Recovered w id c
recovered_copy w id c a n None at copied e = absurd (cc)
recovered_copy w id c a n (Some h) at copied e = recovered_when w id c a n h (merge_of n.content.plan n.content.partition h.plan h.partition) at copied refl e

recovered_node : (j : Job) (w : World) (id : NodeId) (c a : ℕ) (o : Option Node) → node_at w id ≡ o → answer_in (outcome_unless j w (event.Recover id c) o) ≡ Ok (answer.Merged a) → Recovered w id c
recovered_node j w id c a None at e = absurd (cc)
recovered_node j w id c a (Some n) at e = recovered_copy w id c a n (slice_get w.copies c) at refl e

-- what a recovery makes of its world
merged_world : (j : Job) (w : World) (id : NodeId) (c : ℕ) (n : Node) (h : Holding) → node_at w id ≡ Some n → slice_get w.copies c ≡ Some h → merge_of n.content.plan n.content.partition h.plan h.partition ≡ Ok tt →
    after_event j w (event.Recover id c) ≡ with_node w id (record n { content = join_of n.content h })
merged_world j w id c n h at copied mine =
    ap (λ o. world_in w (outcome_unless j w (event.Recover id c) o)) at
    ∙ ap (λ o. world_in w (recover_at w id n o)) copied
    ∙ ap (λ r. world_in w (recover_when w id n h r)) mine

-- the content after two
after_both : (j : Job) (w : World) (id : NodeId) (c d : ℕ) (n : Node) (h k : Holding) → node_at w id ≡ Some n → slice_get w.copies c ≡ Some h → slice_get w.copies d ≡ Some k →
    merge_of n.content.plan n.content.partition h.plan h.partition ≡ Ok tt → merge_of n.content.plan n.content.partition k.plan k.partition ≡ Ok tt →
    option_map (λ (m : Node). m.content) (node_at (after_event j (after_event j w (event.Recover id c)) (event.Recover id d)) id) ≡ Some (join_of (join_of n.content h) k)
after_both j w id c d n h k at first second one two =
    let next : Node = record n { content = join_of n.content h } in
    let v : World = with_node w id next in
    let here : node_at v id ≡ Some next = node_same w id n next at in
    let last : Node = record next { content = join_of next.content k } in
    ap (λ (x : World). option_map (λ (m : Node). m.content) (node_at (after_event j x (event.Recover id d)) id)) (merged_world j w id c n h at first one)
    ∙ ap (λ (x : World). option_map (λ (m : Node). m.content) (node_at x id)) (merged_world j v id d next k here second two)
    ∙ ap (option_map (λ (m : Node). m.content)) (node_same v id next last here)

-- a copy that was merged is one of the node's partition
own : (j : Job) (p c : ℕ) (w : World) (n : Node) (h : Holding) → IfSome (slice_get w.copies c) (λ k. IsHeldBy j k.partition k) → slice_get w.copies c ≡ Some h → n.content.partition ≡ p →
    merge_of n.content.plan n.content.partition h.plan h.partition ≡ Ok tt → IsHeldBy j p h
own j p c w n h ok copied part mine =
    let made : IsHeldBy j h.partition h = subst (λ (o : Option Holding). IfSome o (λ k. IsHeldBy j k.partition k)) copied ok in
    let same : h.partition ≡ n.content.partition = eqb-true h.partition n.content.partition (own_copy _ (h.partition == n.content.partition) tt mine) in
    subst (λ (q : ℕ). IsHeldBy j q h) (same ∙ part) made

either_way : (j : Job) (p : ℕ) (g h k : Holding) → IsHeldBy j p g → IsHeldBy j p h → IsHeldBy j p k → join_of (join_of g h) k ≡ join_of (join_of g k) h
either_way j p g h k a b c =
    join_associates g h k (held_alike j p g h a b) (held_alike j p h k b c)
    ∙ ap (join_of g) (join_commutes h k (held_alike j p h k b c))
    ∙ sym (join_associates g k h (held_alike j p g k a c) (held_alike j p k h c b))

pub any_order : RecoversInAnyOrder
any_order j w id c d a b e f v x y s t one other shows first second third fourth here there =
    let wc = after_event j w (event.Recover id c) in
    let wd = after_event j w (event.Recover id d) in
    let shows_x = first.shows w shows (λ k. absurd (cc)) in
    let shows_y = second.shows wc shows_x (λ k. absurd (cc)) in
    let shows_s = third.shows w shows (λ k. absurd (cc)) in
    let shows_t = fourth.shows wd shows_s (λ k. absurd (cc)) in
    let r = recovered_node j w id c a (node_at w id) refl (sym (first.answer w shows (λ k. absurd (cc)))) in
    let q = recovered_node j w id d e (node_at w id) refl (sym (third.answer w shows (λ k. absurd (cc)))) in
    let n = r.node in
    let same : q.node ≡ n = ap (λ (o : Option Node). unwrap_or o n) (sym q.at ∙ r.at) in
    let mine : merge_of n.content.plan n.content.partition q.copy.plan q.copy.partition ≡ Ok tt = subst (λ (m : Node). merge_of m.content.plan m.content.partition q.copy.plan q.copy.partition ≡ Ok tt) same q.mine in
    let held = (node_is_one j w id n shows.world r.at).content in
    let copy_c = own j id.part c w n r.copy (shows.world.copies c) r.copied held.partition r.mine in
    let copy_d = own j id.part d w n q.copy (shows.world.copies d) q.copied held.partition mine in
    let wcd = after_event j wc (event.Recover id d) in
    let wdc = after_event j wd (event.Recover id c) in
    let l = node_by j (node_at wcd id) (seen_at y id) one here (shows_y.nodes id) in
    let m = node_by j (node_at wdc id) (seen_at t id) other there (shows_t.nodes id) in
    let left : l.node.content ≡ join_of (join_of n.content r.copy) q.copy = ap (λ (o : Option Holding). unwrap_or o n.content)
    (sym (ap (option_map (λ (k : Node). k.content)) l.is) ∙ after_both j w id c d n r.copy q.copy r.at r.copied q.copied r.mine mine) in
    let right : m.node.content ≡ join_of (join_of n.content q.copy) r.copy = ap (λ (o : Option Holding). unwrap_or o n.content)
    (sym (ap (option_map (λ (k : Node). k.content)) m.is) ∙ after_both j w id d c n q.copy r.copy r.at q.copied r.copied mine r.mine) in
    has_one j l.node.content m.node.content one.replica other.replica
    (left ∙ either_way j id.part n.content r.copy q.copy held copy_c copy_d ∙ sym right) l.shows.content m.shows.content
