-- A world that shows another one still shows it where one node of both is changed.
use Rattle.std.proofs.Common.{◌≡◌, ◌≢◌, ℕ, List, [], get_or, set, ap, sym, subst, inl, inr}
use Rattle.std.specs.Prelude.{Option, Some}
use Rattle.std.specs.List.{slice_get}
use Rattle.std.proofs.lemmas.Bool.{cases_eq}
use Rattle.ball_model.specs.declared.names.NodeId.{NodeId}
use Rattle.ball_model.specs.Job.{Job}
use Rattle.ball_model.specs.World.{World, Node, node_at, with_node}
use Rattle.ball_model.specs.WorldLaws.{IsWorldNode}
use Rattle.ball_model.proofs.WorldLemmas.{changed, changed_same, changed_row, changed_other, same_or_other, id_same, node_same, node_other, with_node_world}
use Rattle.world.specs.Shows.{SeenNode, SeenWorld, seen_at, Agree, ShowsNode, Shows}

-- the world in which a node is another
abbrev pub with_seen : SeenWorld → NodeId → SeenNode → SeenWorld
with_seen v id s = record v { nodes = changed v.nodes id.part id.replica s }

seen_same : (v : SeenWorld) (id : NodeId) (s t : SeenNode) → seen_at v id ≡ Some s → seen_at (with_seen v id t) id ≡ Some t
seen_same v id s t e = changed_same v.nodes id.part id.replica s t e

seen_other : (v : SeenWorld) (id at : NodeId) (t : SeenNode) → at ≢ id → seen_at (with_seen v id t) at ≡ seen_at v at
seen_other v id at t ne = elim (cases_eq at.part id.part) [
  | inl p ↦
      subst (λ (q : ℕ). slice_get (get_or (changed v.nodes id.part id.replica t) q []) at.replica ≡ slice_get (get_or v.nodes q []) at.replica) (sym p)
      (changed_row v.nodes id.part id.replica at.replica t (λ k. ne (id_same at id p k)))
  | inr other ↦ ap (λ (row : List SeenNode). slice_get row at.replica) (changed_other v.nodes id.part at.part id.replica (set (get_or v.nodes id.part []) id.replica t) other)
]

-- what agrees, said of the same in other words
pub agree_as : {A B : Type 0} (R : A → B → Type 0) (a c : Option A) (b d : Option B) → a ≡ c → b ≡ d → Agree R c d → Agree R a b
agree_as R a c b d first second h = subst (λ x. Agree R x b) (sym first) (subst (λ y. Agree R c y) (sym second) h)

-- both worlds have another node in one place, and the one shows the other
pub shows_changed : (j : Job) (w : World) (v : SeenWorld) (id : NodeId) (n m : Node) (s t : SeenNode) → Shows j w v → node_at w id ≡ Some n → seen_at v id ≡ Some s → IsWorldNode j id.part m → ShowsNode j m t →
    Shows j (with_node w id m) (with_seen v id t)
shows_changed j w v id n m s t shows here there fits agree = record {
  job = shows.job;
  plan = shows.plan;
  world = with_node_world j w id n m shows.world here fits;
  nodes = λ at. elim (same_or_other at id) [
    | inl same ↦
        subst (λ (x : NodeId). Agree (ShowsNode j) (node_at (with_node w id m) x) (seen_at (with_seen v id t) x)) (sym same)
        (agree_as (ShowsNode j) (node_at (with_node w id m) id) (Some m) (seen_at (with_seen v id t) id) (Some t) (node_same w id n m here) (seen_same v id s t there) agree)
    | inr ne ↦
        agree_as (ShowsNode j) (node_at (with_node w id m) at) (node_at w at) (seen_at (with_seen v id t) at) (seen_at v at) (node_other w id at m ne) (seen_other v id at t ne) (shows.nodes at)
  ];
  messages = shows.messages;
  copies = shows.copies;
  count = shows.count;
}
