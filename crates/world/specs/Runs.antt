-- The headline: what every list of events makes of a world.
use Rattle.std.specs.Prelude.{◌≡◌, ◌≢◌, ◌↔◌, ℕ, ◌+◌, ◌/◌, ◌%◌, ◌<◌, ◌≤◌, Bool, true, false, List, [], ◌∷◌, length, Some, option_map, IsTrue, Result, Ok, Err, IsOk, OnErr, slice_index_or, if◌then◌else◌}
use Rattle.std.specs.List.{AllByRecursion, slice_get}
use Rattle.ball_model.specs.declared.names.NodeId.{NodeId}
use Rattle.ball_model.specs.declared.world.Event.{Event}
use Rattle.ball_model.specs.declared.world.Event.TheVariants as event
use Rattle.ball_model.specs.declared.world.Answer.{Answer}
use Rattle.ball_model.specs.declared.world.Answer.TheVariants as answer
use Rattle.ball_model.specs.declared.world.WorldError.{WorldError}
use Rattle.ball_model.specs.declared.world.WorldError.TheVariants as refusal
use Rattle.ball_model.specs.Batches.{true_batch}
use Rattle.ball_model.specs.Graph.{is_path, is_counted}
use Rattle.ball_model.specs.Counter.{counter_of}
use Rattle.ball_model.specs.PlanValue.{mixing_of}
use Rattle.ball_model.specs.Job.{Job}
use Rattle.ball_model.specs.World.{World, start_world, answer_of, answers_of, after_event, run_of}
use Rattle.ball_model.specs.WorldLaws.{SparesKept}
use Rattle.ball_model.specs.History.{holding_in}
use Rattle.world.specs.Shows.{SeenNode, SeenWorld, message_of, seen_at, Shows}

-- the event takes memory
abbrev pub takes_memory : Event → Bool
takes_memory (event.Send id q) = true
takes_memory (event.Deliver m id) = true
takes_memory (event.Close id) = false
takes_memory (event.Keep id) = true
takes_memory (event.Restart id) = true
takes_memory (event.Copy id) = true
takes_memory (event.Recover id c) = true
takes_memory (event.Show id) = false

-- what a call of `apply` promises of its answer: a refusal changes nothing; the answer is that of the definition and
-- the world becomes the one that the definition makes, unless memory is refused; and that is answered only if nothing
-- else is refused
pub record Applies (j : Job) (e : Event) (r : Result Answer WorldError)
    (v u : SeenWorld) : Type 0 where
  pub refused : OnErr r (u ≡ v)
  pub answer : (w : World) → Shows j w v → r ≢ Err refusal.Memory → r ≡ answer_of j w e
  pub shows : (w : World) → Shows j w v → r ≢ Err refusal.Memory →
      Shows j (after_event j w e) u
  pub takes : r ≡ Err refusal.Memory → takes_memory e ≡ true
  pub memory : (w : World) → Shows j w v → r ≡ Err refusal.Memory → IsOk (answer_of j w e)

-- these events, one after the other, each with its answer, made the one of the other
unfoldable pub EventsMade : Job → SeenWorld → List Event →
    List (Result Answer WorldError) → SeenWorld → Type 0
EventsMade j v [] [] u = u ≡ v
EventsMade j v (e ∷ es) (r ∷ rs) u =
    (x : SeenWorld) × Applies j e r v x × EventsMade j x es rs u
EventsMade j v es rs u = ⊥

-- the answer is that memory was refused
abbrev pub is_want : Result Answer WorldError → Bool
is_want (Ok a) = false
is_want (Err refusal.Memory) = true
is_want (Err refusal.NoNode) = false
is_want (Err refusal.NoTarget) = false
is_want (Err refusal.NoMessage) = false
is_want (Err refusal.NoCopy) = false

-- the events that were not refused memory, and the answers to these
unfoldable pub done_in : List Event → List (Result Answer WorldError) → List Event
done_in (e ∷ es) (r ∷ rs) = if is_want r then done_in es rs else e ∷ done_in es rs
done_in es rs = []

unfoldable pub answered_in : List (Result Answer WorldError) → List (Result Answer WorldError)
answered_in [] = []
answered_in (r ∷ rs) = if is_want r then answered_in rs else r ∷ answered_in rs

-- after any list of events the world is the one that the definition makes of those that were not refused memory
abbrev pub RunShows : Type 0
RunShows =
    (j : Job) (w : World) (es : List Event)
    (rs : List (Result Answer WorldError)) (v u : SeenWorld) → Shows j w v →
    EventsMade j v es rs u →
    Shows j (run_of j w (done_in es rs)) u

-- and the answers are those of the definition
abbrev pub RunAnswers : Type 0
RunAnswers =
    (j : Job) (w : World) (es : List Event)
    (rs : List (Result Answer WorldError)) (v u : SeenWorld) → Shows j w v →
    EventsMade j v es rs u →
    answered_in rs ≡ answers_of j w (done_in es rs)

-- the members are exactly the counted vertices with a path of at most t edges to x
abbrev pub AreCountedWithin : Job → ℕ → ℕ → (ℕ → Bool) → Type 0
AreCountedWithin j x t member = (y : ℕ) → y < j.graph.vertices →
    IsTrue (member y)
    ↔ (IsTrue (is_counted j.graph y)
    × ((path : List ℕ) × IsTrue (is_path j.graph y x path) × (length path ≤ t + 1)))

-- THE HEADLINE: whatever events a world had from its start, each replica at superstep t holds for each of its vertices
-- the registers of exactly the counted vertices with a path of at most t edges to it
abbrev pub Headline : Type 0
Headline =
    (j : Job) (replicas : ℕ) (es : List Event)
    (rs : List (Result Answer WorldError)) (v u : SeenWorld) (id : NodeId) (n : SeenNode)
    (x : ℕ) (member : ℕ → Bool) →
    Shows j (start_world j.plan replicas) v → EventsMade j v es rs u →
    seen_at u id ≡ Some n → x < j.graph.vertices → x % j.plan.parts ≡ id.part →
    AreCountedWithin j x n.replica.superstep member →
    slice_index_or n.replica.rows (x / j.plan.parts) []
    ≡ counter_of (mixing_of j.plan) j.graph.vertices member

-- and two nodes with one content, the same superstep and the same names, are equal in all that they have
abbrev pub SameContentsAreSame : Type 0
SameContentsAreSame =
    (j : Job) (w : World) (v : SeenWorld) (a b : NodeId)
    (n m : SeenNode) → Shows j w v → seen_at v a ≡ Some n → seen_at v b ≡ Some m →
    holding_in n.replica ≡ holding_in m.replica →
    n.replica ≡ m.replica

-- whatever events a world had from its start, a message is the spelling of the true batch of the name that it was sent
-- with
abbrev pub MessagesAreTrue : Type 0
MessagesAreTrue =
    (j : Job) (replicas m : ℕ) (es : List Event) (rs : List (Result Answer WorldError))
    (v u : SeenWorld) → Shows j (start_world j.plan replicas) v → EventsMade j v es rs u →
    slice_get u.messages m
    ≡ option_map (λ name. message_of (true_batch j name))
    (slice_get (run_of j (start_world j.plan replicas) (done_in es rs)).sent m)

-- what is kept is read back: after a keep, any events but a keep of that node, and a restart, the replica is the one
-- that it was at the keep, in all that it has
abbrev pub KeptComesBack : Type 0
KeptComesBack =
    (j : Job) (w : World) (id : NodeId) (kept restarted : Answer) (es : List Event)
    (rs : List (Result Answer WorldError)) (v x y u : SeenWorld) (before after : SeenNode) →
    Shows j w v → seen_at v id ≡ Some before →
    Applies j (event.Keep id) (Ok kept) v x → EventsMade j x es rs y →
    AllByRecursion (SparesKept id) es →
    Applies j (event.Restart id) (Ok restarted) y u → seen_at u id ≡ Some after →
    after.replica ≡ before.replica

-- merging is a join: a node that recovers from two copies is the same whichever it merges first, in all that it has
abbrev pub RecoversInAnyOrder : Type 0
RecoversInAnyOrder =
    (j : Job) (w : World) (id : NodeId) (c d a b e f : ℕ) (v x y s t : SeenWorld)
    (one other : SeenNode) → Shows j w v →
    Applies j (event.Recover id c) (Ok (answer.Merged a)) v x →
    Applies j (event.Recover id d) (Ok (answer.Merged b)) x y →
    Applies j (event.Recover id d) (Ok (answer.Merged e)) v s →
    Applies j (event.Recover id c) (Ok (answer.Merged f)) s t →
    seen_at y id ≡ Some one → seen_at t id ≡ Some other →
    one.replica ≡ other.replica
