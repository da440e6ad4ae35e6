-- Whole runs of a world.
use Rattle.std.proofs.Common.{◌≡◌, ◌≢◌, ℕ, ◌/◌, ◌%◌, ◌<◌, ◌≤◌, Bool, true, false, ◌&&◌, List, [], ◌∷◌, get_or, refl, ap, sym, ◌∙◌, subst}
use Rattle.std.specs.Prelude.{Option, None, Some, IfSome, Result, Ok, Err, OnErr, option_map, unwrap_or}
use Rattle.std.specs.List.{AllByRecursion, slice_get}
use Rattle.std.proofs.lemmas.Option.{slice_get-map}
use Rattle.std.specs.Cmp.{both_ways}
use Rattle.std.proofs.lemmas.Bool.{and_parts, and_from}
use Rattle.ball_model.specs.declared.names.NodeId.{NodeId}
use Rattle.ball_model.specs.declared.world.Event.{Event}
use Rattle.ball_model.specs.declared.world.Event.TheVariants as event
use Rattle.ball_model.specs.declared.world.Answer.{Answer}
use Rattle.ball_model.specs.declared.world.WorldError.{WorldError}
use Rattle.ball_model.specs.declared.world.WorldError.TheVariants as refusal
use Rattle.ball_model.specs.Batches.{true_batch}
use Rattle.ball_model.specs.Graph.{in_ball, is_counted}
use Rattle.ball_model.specs.Counter.{ball_counter, counter_of}
use Rattle.ball_model.specs.PlanValue.{mixing_of, part_size}
use Rattle.ball_model.specs.Job.{Job}
use Rattle.ball_model.specs.Join.{Holding, content_in}
use Rattle.ball_model.specs.State.{State, StandsFor}
use Rattle.ball_model.specs.World.{World, Node, start_world, node_at, answer_of, answers_of, after_event, run_of}
use Rattle.ball_model.specs.WorldLaws.{IsWorldNode, SparesKept}
use Rattle.ball_model.proofs.WorldLemmas.{restart_gives_kept}
use Rattle.ball_model.proofs.PathLemmas.{in_ball-found, in_ball-finds}
use Rattle.ball_model.proofs.CounterLemmas.{counter_of-same}
use Rattle.replica.proofs.IndexLemmas.Own.{vertex_of, place_below, vertex_at}
use Rattle.replica.proofs.LevelLemmas.Level.{row_at}
use Rattle.replica.proofs.RunsLemmas.Same.{same_replica}
use Rattle.world.specs.Shows.{SeenMessage, SeenNode, SeenWorld, message_of, seen_at, Agree, Has, ShowsNode, Shows}
use Rattle.world.specs.Runs.{EventsMade, is_want, done_in, answered_in, RunShows, RunAnswers, AreCountedWithin, Headline, SameContentsAreSame, MessagesAreTrue, KeptComesBack}
use Rattle.world.proofs.BridgeLemmas.{content_here}

is_want-is : (r : Result Answer WorldError) → is_want r ≡ true → r ≡ Err refusal.Memory
is_want-is (Ok a) e = absurd (cc)
is_want-is (Err refusal.Memory) e = refl
is_want-is (Err refusal.NoNode) e = absurd (cc)
is_want-is (Err refusal.NoTarget) e = absurd (cc)
is_want-is (Err refusal.NoMessage) e = absurd (cc)
is_want-is (Err refusal.NoCopy) e = absurd (cc)

-- what memory was not refused for
pub not_want : (r : Result Answer WorldError) → is_want r ≡ false → r ≢ Err refusal.Memory
not_want r e is = absurd (let no : true ≡ false = sym (ap is_want is) ∙ e in cc)

pub run_both : (j : Job) (w : World) (es : List Event) (rs : List (Result Answer WorldError)) (v u : SeenWorld) → Shows j w v → EventsMade j v es rs u →
    Shows j (run_of j w (done_in es rs)) u × (answered_in rs ≡ answers_of j w (done_in es rs))
unfolding EventsMade done_in answered_in run_of answers_of
run_both j w [] [] v u shows m = (subst (Shows j w) (sym m) shows, refl)
run_both j w (e ∷ es) (r ∷ rs) v u shows m = by (λ x s. run_both j x es rs m.0 u s m.2) (is_want r) refl
  where
    by : ((x : World) → Shows j x m.0 → Shows j (run_of j x (done_in es rs)) u × (answered_in rs ≡ answers_of j x (done_in es rs))) → (b : Bool) → is_want r ≡ b →
        Shows j (run_of j w (done_in (e ∷ es) (r ∷ rs))) u × (answered_in (r ∷ rs) ≡ answers_of j w (done_in (e ∷ es) (r ∷ rs)))
    by later true want =
        let same : m.0 ≡ v = subst (λ (a : Result Answer WorldError). OnErr a (m.0 ≡ v)) (is_want-is r want) m.1.refused in
        rw want (later w (subst (Shows j w) (sym same) shows))
    by later false want =
        let rest = later (after_event j w e) (m.1.shows w shows (not_want r want)) in
        let here : r ≡ answer_of j w e = m.1.answer w shows (not_want r want) in
        rw want (rest.0, λ i. here i ∷ rest.1 i)
run_both j w es rs v u shows m = absurd m

pub run_shows : RunShows
run_shows j w es rs v u shows m = (run_both j w es rs v u shows m).0

pub run_answers : RunAnswers
run_answers j w es rs v u shows m = (run_both j w es rs v u shows m).1

-- ---- nodes
-- a node that is seen stands for the content of the node that it shows, which is one of its partition
record IsShown (j : Job) (id : NodeId) (s : SeenNode) : Type 0 where
  node : Node
  shows : ShowsNode j node s
  fits : IsWorldNode j id.part node

shown_by : (j : Job) (id : NodeId) (s : SeenNode) (o : Option Node) (p : Option SeenNode) → p ≡ Some s → Agree (ShowsNode j) o p → IfSome o (IsWorldNode j id.part) → IsShown j id s
shown_by j id s (Some n) p at agree fits = record { node = n; shows = subst (λ (q : Option SeenNode). Agree (ShowsNode j) (Some n) q) at agree; fits = fits }
shown_by j id s None p at agree fits = absurd (subst (λ (q : Option SeenNode). Agree (ShowsNode j) None q) at agree)

shown_at : (j : Job) (w : World) (v : SeenWorld) (id : NodeId) (s : SeenNode) → Shows j w v → seen_at v id ≡ Some s → IsShown j id s
shown_at j w v id s shows at = shown_by j id s (node_at w id) (seen_at v id) at (shows.nodes id) (shows.world.nodes id)

-- the row of a vertex is the counter of the counted members of its ball
row_is : (j : Job) (p t x : ℕ) (v : State) → StandsFor j p t v → x < j.graph.vertices → x % j.plan.parts ≡ p → get_or v.rows (x / j.plan.parts) [] ≡ ball_counter (mixing_of j.plan) j.graph x t
row_is j p t x v h lt own =
    let some : 1 ≤ j.plan.parts = h.job.plan.parts_from in
    let place : x / j.plan.parts < part_size j.graph.vertices j.plan.parts p = rw (← own) (place_below j.graph.vertices j.plan.parts x some lt) in
    let vertex : vertex_of j.plan.parts p (x / j.plan.parts) ≡ x = rw (← own) (vertex_at j.plan.parts x some) in
    ap (λ (l : List (List ℕ)). get_or l (x / j.plan.parts) []) h.rows
    ∙ row_at j p t (x / j.plan.parts) [] h.partition place
    ∙ ap (λ y. ball_counter (mixing_of j.plan) j.graph y t) vertex

-- and that is the counter of exactly the counted vertices with a path
counter_is : (j : Job) (p t x : ℕ) (v : State) (member : ℕ → Bool) → StandsFor j p t v → x < j.graph.vertices → AreCountedWithin j x t member → ball_counter (mixing_of j.plan) j.graph x t ≡ counter_of (mixing_of j.plan) j.graph.vertices member
unfolding ball_counter
counter_is j p t x v member h lt exact =
    counter_of-same (mixing_of j.plan) j.graph.vertices (λ y. in_ball j.graph x t y && is_counted j.graph y) member
    (λ y below. both_ways (in_ball j.graph x t y && is_counted j.graph y) (member y)
    (λ e. let both = and_parts (in_ball j.graph x t y) (is_counted j.graph y) e in
    let found = in_ball-finds j.graph x t y both.0 in
    (exact y below).1 (both.1, (found.0, found.2, found.1)))
    (λ e. let is = (exact y below).0 e in
    and_from (in_ball j.graph x t y) (is_counted j.graph y) (in_ball-found j.graph x t y is.1.0 h.job.graph lt is.1.1 is.1.2) is.0))

pub headline : Headline
headline j replicas es rs v u id n x member shows m at lt own exact =
    let here = shown_at j (run_of j (start_world j.plan replicas) (done_in es rs)) u id n (run_shows j (start_world j.plan replicas) es rs v u shows m) at in
    let h = here.node.content in
    let has = here.shows.content in
    let stands : StandsFor j id.part h.superstep n.replica = subst (λ (p : ℕ). StandsFor j p h.superstep n.replica) here.fits.content.partition has.holding.stands in
    let time : n.replica.superstep ≡ h.superstep = stands.superstep in
    row_is j id.part h.superstep x n.replica stands lt own
    ∙ counter_is j id.part h.superstep x n.replica member stands lt (subst (λ (t : ℕ). AreCountedWithin j x t member) time exact)

pub same_contents : SameContentsAreSame
same_contents j w v a b n m shows first second same =
    let left = (shown_at j w v a n shows first).shows.content in
    let right = (shown_at j w v b m shows second).shows.content in
    let h = (shown_at j w v a n shows first).node.content in
    let d = (shown_at j w v b m shows second).node.content in
    let one : d ≡ h = sym right.holding.content ∙ sym same ∙ left.holding.content in
    same_replica j h.partition (content_in h) n.replica m.replica (content_here j h n.replica left)
    (content_here j h m.replica (subst (λ (x : Holding). Has j x m.replica) one right)) left.state right.state

-- ---- messages
pub messages_true : MessagesAreTrue
messages_true j replicas m es rs v u shows made =
    let w = run_of j (start_world j.plan replicas) (done_in es rs) in
    ap (λ (l : List SeenMessage). slice_get l m) (run_shows j (start_world j.plan replicas) es rs v u shows made).messages
    ∙ slice_get-map (λ name. message_of (true_batch j name)) w.sent m

-- ---- what is kept
-- the events that were done are among the events
done_spares : (id : NodeId) (es : List Event) (rs : List (Result Answer WorldError)) → AllByRecursion (SparesKept id) es → AllByRecursion (SparesKept id) (done_in es rs)
unfolding done_in
done_spares id [] rs h = tt
done_spares id (e ∷ es) [] h = tt
done_spares id (e ∷ es) (r ∷ rs) h = by (done_spares id es rs h.1) (is_want r) refl
  where
    by : AllByRecursion (SparesKept id) (done_in es rs) → (b : Bool) → is_want r ≡ b → AllByRecursion (SparesKept id) (done_in (e ∷ es) (r ∷ rs))
    by rest true want = rw want rest
    by rest false want = rw want (h.0, rest)

-- two that have one content are one
pub has_one : (j : Job) (h d : Holding) (a b : State) → h ≡ d → Has j h a → Has j d b → a ≡ b
has_one j h d a b same left right =
    same_replica j h.partition (content_in h) a b (content_here j h a left) (content_here j h b (subst (λ (x : Holding). Has j x b) (sym same) right)) left.state right.state

-- a node that is seen, and the node that it shows
pub record IsNodeAt (j : Job) (o : Option Node) (s : SeenNode) : Type 0 where
  pub node : Node
  pub is : o ≡ Some node
  pub shows : ShowsNode j node s

pub node_by : (j : Job) (o : Option Node) (p : Option SeenNode) (s : SeenNode) → p ≡ Some s → Agree (ShowsNode j) o p → IsNodeAt j o s
node_by j (Some n) p s at agree = record { node = n; is = refl; shows = subst (λ (q : Option SeenNode). Agree (ShowsNode j) (Some n) q) at agree }
node_by j None p s at agree = absurd (subst (λ (q : Option SeenNode). Agree (ShowsNode j) None q) at agree)

pub kept_back : KeptComesBack
kept_back j w id kept restarted es rs v x y u before after shows at keep made spares restart there =
    let first = after_event j w (event.Keep id) in
    let done = done_in es rs in
    let later = run_of j first done in
    let last = after_event j later (event.Restart id) in
    let shows_x : Shows j first x = keep.shows w shows (λ k. absurd (cc)) in
    let shows_y : Shows j later y = run_shows j first es rs x y shows_x made in
    let shows_u : Shows j last u = restart.shows later shows_y (λ k. absurd (cc)) in
    let n = node_by j (node_at w id) (seen_at v id) before at (shows.nodes id) in
    let m = node_by j (node_at last id) (seen_at u id) after there (shows_u.nodes id) in
    let back = restart_gives_kept j w id n.node done n.is (done_spares id es rs spares) in
    let same : m.node.content ≡ n.node.content = ap (λ (o : Option Holding). unwrap_or o n.node.content) (sym (ap (option_map (λ (k : Node). k.content)) m.is) ∙ back) in
    has_one j m.node.content n.node.content after.replica before.replica same m.shows.content n.shows.content
