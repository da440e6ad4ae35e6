-- From what happens at a node to what happens in its world.
use Rattle.std.proofs.Common.{◌≡◌, ◌≢◌, ℕ, ◌+◌, ◌<◌, true, false, not, ◌==◌, ◌&&◌, nat_lt, List, [], ◌∷◌, ◌++◌, length, zero, suc, refl, ap, sym, ◌∙◌, subst, arith}
use Rattle.std.specs.Prelude.{Option, None, Some, IfSome, Result, Ok, Err, IsOk, option_map, unwrap_or}
use Rattle.std.specs.List.{slice_get}
use Rattle.std.proofs.lemmas.Bool.{and_from, lt-ltb, ne_eqb}
use Rattle.std.proofs.lemmas.List.{length-append, length-map, map-append}
use Rattle.std.proofs.lemmas.Option.{slice_get-map}
use Rattle.ball_model.specs.declared.names.BatchName.{BatchName}
use Rattle.ball_model.specs.declared.names.MergeError.{MergeError}
use Rattle.ball_model.specs.declared.names.NodeId.{NodeId}
use Rattle.ball_model.specs.declared.world.Event.{Event}
use Rattle.ball_model.specs.declared.world.Event.TheVariants as event
use Rattle.ball_model.specs.declared.world.Answer.{Answer}
use Rattle.ball_model.specs.declared.world.Answer.TheVariants as answer
use Rattle.ball_model.specs.declared.world.WorldError.{WorldError}
use Rattle.ball_model.specs.declared.world.WorldError.TheVariants as refusal
use Rattle.ball_model.specs.Batches.{BatchValue, IsBatch, true_batch, batch_bytes}
use Rattle.ball_model.specs.Job.{Job, IsJob}
use Rattle.ball_model.specs.PlanValue.{PlanValue}
use Rattle.ball_model.specs.Join.{Holding, merge_of}
use Rattle.ball_model.specs.State.{State, StandsFor}
use Rattle.ball_model.specs.Held.{IsName}
use Rattle.ball_model.specs.World.{Node, World, node_at, node_of, with_node, outcome_of, outcome_unless, outcome_at, deliver_at, recover_at, recover_when, name_to, sent_answer, answer_in, world_in}
use Rattle.ball_model.specs.WorldLaws.{IsWorldNode, IsWorld}
use Rattle.ball_model.proofs.WorldLemmas.{node_same, node_is_one, node_back, stays_world}
use Rattle.batches.specs.declared.error.BatchError.{BatchError}
use Rattle.batches.specs.declared.error.BatchError.TheVariants as unread
use Rattle.batches.specs.Reading.{AgreesButJob, GivesBatchOrMemory}
use Rattle.batches.proofs.TrueLemmas.{true_is_batch}
use Rattle.replica.specs.Change.{IsTrueBatch}
use Rattle.replica.proofs.LevelLemmas.Level.{plan_is, number_is}
use Rattle.world.specs.Shows.{IsMessage, SeenMessage, SeenNode, SeenWorld, message_of, seen_at, Agree, Has, ShowsNode, Shows}
use Rattle.world.specs.Runs.{Applies, takes_memory}
use Rattle.world.specs.Turns.{NodeTurn, Turns, taken_turn, closed_turn, kept_turn, restarted_turn, merged_turn, merged_when}
use Rattle.world.proofs.ShowsLemmas.{with_seen, shows_changed}

-- a job, for what is said of every job and depends on none
pub some_job : Job
some_job = record {
  graph = record { vertices = 0; edges = []; counted = [] };
  plan = record { log2m = 4; seed = 0; parts = 1; limit = 1; vertices = 0; corrected = false; job = [] };
}

-- ---- pairs that agree
pub agree_none : {A B : Type 0} (R : A → B → Type 0) (o : Option A) (p : Option B) → Agree R o p → p ≡ None → o ≡ None
agree_none R None p h e = refl
agree_none R (Some a) p h e = absurd (subst (Agree R (Some a)) e h)

record Agreed {A B : Type 0} (R : A → B → Type 0) (o : Option A) (b : B) : Type 0 where
  one : A
  is : o ≡ Some one
  agrees : R one b

agree_some : {A B : Type 0} (R : A → B → Type 0) (o : Option A) (p : Option B) (b : B) → Agree R o p → p ≡ Some b → Agreed R o b
agree_some R None p b h e = absurd (subst (Agree R None) e h)
agree_some R (Some a) p b h e = record { one = a; is = refl; agrees = subst (Agree R (Some a)) e h }

-- the node that is shown
node_here : (j : Job) (w : World) (v : SeenWorld) (id : NodeId) (s : SeenNode) → Shows j w v → seen_at v id ≡ Some s → Agreed (ShowsNode j) (node_at w id) s
node_here j w v id s shows at = agree_some (ShowsNode j) (node_at w id) (seen_at v id) s (shows.nodes id) at

found : (j : Job) (w : World) (n : Node) (e : Event) → node_at w (node_of e) ≡ Some n → outcome_of j w e ≡ outcome_at j w n e
found j w n e at = ap (outcome_unless j w e) at

-- ---- messages
record Sent (j : Job) (w : World) (m : ℕ) (message : SeenMessage) : Type 0 where
  name : BatchName
  at : slice_get w.sent m ≡ Some name
  fits : IsName j.plan name
  spells : message ≡ message_of (true_batch j name)

sent_by : (j : Job) (message : SeenMessage) (o : Option BatchName) (w : World) (m : ℕ) → slice_get w.sent m ≡ o → IfSome o (IsName j.plan) → option_map (λ name. message_of (true_batch j name)) o ≡ Some message → Sent j w m message
sent_by j message None w m at fits e = absurd (cc)
sent_by j message (Some name) w m at fits e = record { name = name; at = at; fits = fits; spells = ap (λ o. unwrap_or o message) (sym e) }

-- the message of that number was sent
sent_at : (j : Job) (w : World) (v : SeenWorld) (m : ℕ) (message : SeenMessage) → Shows j w v → slice_get v.messages m ≡ Some message → Sent j w m message
sent_at j w v m message shows at =
    sent_by j message (slice_get w.sent m) w m refl (shows.world.sent m)
    (sym (slice_get-map (λ name. message_of (true_batch j name)) w.sent m) ∙ ap (λ (l : List SeenMessage). slice_get l m) (sym shows.messages) ∙ at)

-- ---- events that are refused
error_in : Result Answer WorldError → WorldError
error_in (Ok a) = refusal.Memory
error_in (Err e) = e

pub refused_applies : (j : Job) (e : Event) (x : WorldError) (old u v : SeenWorld) → x ≢ refusal.Memory → v ≡ old → u ≡ v → ((w : World) → Shows j w v → outcome_of j w e ≡ Err x) → Applies j e (Err x) old u
unfolding error_in
refused_applies j e x old u v other here same is = subst (λ (a : SeenWorld). Applies j e (Err x) a u) here (subst (λ (b : SeenWorld). Applies j e (Err x) v b) (sym same) (record {
  refused = refl;
  answer = λ w shows some. sym (ap answer_in (is w shows));
  shows = λ w shows some. subst (λ (o : World). Shows j o v) (sym (ap (world_in w) (is w shows))) shows;
  takes = λ r. absurd (other (ap (λ (o : Result Answer WorldError). error_in o) r));
  memory = λ w shows r. absurd (other (ap (λ (o : Result Answer WorldError). error_in o) r));
}))

-- memory was refused, and nothing is changed
pub want_applies : (j : Job) (e : Event) (old u v : SeenWorld) (s : SeenNode) → v ≡ old → u ≡ v → seen_at v (node_of e) ≡ Some s → takes_memory e ≡ true →
    ((w : World) (n : Node) → Shows j w v → node_at w (node_of e) ≡ Some n → ShowsNode j n s → IsOk (answer_in (outcome_at j w n e))) → Applies j e (Err refusal.Memory) old u
want_applies j e old u v s here same at takes done = record {
  refused = same ∙ here;
  answer = λ w shows some. absurd (some refl);
  shows = λ w shows some. absurd (some refl);
  takes = λ r. takes;
  memory = λ w shows r.
      let ok = subst (λ (x : SeenWorld). Shows j w x) (sym here) shows in
      let n = node_here j w v (node_of e) s ok at in
      subst (λ (o : Result (Answer × World) WorldError). IsOk (answer_in o)) (sym (found j w n.one e n.is)) (done w n.one ok n.is n.agrees);
}

-- a copy that is there is merged or is not
recovers : (w : World) (id : NodeId) (n : Node) (c : Holding) (r : Result (Unit {0}) MergeError) → IsOk (answer_in (recover_when w id n c r))
recovers w id n c (Ok u) = refl
recovers w id n c (Err e) = refl

-- memory was refused for the batch of a message that was sent
pub want_deliver : (j : Job) (id : NodeId) (m : ℕ) (message : SeenMessage) (old u v : SeenWorld) (s : SeenNode) → v ≡ old → u ≡ v → seen_at v id ≡ Some s → slice_get v.messages m ≡ Some message → Applies j (event.Deliver m id) (Err refusal.Memory) old u
want_deliver j id m message old u v s here same at sent =
    want_applies j (event.Deliver m id) old u v s here same at refl (λ w n shows is agrees.
    let k = sent_at j w v m message shows sent in
    subst (λ (o : Option BatchName). IsOk (answer_in (deliver_at j w id n o))) (sym k.at) refl)

-- and for a copy that was made
pub want_recover : (j : Job) (id : NodeId) (k : ℕ) (d : State) (old u v : SeenWorld) (s : SeenNode) → v ≡ old → u ≡ v → seen_at v id ≡ Some s → slice_get v.copies k ≡ Some d → Applies j (event.Recover id k) (Err refusal.Memory) old u
want_recover j id k d old u v s here same at made =
    want_applies j (event.Recover id k) old u v s here same at refl (λ w n shows is agrees.
    let copy = agree_some (Has j) (slice_get w.copies k) (slice_get v.copies k) d (shows.copies k) made in
    let c = copy.one in
    subst (λ (o : Option Holding). IsOk (answer_in (recover_at w id n o))) (sym copy.is) (recovers w id n c (merge_of n.content.plan n.content.partition c.plan c.partition)))

-- there is no such node
pub no_node : (j : Job) (e : Event) (old u v : SeenWorld) → v ≡ old → u ≡ v → seen_at v (node_of e) ≡ None → Applies j e (Err refusal.NoNode) old u
no_node j e old u v here same at =
    refused_applies j e refusal.NoNode old u v (λ k. absurd (cc)) here same (λ w shows. ap (outcome_unless j w e) (agree_none (ShowsNode j) (node_at w (node_of e)) (seen_at v (node_of e)) (shows.nodes (node_of e)) at))

map_none : {A B : Type 0} (f : A → B) (o : Option A) → option_map f o ≡ None → o ≡ None
map_none f None e = refl
map_none f (Some a) e = absurd (cc)

-- there is no such message
pub no_message : (j : Job) (id : NodeId) (m : ℕ) (old u v : SeenWorld) (s : SeenNode) → v ≡ old → u ≡ v → seen_at v id ≡ Some s → slice_get v.messages m ≡ None → Applies j (event.Deliver m id) (Err refusal.NoMessage) old u
no_message j id m old u v s here same at none =
    refused_applies j (event.Deliver m id) refusal.NoMessage old u v (λ k. absurd (cc)) here same (λ w shows.
    let n = node_here j w v id s shows at in
    let gone : slice_get w.sent m ≡ None = map_none (λ name. message_of (true_batch j name)) (slice_get w.sent m) (sym (slice_get-map (λ name. message_of (true_batch j name)) w.sent m) ∙ ap (λ (l : List SeenMessage). slice_get l m) (sym shows.messages) ∙ none) in
    found j w n.one (event.Deliver m id) n.is ∙ ap (deliver_at j w id n.one) gone)

-- there is no such copy
pub no_copy : (j : Job) (id : NodeId) (c : ℕ) (old u v : SeenWorld) (s : SeenNode) → v ≡ old → u ≡ v → seen_at v id ≡ Some s → slice_get v.copies c ≡ None → Applies j (event.Recover id c) (Err refusal.NoCopy) old u
no_copy j id c old u v s here same at none =
    refused_applies j (event.Recover id c) refusal.NoCopy old u v (λ k. absurd (cc)) here same (λ w shows.
    let n = node_here j w v id s shows at in
    let gone : slice_get w.copies c ≡ None = agree_none (Has j) (slice_get w.copies c) (slice_get v.copies c) (shows.copies c) none in
    found j w n.one (event.Recover id c) n.is ∙ ap (recover_at w id n.one) gone)

-- ---- events that change their node
-- how the node of an event turns, and that this is what the event comes to
pub record TurnOf (j : Job) (e : Event) (w : World) (a : Answer) (s t : SeenNode) : Type 0 where
  pub turn : Node → NodeTurn
  pub turns : Turns j turn a s t
  pub outcome : (n : Node) → node_at w (node_of e) ≡ Some n → outcome_of j w e ≡ Ok ((turn n).answer, with_node w (node_of e) (turn n).node)

turned_shows : (j : Job) (e : Event) (a : Answer) (w : World) (v : SeenWorld) (s t : SeenNode) → seen_at v (node_of e) ≡ Some s → Shows j w v → TurnOf j e w a s t →
    (Ok a ≡ answer_in (outcome_of j w e)) × Shows j (world_in w (outcome_of j w e)) (with_seen v (node_of e) t)
turned_shows j e a w v s t at shows o =
    let id = node_of e in
    let n = node_here j w v id s shows at in
    let m : Node = (o.turn n.one).node in
    let is = o.outcome n.one n.is in
    let both = o.turns.turned id.part n.one (node_is_one j w id n.one shows.world n.is) n.agrees in
    let after : world_in w (outcome_of j w e) ≡ with_node w id m = ap (world_in w) is in
    let next : IsWorld j (with_node w id m) = subst (λ (x : World). IsWorld j x) after (stays_world j w e shows.world) in
    let fits : IsWorldNode j id.part m = node_is_one j (with_node w id m) id m next (node_same w id n.one m n.is) in (
      ap Ok both.0 ∙ sym (ap answer_in is),
      subst (λ (x : World). Shows j x (with_seen v id t)) (sym after) (shows_changed j w v id n.one m s t shows n.is at fits both.1),
    )

pub turn_applies : (j : Job) (e : Event) (a : Answer) (old u v : SeenWorld) (s t : SeenNode) → v ≡ old → u ≡ with_seen v (node_of e) t → seen_at v (node_of e) ≡ Some s → ((w : World) → Shows j w v → TurnOf j e w a s t) → Applies j e (Ok a) old u
turn_applies j e a old u v s t here same at of = subst (λ (x : SeenWorld). Applies j e (Ok a) x u) here (subst (λ (b : SeenWorld). Applies j e (Ok a) v b) (sym same) (record {
  refused = tt;
  answer = λ w shows some. (turned_shows j e a w v s t at shows (of w shows)).0;
  shows = λ w shows some. (turned_shows j e a w v s t at shows (of w shows)).1;
  takes = λ r. absurd (cc);
  memory = λ w shows r. absurd (cc);
}))

pub keep_of_world : (j : Job) (id : NodeId) (w : World) (a : Answer) (s t : SeenNode) → Turns j kept_turn a s t → TurnOf j (event.Keep id) w a s t
keep_of_world j id w a s t turns = record { turn = kept_turn; turns = turns; outcome = λ n at. found j w n (event.Keep id) at }

pub restart_of_world : (j : Job) (id : NodeId) (w : World) (a : Answer) (s t : SeenNode) → Turns j (restarted_turn j) a s t → TurnOf j (event.Restart id) w a s t
restart_of_world j id w a s t turns = record { turn = restarted_turn j; turns = turns; outcome = λ n at. found j w n (event.Restart id) at }

pub close_of_world : (j : Job) (id : NodeId) (w : World) (a : Answer) (s t : SeenNode) → Turns j (closed_turn j) a s t → TurnOf j (event.Close id) w a s t
close_of_world j id w a s t turns = record { turn = closed_turn j; turns = turns; outcome = λ n at. found j w n (event.Close id) at }

pub deliver_of_world : (j : Job) (id : NodeId) (m : ℕ) (w : World) (v : SeenWorld) (message : SeenMessage) (a : Answer) (s t : SeenNode) → Shows j w v → slice_get v.messages m ≡ Some message →
    ((name : BatchName) → IsName j.plan name → message ≡ message_of (true_batch j name) → Turns j (taken_turn j name) a s t) → TurnOf j (event.Deliver m id) w a s t
deliver_of_world j id m w v message a s t shows at turns =
    let k = sent_at j w v m message shows at in
    record {
      turn = taken_turn j k.name;
      turns = turns k.name k.fits k.spells;
      outcome = λ n here. found j w n (event.Deliver m id) here ∙ ap (deliver_at j w id n) k.at;
    }

recovered : (j : Job) (w : World) (id : NodeId) (n : Node) (c : Holding) (r : Result (Unit {0}) MergeError) → node_at w id ≡ Some n → recover_when w id n c r ≡ Ok ((merged_when c n r).answer, with_node w id (merged_when c n r).node)
recovered j w id n c (Ok x) at = refl
recovered j w id n c (Err e) at = ap (λ (u : World). Ok (answer.NotMerged e, u)) (sym (node_back w id n at))

pub recover_of_world : (j : Job) (id : NodeId) (k : ℕ) (w : World) (v : SeenWorld) (d : State) (a : Answer) (s t : SeenNode) → Shows j w v → slice_get v.copies k ≡ Some d →
    ((c : Holding) → Has j c d → Turns j (merged_turn c) a s t) → TurnOf j (event.Recover id k) w a s t
recover_of_world j id k w v d a s t shows at turns =
    let copy = agree_some (Has j) (slice_get w.copies k) (slice_get v.copies k) d (shows.copies k) at in
    let c = copy.one in
    record {
      turn = merged_turn c;
      turns = turns c copy.agrees;
      outcome = λ n here. found j w n (event.Recover id k) here ∙ ap (recover_at w id n) copy.is ∙ recovered j w id n c (merge_of n.content.plan n.content.partition c.plan c.partition) here;
    }

-- ---- one message more, one copy more
-- an event that changes no node: its outcome, and that both worlds have more
pub gained_applies : (j : Job) (e : Event) (a : Answer) (old u v : SeenWorld) → v ≡ old → ((w : World) → Shows j w v → (x : World) × (outcome_of j w e ≡ Ok (a, x)) × Shows j x u) → Applies j e (Ok a) old u
gained_applies j e a old u v here of = subst (λ (b : SeenWorld). Applies j e (Ok a) b u) here (record {
  refused = tt;
  answer = λ w shows some. sym (ap answer_in (of w shows).1);
  shows = λ w shows some. subst (λ (x : World). Shows j x u) (sym (ap (world_in w) (of w shows).1)) (of w shows).2;
  takes = λ r. absurd (cc);
  memory = λ w shows r. absurd (cc);
})

more_agree : {A B : Type 0} (R : A → B → Type 0) (xs : List A) (ys : List B) (x : A) (y : B) → length ys ≡ length xs → ((c : ℕ) → Agree R (slice_get xs c) (slice_get ys c)) → R x y → (c : ℕ) → Agree R (slice_get (xs ++ x ∷ []) c) (slice_get (ys ++ y ∷ []) c)
more_agree R [] [] x y long h r zero = r
more_agree R [] [] x y long h r (suc c) = tt
more_agree R [] (b ∷ ys) x y long h r c = absurd (omega (arith, long))
more_agree R (a ∷ xs) [] x y long h r c = absurd (omega (arith, long))
more_agree R (a ∷ xs) (b ∷ ys) x y long h r zero = h 0
more_agree R (a ∷ xs) (b ∷ ys) x y long h r (suc c) = more_agree R xs ys x y (omega (arith, long)) (λ k. h (suc k)) r c

-- the message is sent where the target is another partition
sends : (j : Job) (w : World) (n : Node) (id : NodeId) (q : ℕ) → node_at w id ≡ Some n → (nat_lt q j.plan.parts && not (q == n.content.partition)) ≡ true →
    outcome_of j w (event.Send id q) ≡ Ok (sent_answer (length w.sent) (true_batch j (name_to n q)), record w { sent = w.sent ++ name_to n q ∷ [] })
sends j w n id q at fits = found j w n (event.Send id q) at ∙ rw fits refl

sent_shows : (j : Job) (w : World) (v : SeenWorld) (n : Node) (id : NodeId) (q : ℕ) → Shows j w v → node_at w id ≡ Some n → (nat_lt q j.plan.parts && not (q == n.content.partition)) ≡ true →
    Shows j (record w { sent = w.sent ++ name_to n q ∷ [] }) (record v { messages = v.messages ++ message_of (true_batch j (name_to n q)) ∷ [] })
unfolding node_at
sent_shows j w v n id q shows at fits = record {
  job = shows.job;
  plan = shows.plan;
  world = subst (λ (x : World). IsWorld j x) (ap (world_in w) (sends j w n id q at fits)) (stays_world j w (event.Send id q) shows.world);
  nodes = shows.nodes;
  messages = ap (λ (l : List SeenMessage). l ++ message_of (true_batch j (name_to n q)) ∷ []) shows.messages ∙ sym (map-append (λ name. message_of (true_batch j name)) w.sent (name_to n q ∷ []));
  copies = shows.copies;
  count = shows.count;
}

-- the batch that the replica of a node has
pub record Tells (j : Job) (r : State) (q : ℕ) (b : BatchValue) : Type 0 where
  pub told : (p t : ℕ) → StandsFor j p t r → b ≡ true_batch j (record { superstep = t; source = p; target = q })

pub send_applies : (j : Job) (id : NodeId) (q : ℕ) (a : Answer) (b : BatchValue) (old u v : SeenWorld) (s : SeenNode) → v ≡ old → seen_at v id ≡ Some s → q < s.replica.part.plan.parts → q ≢ s.replica.part.number → Tells j s.replica q b →
    a ≡ sent_answer (length v.messages) b → u ≡ record v { messages = v.messages ++ message_of b ∷ [] } → Applies j (event.Send id q) (Ok a) old u
send_applies j id q a b old u v s here at below other tells said new =
    gained_applies j (event.Send id q) a old u v here (λ w shows.
    let n = node_here j w v id s shows at in
    let h = n.one.content in
    let stands = n.agrees.content.holding.stands in
    let plan = plan_is j h.partition h.superstep s.replica stands in
    let number : s.replica.part.number ≡ h.partition = number_is j h.partition h.superstep s.replica stands in
    let inside : nat_lt q j.plan.parts ≡ true = lt-ltb q j.plan.parts (subst (λ (plan : PlanValue). q < plan.parts) plan below) in
    let apart : not (q == h.partition) ≡ true = ap not (ne_eqb q h.partition (λ e. other (e ∙ sym number))) in
    let fits : (nat_lt q j.plan.parts && not (q == h.partition)) ≡ true = and_from (nat_lt q j.plan.parts) (not (q == h.partition)) inside apart in
    let batch : b ≡ true_batch j (name_to n.one q) = tells.told h.partition h.superstep stands in
    let many : length v.messages ≡ length w.sent = ap length shows.messages ∙ length-map w.sent (λ name. message_of (true_batch j name)) in
    let answered : a ≡ sent_answer (length w.sent) (true_batch j (name_to n.one q)) = said ∙ ap (λ m. sent_answer m b) many ∙ ap (sent_answer (length w.sent)) batch in (
      record w { sent = w.sent ++ name_to n.one q ∷ [] },
      sends j w n.one id q n.is fits ∙ ap (λ (x : Answer). Ok (x, record w { sent = w.sent ++ name_to n.one q ∷ [] })) (sym answered),
      subst (λ (x : SeenWorld). Shows j (record w { sent = w.sent ++ name_to n.one q ∷ [] }) x) (ap (λ (c : BatchValue). record v { messages = v.messages ++ message_of c ∷ [] }) (sym batch) ∙ sym new) (sent_shows j w v n.one id q shows n.is fits),
    ))

copied_shows : (j : Job) (w : World) (v : SeenWorld) (n : Node) (id : NodeId) (d : State) → Shows j w v → node_at w id ≡ Some n → Has j n.content d →
    Shows j (record w { copies = w.copies ++ n.content ∷ [] }) (record v { copies = v.copies ++ d ∷ [] })
unfolding node_at
copied_shows j w v n id d shows at has = record {
  job = shows.job;
  plan = shows.plan;
  world = subst (λ (x : World). IsWorld j x) (ap (world_in w) (found j w n (event.Copy id) at)) (stays_world j w (event.Copy id) shows.world);
  nodes = shows.nodes;
  messages = shows.messages;
  copies = more_agree (Has j) w.copies v.copies n.content d shows.count shows.copies has;
  count = length-append v.copies (d ∷ []) ∙ ap (λ m. m + 1) shows.count ∙ sym (length-append w.copies (n.content ∷ []));
}

pub copy_applies : (j : Job) (id : NodeId) (a : Answer) (old u v : SeenWorld) (s : SeenNode) → v ≡ old → seen_at v id ≡ Some s → a ≡ answer.Copied (length v.copies) s.replica.superstep → u ≡ record v { copies = v.copies ++ s.replica ∷ [] } → Applies j (event.Copy id) (Ok a) old u
copy_applies j id a old u v s here at said new =
    gained_applies j (event.Copy id) a old u v here (λ w shows.
    let n = node_here j w v id s shows at in
    let answered : a ≡ answer.Copied (length w.copies) n.one.content.superstep = said ∙ ap (λ m. answer.Copied m s.replica.superstep) shows.count ∙ ap (answer.Copied (length w.copies)) n.agrees.content.holding.stands.superstep in (
      record w { copies = w.copies ++ n.one.content ∷ [] },
      found j w n.one (event.Copy id) n.is ∙ ap (λ (x : Answer). Ok (x, record w { copies = w.copies ++ n.one.content ∷ [] })) (sym answered),
      subst (λ (x : SeenWorld). Shows j (record w { copies = w.copies ++ n.one.content ∷ [] }) x) (sym new) (copied_shows j w v n.one id s.replica shows n.is n.agrees.content),
    ))

-- ---- what is found
-- a batch that was read from a message of that name
pub deliver_turns : (j : Job) (b : BatchValue) (name : BatchName) (a : Answer) (s t : SeenNode) → b ≡ true_batch j name → IsName j.plan name → (IsTrueBatch j b → IsName j.plan b.name → Turns j (taken_turn j b.name) a s t) → Turns j (taken_turn j name) a s t
unfolding true_batch
deliver_turns j b name a s t e ok h =
    let named : b.name ≡ name = ap (λ (x : BatchValue). x.name) e in
    subst (λ (n : BatchName). Turns j (taken_turn j n) a s t) named (h (e ∙ ap (true_batch j) (sym named)) (subst (λ (n : BatchName). IsName j.plan n) (sym named) ok))

-- the node of a replica that was found
pub record IsNodeOf (o : Option SeenNode) (r : State) : Type 0 where
  pub node : SeenNode
  pub is : o ≡ Some node
  pub replica : node.replica ≡ r

pub node_of_replica : (o : Option SeenNode) (r : State) → Some r ≡ option_map (λ (n : SeenNode). n.replica) o → IsNodeOf o r
node_of_replica None r e = absurd (cc)
node_of_replica (Some s) r e = record { node = s; is = refl; replica = ap (λ x. unwrap_or x r) (sym e) }

-- the batch of a message that was read back
ok_in : BatchValue → Result BatchValue BatchError → BatchValue
ok_in d (Ok b) = b
ok_in d (Err e) = d

pub read_gives : (j : Job) (name : BatchName) (m : SeenMessage) (b : BatchValue) → IsJob j → IsName j.plan name → m ≡ message_of (true_batch j name) →
    ((x : BatchValue) → IsBatch x → AgreesButJob m.plan x.plan → m.bytes ≡ batch_bytes x → GivesBatchOrMemory (Ok b) (Ok x)) → b ≡ true_batch j name
unfolding true_batch ok_in
read_gives j name m b job ok is only =
    let same : m.plan ≡ j.plan = ap (λ (x : SeenMessage). x.plan) is in
    let agrees : AgreesButJob m.plan j.plan = ap (λ (p : PlanValue). record p { job = j.plan.job }) (sym same) in
    ap (ok_in b) (only (true_batch j name) (true_is_batch j name job ok.superstep ok.source ok.target) agrees (ap (λ (x : SeenMessage). x.bytes) is))

-- what was spelled is refused for want of memory alone
pub read_wants : (e : BatchError) (b : BatchValue) → GivesBatchOrMemory (Err e) (Ok b) → e ≡ unread.Memory
read_wants unread.Memory b g = refl
read_wants e b g = absurd (cc)

pub only_wants : (m : SeenMessage) (e : BatchError) → IsMessage m → ((x : BatchValue) → IsBatch x → AgreesButJob m.plan x.plan → m.bytes ≡ batch_bytes x → GivesBatchOrMemory (Err e) (Ok x)) → e ≡ unread.Memory
only_wants m e k only =
    let same : m.plan ≡ k.batch.plan = ap (λ (x : SeenMessage). x.plan) k.is in
    let agrees : AgreesButJob m.plan k.batch.plan = ap (λ (p : PlanValue). record p { job = k.batch.plan.job }) (sym same) in
    read_wants e k.batch (only k.batch k.is_batch agrees (ap (λ (x : SeenMessage). x.bytes) k.is))

-- what a node that was found sends
pub send_found : (j : Job) (id : NodeId) (q : ℕ) (a : Answer) (b : BatchValue) (u v : SeenWorld) (r : State) → IsNodeOf (seen_at v id) r → q < r.part.plan.parts → q ≢ r.part.number → Tells j r q b →
    a ≡ sent_answer (length v.messages) b → u ≡ record v { messages = v.messages ++ message_of b ∷ [] } → Applies j (event.Send id q) (Ok a) v u
send_found j id q a b u v r k below other tells said new =
    send_applies j id q a b v u v k.node refl k.is
    (subst (λ (x : State). q < x.part.plan.parts) (sym k.replica) below)
    (subst (λ (x : State). q ≢ x.part.number) (sym k.replica) other)
    (subst (λ (x : State). Tells j x q b) (sym k.replica) tells)
    said new
