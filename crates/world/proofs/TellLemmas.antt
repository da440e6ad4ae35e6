-- What is written of a text, one piece after another.
use Rattle.std.proofs.Common.{◌≡◌, ◌-◌, ◌^◌, ◌==◌, ◌&&◌, nat_lt, drop, not, if◌then◌else◌, ◌∙◌, ℕ, suc, ◌+◌, ◌*◌, ◌<◌, ◌≤◌, Bool, true, false, List, [], ◌∷◌, ◌++◌, map, take, get_or, length, refl, ap, arith, sym, subst, append_assoc, append-nil}
use Rattle.std.specs.Prelude.{Option, None, Some, Result, Ok, Err}
use Rattle.std.specs.Io.KnownBytes.{Appends}
use Rattle.std.proofs.KnownBytes.{Appends-trans}
use Rattle.world.specs.declared.tell.TellError.{TellError}
use Rattle.std.specs.List.{flat_map, range_with_len, slice_get}
use Rattle.std.proofs.Math.Seq.{drop-cons, take-suc}
use Rattle.std.proofs.lemmas.Grind.{flat_map-append}
use Rattle.std.proofs.lemmas.List.{map-append, take-append-drop}
use Rattle.replica.proofs.IndexLemmas.Counting.{range_split}
use Rattle.ball_model.specs.declared.names.MergeError.{MergeError}
use Rattle.ball_model.specs.declared.names.NodeId.{NodeId}
use Rattle.ball_model.specs.declared.names.Taken.{Taken}
use Rattle.ball_model.specs.declared.names.TakeError.{TakeError}
use Rattle.ball_model.specs.declared.names.CloseError.{CloseError}
use Rattle.ball_model.specs.declared.names.BatchName.{BatchName}
use Rattle.ball_model.specs.declared.world.Event.{Event}
use Rattle.ball_model.specs.declared.world.Event.TheVariants as event
use Rattle.ball_model.specs.declared.world.Answer.{Answer}
use Rattle.ball_model.specs.declared.world.Answer.TheVariants as answer
use Rattle.ball_model.specs.declared.world.WorldError.{WorldError}
use Rattle.ball_model.specs.declared.world.WorldError.TheVariants as refusal
use Rattle.ball_model.specs.PlanValue.{PlanValue, most_vertices, part_size}
use Rattle.ball_model.specs.Job.{Job, part_of}
use Rattle.ball_model.specs.Batches.{true_batch}
use Rattle.ball_model.specs.Join.{Holding, merge_of}
use Rattle.ball_model.specs.Held.{HasHolding, held_close_answer, held_take_answer}
use Rattle.ball_model.specs.State.{State, own_vertices}
use Rattle.ball_model.specs.World.{Node, World, after_event, answer_in, answer_of, closed_answer, deliver_at, name_to, node_at, node_of, recover_at, sent_answer, outcome_unless, recover_when, run_of, taken_answer, world_in}
use Rattle.ball_model.specs.WorldText.{event_text, events_text, outcome_text, show_unless}
use Rattle.ball_model.proofs.PartLemmas.{vertices_of-strided}
use Rattle.ball_model.proofs.StreamLemmas.{written_both}
use Rattle.graph.proofs.FeedLemmas.{vertex-within}
use Rattle.replica.specs.Seen.{IsState}
use Rattle.ball_model.specs.Streams.{TextWritten}
use Rattle.world.specs.Tell.{BeginsText, Stopped, is_shown}

-- a beginning of a text is one of a longer text
pub begins-more : (a b : Option (List ℕ)) (text more : List ℕ) → BeginsText a b text → BeginsText a b (text ++ more)
begins-more a b text more part = record {
  front = part.front;
  rest = part.rest ++ more;
  split = ap (λ l. l ++ more) part.split ∙ append_assoc part.front part.rest more;
  appended = part.appended;
}

-- a text, and a beginning of the one behind it
pub begins-after : (a b c : Option (List ℕ)) (text more : List ℕ) → Appends a b text → BeginsText b c more → BeginsText a c (text ++ more)
begins-after a b c text more whole part = record {
  front = text ++ part.front;
  rest = part.rest;
  split = ap (λ l. text ++ l) part.split ∙ sym (append_assoc text part.front part.rest);
  appended = Appends-trans a b c text part.front whole part.appended;
}

-- a text that was stopped, with more behind it
pub stopped-more : {W : Type 0} (contents : W → Option (List ℕ)) (failed : W → ℕ) (a b : W) (text more : List ℕ) (e : TellError) →
    Stopped contents failed a b text e → Stopped contents failed a b (text ++ more) e
stopped-more contents failed a b text more e one = record { begun = begins-more (contents a) (contents b) text more one.begun; failed_one = one.failed_one; counted = one.counted }

-- a text, and one behind it that was stopped
pub stopped-after : {W : Type 0} (contents : W → Option (List ℕ)) (failed : W → ℕ) (a b c : W) (text more : List ℕ) (e : TellError) →
    TextWritten contents failed a b text → Stopped contents failed b c more e → Stopped contents failed a c (text ++ more) e
stopped-after contents failed a b c text more e one two = record {
  begun = begins-after (contents a) (contents b) (contents c) text more one.appended two.begun;
  failed_one = λ is. subst (λ n. failed c ≡ n + 1) one.counted (two.failed_one is);
  counted = λ other. two.counted other ∙ one.counted;
}

-- ---- the vertices of a node

-- vertex i of the partition is one of the graph's
pub vertex-below : (v : State) (parts p q n i : ℕ) (plan : PlanValue) → IsState v → parts ≡ v.part.plan.parts → p ≡ v.part.number → plan ≡ v.part.plan →
    n ≡ part_size plan.vertices plan.parts q → q ≡ v.part.number → i < n → i * parts + p < v.part.plan.vertices
vertex-below v parts p q n i plan state parts-is p-is plan-is is q-is lt =
    let size : n ≡ part_size v.part.plan.vertices v.part.plan.parts v.part.number =
    is ∙ ap (λ (l : PlanValue). part_size l.vertices l.parts q) plan-is ∙ ap (λ q. part_size v.part.plan.vertices v.part.plan.parts q) q-is in
    let few : i < part_size v.part.plan.vertices v.part.plan.parts v.part.number = subst (λ m. i < m) size lt in
    rw (parts-is, p-is) (vertex-within v.part.plan.vertices v.part.plan.parts v.part.number i state.part.number few)

-- so its number fits
pub vertex-fits : (v : State) (a b : ℕ) → IsState v → a + b < v.part.plan.vertices → (a < 2 ^ 32) × (a + b < 2 ^ 32)
vertex-fits v a b state lt = let most : v.part.plan.vertices ≤ most_vertices = state.part.plan.vertices_to in (omega arith, omega arith)

-- it is one of the partition's
pub is-own : (v : State) (n q i : ℕ) (plan : PlanValue) → plan ≡ v.part.plan → n ≡ part_size plan.vertices plan.parts q → q ≡ v.part.number → i < n → i < part_size v.part.plan.vertices v.part.plan.parts v.part.number
is-own v n q i plan plan_is is q_is lt =
    subst (λ (m : ℕ). i < m)
    (is ∙ ap (λ (l : PlanValue). part_size l.vertices l.parts q) plan_is ∙ ap (λ (k : ℕ). part_size v.part.plan.vertices v.part.plan.parts k) q_is) lt

-- the vertices of the partition are these
pub own-is : (j : Job) (h : Holding) (v : State) (parts p q n : ℕ) (plan : PlanValue) → HasHolding j h v → parts ≡ v.part.plan.parts → p ≡ v.part.number → plan ≡ v.part.plan →
    n ≡ part_size plan.vertices plan.parts q → q ≡ v.part.number → own_vertices j h.partition ≡ map (λ i. i * parts + p) (range_with_len 0 n)
unfolding part_of
own-is j h v parts p q n plan has parts-is p-is plan-is is q-is =
    let same-plan : v.part.plan ≡ j.plan = ap (λ part. part.plan) has.stands.part in
    let same : v.part.number ≡ h.partition = ap (λ part. part.number) has.stands.part in
    let number : p ≡ h.partition = p-is ∙ same in
    let dealt : parts ≡ j.plan.parts = parts-is ∙ ap (λ (l : PlanValue). l.parts) same-plan in
    let size : n ≡ part_size j.graph.vertices j.plan.parts h.partition =
    is
    ∙ ap (λ (l : PlanValue). part_size l.vertices l.parts q) (plan-is ∙ same-plan)
    ∙ ap (λ m. part_size m j.plan.parts q) has.stands.job.vertices
    ∙ ap (λ q. part_size j.graph.vertices j.plan.parts q) (q-is ∙ same) in
    rw (number, dealt, size) (vertices_of-strided j.graph.vertices j.plan.parts h.partition has.stands.partition)

-- the texts of the first i of some numbers
abbrev pub first-texts : (ℕ → List ℕ) → (ℕ → ℕ) → ℕ → List ℕ
first-texts g f i = flat_map g (map f (range_with_len 0 i))

texts-cut : (g : ℕ → List ℕ) (f : ℕ → ℕ) (i k : ℕ) → first-texts g f (i + suc k) ≡ first-texts g f i ++ (g (f i) ++ flat_map g (map f (range_with_len (i + 1) k)))
texts-cut g f i k =
    let at : 0 + i ≡ i = omega arith in
    ap (λ l. flat_map g (map f l)) (range_split 0 i (suc k) ∙ ap (λ b. range_with_len 0 i ++ range_with_len b (suc k)) at)
    ∙ ap (flat_map g) (map-append f (range_with_len 0 i) (range_with_len i (suc k)))
    ∙ flat_map-append g (map f (range_with_len 0 i)) (map f (range_with_len i (suc k)))

-- one of them more was written
pub told-next : {W : Type 0} (contents : W → Option (List ℕ)) (failed : W → ℕ) (a b c : W) (g : ℕ → List ℕ) (f : ℕ → ℕ) (i x : ℕ) → x ≡ f i →
    TextWritten contents failed a b (first-texts g f i) → TextWritten contents failed b c (g x) → TextWritten contents failed a c (first-texts g f (i + 1))
told-next contents failed a b c g f i x at one two =
    let same : first-texts g f (i + suc 0) ≡ first-texts g f i ++ g x = texts-cut g f i 0 ∙ ap (λ l. first-texts g f i ++ l) (append-nil (g (f i)) ∙ ap g (sym at)) in
    let next : i + 1 ≡ i + suc 0 = omega arith in
    rw (next, same) (written_both contents failed a b c (first-texts g f i) (g x) one two)

-- or not to its end
pub stopped-next : {W : Type 0} (contents : W → Option (List ℕ)) (failed : W → ℕ) (a b c : W) (g : ℕ → List ℕ) (f : ℕ → ℕ) (i n x : ℕ) (e : TellError) → x ≡ f i → i < n →
    TextWritten contents failed a b (first-texts g f i) → Stopped contents failed b c (g x) e → Stopped contents failed a c (first-texts g f n) e
stopped-next contents failed a b c g f i n x e at lt one two =
    let k : ℕ = n - (i + 1) in
    let long : n ≡ i + suc (n - (i + 1)) = omega arith in
    let rest : List ℕ = flat_map g (map f (range_with_len (i + 1) k)) in
    let same : first-texts g f n ≡ first-texts g f i ++ (g x ++ rest) = ap (first-texts g f) long ∙ texts-cut g f i k ∙ ap (λ y. first-texts g f i ++ (g y ++ rest)) (sym at) in
    rw same (stopped-after contents failed a b c (first-texts g f i) (g x ++ rest) e one (stopped-more contents failed b c (g x) rest e two))

-- ---- events

pub shown-is : (r : Result Answer WorldError) → is_shown r ≡ true → r ≡ Ok answer.Shown
shown-is (Ok answer.Shown) is = refl
shown-is (Ok (answer.Sent m name changed rows)) is = absurd (cc)
shown-is (Ok (answer.Took t)) is = absurd (cc)
shown-is (Ok (answer.NotTaken e)) is = absurd (cc)
shown-is (Ok (answer.Closed t)) is = absurd (cc)
shown-is (Ok (answer.NotClosed e)) is = absurd (cc)
shown-is (Ok (answer.Kept t)) is = absurd (cc)
shown-is (Ok (answer.Restarted t)) is = absurd (cc)
shown-is (Ok (answer.Copied c t)) is = absurd (cc)
shown-is (Ok (answer.Merged t)) is = absurd (cc)
shown-is (Ok (answer.NotMerged e)) is = absurd (cc)
shown-is (Err e) is = absurd (cc)

taken-shows-none : (r : Result Taken TakeError) → is_shown (Ok (taken_answer r)) ≡ false
taken-shows-none (Ok t) = refl
taken-shows-none (Err e) = refl

closed-shows-none : (r : Result ℕ CloseError) → is_shown (Ok (closed_answer r)) ≡ false
closed-shows-none (Ok t) = refl
closed-shows-none (Err e) = refl

no-show : (A : Type 0) (r : Result Answer WorldError) → is_shown r ≡ false → is_shown r ≡ true → A
no-show A r other is = absurd (cc)

shown-at : (j : Job) (w : World) (e : Event) (o : Option Node) → is_shown (answer_in (outcome_unless j w e o)) ≡ true → world_in w (outcome_unless j w e o) ≡ w
shown-at j w e None is = refl
shown-at j w (event.Send id q) (Some n) is = sent (nat_lt q j.plan.parts && not (q == n.content.partition)) is
  where
    sent : (b : Bool) → is_shown (answer_in (if b then Ok (sent_answer (length w.sent) (true_batch j (name_to n q)), record w { sent = w.sent ++ name_to n q ∷ [] }) else Err refusal.NoTarget)) ≡ true →
        world_in w (if b then Ok (sent_answer (length w.sent) (true_batch j (name_to n q)), record w { sent = w.sent ++ name_to n q ∷ [] }) else Err refusal.NoTarget) ≡ w
    sent true is = absurd (cc)
    sent false is = refl
shown-at j w (event.Deliver m id) (Some n) is = taken (slice_get w.sent m) is
  where
    taken : (o : Option BatchName) → is_shown (answer_in (deliver_at j w id n o)) ≡ true → world_in w (deliver_at j w id n o) ≡ w
    taken None is = refl
    taken (Some name) is = no-show _ (Ok (taken_answer (held_take_answer j n.content name))) (taken-shows-none (held_take_answer j n.content name)) is
shown-at j w (event.Close id) (Some n) is = no-show _ (Ok (closed_answer (held_close_answer j n.content))) (closed-shows-none (held_close_answer j n.content)) is
shown-at j w (event.Keep id) (Some n) is = absurd (cc)
shown-at j w (event.Restart id) (Some n) is = absurd (cc)
shown-at j w (event.Copy id) (Some n) is = absurd (cc)
shown-at j w (event.Recover id c) (Some n) is = merged (slice_get w.copies c) is
  where
    merged : (o : Option Holding) → is_shown (answer_in (recover_at w id n o)) ≡ true → world_in w (recover_at w id n o) ≡ w
    merged None is = refl
    merged (Some h) is = joined (merge_of n.content.plan n.content.partition h.plan h.partition) is
      where
        joined : (r : Result (Unit {0}) MergeError) → is_shown (answer_in (recover_when w id n h r)) ≡ true → world_in w (recover_when w id n h r) ≡ w
        joined (Ok u) is = absurd (cc)
        joined (Err e) is = refl
shown-at j w (event.Show id) (Some n) is = refl

-- a look at a node changes nothing
pub shown-leaves : (j : Job) (w : World) (e : Event) (r : Result Answer WorldError) → r ≡ answer_of j w e → is_shown r ≡ true → after_event j w e ≡ w
shown-leaves j w e r is shown = shown-at j w e (node_at w (node_of e)) (ap is_shown (sym is) ∙ shown)

-- the text of a node that is looked at
pub shown-text : (j : Job) (w : World) (e : Event) (r : Result Answer WorldError) (id : NodeId) → r ≡ answer_of j w e → is_shown r ≡ true → id ≡ node_of e → show_unless j id (node_at w id) ≡ event_text j w e
unfolding event_text
shown-text j w e r id is shown at =
    ap (λ id. show_unless j id (node_at w id)) at ∙ ap (outcome_text j w e) (sym (shown-is r shown) ∙ is)

-- the text of another event
pub other-text : (j : Job) (w : World) (e : Event) (r : Result Answer WorldError) → r ≡ answer_of j w e → outcome_text j w e r ≡ event_text j w e
unfolding event_text
other-text j w e r is = ap (outcome_text j w e) is

pub run-more : (j : Job) (w : World) (es : List Event) (e : Event) → run_of j w (es ++ e ∷ []) ≡ after_event j (run_of j w es) e
unfolding run_of
run-more j w [] e = refl
run-more j w (x ∷ es) e = run-more j (after_event j w x) es e

pub events-cut : (j : Job) (w : World) (es more : List Event) → events_text j w (es ++ more) ≡ events_text j w es ++ events_text j (run_of j w es) more
unfolding events_text run_of
events-cut j w [] more = refl
events-cut j w (x ∷ es) more =
    ap (λ l. event_text j w x ++ l) (events-cut j (after_event j w x) es more)
    ∙ sym (append_assoc (event_text j w x) (events_text j (after_event j w x) es) (events_text j (run_of j (after_event j w x) es) more))

one-event : (j : Job) (w : World) (e : Event) (more : List Event) → events_text j w (e ∷ more) ≡ event_text j w e ++ events_text j (after_event j w e) more
unfolding events_text
one-event j w e more = refl

-- the text of one event more was written
pub event-told : {W : Type 0} (contents : W → Option (List ℕ)) (failed : W → ℕ) (a b c : W) (j : Job) (w : World) (es : List Event) (i : ℕ) (d : Event) → i < length es →
    TextWritten contents failed a b (events_text j w (take i es)) → TextWritten contents failed b c (event_text j (run_of j w (take i es)) (get_or es i d)) →
    TextWritten contents failed a c (events_text j w (take (i + 1) es))
unfolding events_text
event-told contents failed a b c j w es i d lt one two =
    let e = get_or es i d in
    let next : i + 1 ≡ suc i = omega arith in
    let before : List Event = take i es in
    let same : events_text j w (take (i + 1) es) ≡ events_text j w before ++ event_text j (run_of j w before) e =
    ap (λ n. events_text j w (take n es)) next
    ∙ ap (events_text j w) (take-suc es i d lt)
    ∙ events-cut j w before (e ∷ [])
    ∙ ap (λ l. events_text j w before ++ l) (append-nil (event_text j (run_of j w before) e)) in
    rw same (written_both contents failed a b c (events_text j w before) (event_text j (run_of j w before) e) one two)

-- and the world is the one after it
pub event-shown : (j : Job) (w : World) (es : List Event) (i : ℕ) (d : Event) → i < length es → after_event j (run_of j w (take i es)) (get_or es i d) ≡ run_of j w (take (i + 1) es)
event-shown j w es i d lt =
    let next : i + 1 ≡ suc i = omega arith in
    sym (ap (λ n. run_of j w (take n es)) next ∙ ap (run_of j w) (take-suc es i d lt) ∙ run-more j w (take i es) (get_or es i d))

-- the text of an event was not written to its end
pub event-stopped : {W : Type 0} (contents : W → Option (List ℕ)) (failed : W → ℕ) (a b c : W) (j : Job) (w : World) (es : List Event) (i : ℕ) (d : Event) (f : TellError) → i < length es →
    TextWritten contents failed a b (events_text j w (take i es)) → Stopped contents failed b c (event_text j (run_of j w (take i es)) (get_or es i d)) f →
    Stopped contents failed a c (events_text j w es) f
event-stopped contents failed a b c j w es i d f lt one two =
    let e = get_or es i d in
    let before : List Event = take i es in
    let here : World = run_of j w before in
    let rest : List Event = drop (suc i) es in
    let same : events_text j w es ≡ events_text j w before ++ (event_text j here e ++ events_text j (after_event j here e) rest) =
    ap (events_text j w) (sym (take-append-drop i es))
    ∙ ap (λ l. events_text j w (before ++ l)) (drop-cons es i d lt)
    ∙ events-cut j w before (e ∷ rest)
    ∙ ap (λ l. events_text j w before ++ l) (one-event j here e rest) in
    rw same (stopped-after contents failed a b c (events_text j w before) (event_text j here e ++ events_text j (after_event j here e) rest) f one
    (stopped-more contents failed b c (event_text j here e) (events_text j (after_event j here e) rest) f two))
